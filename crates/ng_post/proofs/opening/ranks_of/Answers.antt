use Rattle.std.proofs.Common.{◌<◌, ℕ, arith}
use Rattle.std.proofs.lemmas.List.Elements.{All-get_or}
use Rattle.ng_post.proofs.opening.ranks_of.Goals as goal

pub index_mut-count-requires : goal.index_mut-count-requires
index_mut-count-requires c =
    omega (
      arith,
      c.loop-receiver.invariant,
      All-get_or (λ (log : ℕ). log < c.args.logs) c.args.receivers.now c.loop-receiver.receiver-index 0 c.loop-receiver-test.true c.requires.receivers,
    )
