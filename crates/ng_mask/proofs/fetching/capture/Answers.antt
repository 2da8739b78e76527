use Rattle.std.proofs.Common.{sym, subst}
use Rattle.ng_mask.specs.Fetches.{Captures}
use Rattle.ng_mask.proofs.Fetches.{captures, emptied_lives}
use Rattle.ng_mask.proofs.fetching.capture.Goals as goal

pub take-freed-requires-clause-live : goal.take-freed-requires-clause-live
take-freed-requires-clause-live g c = let told = c.empty_avail-avail.ensures in emptied_lives _ _ c.args.meta told.0 c.requires.live told.2

pub returns : goal.returns
returns g c =
    let told = c.empty_avail-avail.ensures in
    record { captured = subst (λ n. Captures c.args.seat.now c.args.meta n c.take-freed.result c.take-freed.new.seat) (sym told.1) (captures _ _ c.args.meta told.0 c.requires.live told.2 _ c.take-freed.result c.take-freed.ensures.taken) }
