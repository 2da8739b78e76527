use Rattle.std.proofs.Common.{arith}
use Rattle.ng_history.proofs.LiveLemmas.{resized-from}
use Rattle.ng_history.proofs.live.set_length.Goals as goal

pub returns : goal.returns
returns c = resized-from _ _ _ _ c.loop-block.invariant.count (λ k d below. c.loop-block.invariant.before k d (omega arith))
