use Rattle.std.proofs.Common.{◌≡◌}
use Rattle.ng_replay.proofs.turns.leave_row.Given as goal

abbrev pub invariant-loop-place : goal.invariant-loop-place
invariant-loop-place g l = l.hand ≡ l.initial.hand

abbrev pub decreases-loop-place : goal.decreases-loop-place
decreases-loop-place g l = goal.left-loop-place g l
