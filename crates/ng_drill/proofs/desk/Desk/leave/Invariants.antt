use Rattle.std.proofs.Common.{◌≡◌}
use Rattle.ng_drill.proofs.desk.Desk.leave.Given as goal

abbrev pub invariant-loop-block : goal.invariant-loop-block
invariant-loop-block g l = l.hand ≡ l.initial.hand

abbrev pub decreases-loop-block : goal.decreases-loop-block
decreases-loop-block g l = goal.left-loop-block g l
