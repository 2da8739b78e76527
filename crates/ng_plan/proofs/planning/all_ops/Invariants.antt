use Rattle.std.proofs.Common.{◌≡◌, ℕ, List, take}
use Rattle.ng_plan.specs.Plans.{lines_of, ops_from}
use Rattle.ng_plan.specs.Schedules.{AreTurns}
use Rattle.ng_plan.specs.Turns.{Turns}
use Rattle.ng_plan.proofs.planning.all_ops.Given as goal

-- the ops of the logs so far
abbrev pub invariant-loop-at : goal.invariant-loop-at
invariant-loop-at l = (names : List ℕ) (turns : Turns) → AreTurns names l.schedule turns → l.all ≡ ops_from turns 0 (take l.at (lines_of l.logs))
