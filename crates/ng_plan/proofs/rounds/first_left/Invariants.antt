use Rattle.ng_plan.specs.Schedules.{DoneBelow}
use Rattle.ng_plan.proofs.rounds.first_left.Given as goal

-- the logs so far have no op left
abbrev pub invariant-loop-log : goal.invariant-loop-log
invariant-loop-log l = DoneBelow l.schedule l.logs l.log
