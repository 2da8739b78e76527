use Rattle.std.proofs.Common.{◌≡◌, length, map, take}
use Rattle.std.specs.Prelude.{All}
use Rattle.ng_plan.specs.Plans.{lines_of}
use Rattle.ng_plan.specs.Schedules.{named_logs}
use Rattle.ng_plan.specs.Steps.{steps_of}
use Rattle.ng_plan.specs.Tables.{IsNumbered}
use Rattle.ng_plan.proofs.planning.all_steps.Given as goal

-- the steps of the logs so far
abbrev pub invariant-loop-at : goal.invariant-loop-at
invariant-loop-at l = record {
  steps : named_logs l.names l.all.items ≡ map steps_of (take l.at (lines_of l.logs));
  numbers : All (All (IsNumbered (length l.names))) l.all.items;
}
