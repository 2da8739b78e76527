use Rattle.std.proofs.Common.{◌≡◌, ◌≤◌, length, take, drop, map}
use Rattle.std.specs.Prelude.{All}
use Rattle.ng_plan.specs.Steps.{steps_behind}
use Rattle.ng_plan.specs.Tables.{AreEnding, IsNumbered, named}
use Rattle.ng_plan.proofs.steps.fill.Given as goal

-- from the end back to here each line has its step
abbrev pub invariant-loop-rest : goal.invariant-loop-rest
invariant-loop-rest l = record {
  within : l.rest ≤ length l.lines;
  told : map (named l.names) (drop l.rest l.steps) ≡ steps_behind (take l.rest l.lines) (drop l.rest l.lines);
  numbers : All (IsNumbered (length l.names)) l.steps;
  ending : AreEnding l.names l.ending (drop l.rest l.lines);
}

abbrev pub decreases-loop-rest : goal.decreases-loop-rest
decreases-loop-rest l = l.rest
