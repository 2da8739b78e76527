use Rattle.std.proofs.Common.{◌+◌, ◌≤◌, length, drop}
use Rattle.ng_plan.specs.Numbers.{AreNumbers}
use Rattle.ng_plan.proofs.numbers.fill.Given as goal

-- from the last place back to here the numbers are written
abbrev pub invariant-loop-rest : goal.invariant-loop-rest
invariant-loop-rest l = record {
  within : l.rest ≤ length l.places;
  numbers : AreNumbers (drop l.rest l.places) (l.rest + 1) l.log l.numbers;
}

abbrev pub decreases-loop-rest : goal.decreases-loop-rest
decreases-loop-rest l = l.rest
