use Rattle.std.proofs.Common.{◌≡◌, map, take}
use Rattle.ng_plan.specs.Plans.{lines_of}
use Rattle.ng_plan.specs.Steps.{owns_of}
use Rattle.ng_plan.proofs.planning.all_owns.Given as goal

-- the own ops of the logs so far
abbrev pub invariant-loop-log : goal.invariant-loop-log
invariant-loop-log l = l.all.items ≡ map owns_of (take l.log-index (lines_of l.logs))
