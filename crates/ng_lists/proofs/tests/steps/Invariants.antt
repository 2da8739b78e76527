use Rattle.std.proofs.Common.{◌≡◌}
use Rattle.ng_lists.proofs.tests.steps.Given as goal

-- the rings are of 16 pages
abbrev pub invariant-loop-step : goal.invariant-loop-step
invariant-loop-step g l = l.rings.pages ≡ 16
