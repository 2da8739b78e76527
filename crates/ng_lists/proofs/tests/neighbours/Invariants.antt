use Rattle.std.proofs.Common.{◌≡◌}
use Rattle.ng_lists.proofs.tests.neighbours.Given as goal

-- the rings are of 16 pages
abbrev pub invariant-loop-class : goal.invariant-loop-class
invariant-loop-class g l = l.rings.pages ≡ 16
