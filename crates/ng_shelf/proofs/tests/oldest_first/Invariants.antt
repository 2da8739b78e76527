use Rattle.std.proofs.Common.{◌≡◌}
use Rattle.ng_shelf.proofs.tests.oldest_first.Given as goal

-- the list is of 16 pages
abbrev pub invariant-loop-at : goal.invariant-loop-at
invariant-loop-at g l = l.free.pages ≡ 16
