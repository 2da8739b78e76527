use Rattle.std.proofs.Common.{All, Contains}
use Rattle.ng_lists.specs.Rings.{ring_of}
use Rattle.ng_lists.proofs.tests.is_in.Given as goal

-- what is looked through is in the ring
abbrev pub invariant-loop-other : goal.invariant-loop-other
invariant-loop-other l = All (Contains (ring_of l.rings l.class)) l.other-items
