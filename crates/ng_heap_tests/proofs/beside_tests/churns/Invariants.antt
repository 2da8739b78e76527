use Rattle.ng_space.specs.Tests.{HasEntered}
use Rattle.ng_heap_tests.proofs.beside_tests.churns.Given as goal

abbrev pub invariant-loop-round : goal.invariant-loop-round
invariant-loop-round g l = HasEntered l.fn.hand l.hand
