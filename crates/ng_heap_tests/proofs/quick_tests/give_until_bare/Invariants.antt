use Rattle.ng_heap_tests.specs.Tests.{MayClose}
use Rattle.ng_heap_tests.proofs.quick_tests.give_until_bare.Given as goal

abbrev pub invariant-loop-further : goal.invariant-loop-further
invariant-loop-further g l = MayClose l.core.seat l.hand
