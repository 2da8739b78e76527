use Rattle.ng_heap_tests.specs.Tests.{AreOwn}
use Rattle.ng_space.specs.Tests.{HasEntered}
use Rattle.ng_heap_tests.proofs.beside_tests.asks.Given as goal

abbrev pub invariant-loop-addr : goal.invariant-loop-addr
invariant-loop-addr g l = record {
  own : AreOwn l.hand l.held.items;
  entered : HasEntered l.fn.hand l.hand;
}
