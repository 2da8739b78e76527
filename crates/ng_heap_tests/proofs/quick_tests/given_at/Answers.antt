use Rattle.std.proofs.Common.{sym, subst}
use Rattle.ng_space.specs.Callers.{Caller}
use Rattle.ng_heap_tests.specs.Tests.{MayClose}
use Rattle.ng_heap_tests.proofs.TestLemmas.{quick_may}
use Rattle.ng_heap_tests.proofs.quick_tests.given_at.Goals as goal

pub returns : goal.returns
returns g c = record {
  closes = λ seat may.
      subst (λ (hand : Caller). MayClose seat hand) (sym c.leave.ensures)
      (quick_may 20 c.args.hand.now c.malloc_unlocked.result c.malloc_unlocked.new.hand c.malloc_unlocked.ensures.leaves seat may);
}
