use Rattle.std.proofs.Common.{sym, subst}
use Rattle.ng_heap_tests.specs.Tests.{MayClose}
use Rattle.ng_space.specs.Callers.{Caller}
use Rattle.ng_resize_tests.proofs.tests.grow.Goals as goal

pub too_large-block-requires-clause-closes : goal.too_large-block-requires-clause-closes
too_large-block-requires-clause-closes g c = c.reads_back.ensures.closes c.resized-block.new.core.seat c.resized-block.ensures.closes

pub end-requires-clause-closes : goal.end-requires-clause-closes
end-requires-clause-closes g c =
    let may = c.reads_back-2.ensures.closes c.too_large-block.new.core.seat c.too_large-block.ensures.closes in
    subst (λ (hand : Caller). MayClose c.too_large-block.new.core.seat hand) (sym c.leave.ensures) may
