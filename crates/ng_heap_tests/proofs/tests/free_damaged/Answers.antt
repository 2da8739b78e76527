use Rattle.std.proofs.Common.{sym, subst}
use Rattle.ng_space.specs.Callers.{Caller}
use Rattle.ng_heap_tests.specs.Tests.{MayClose}
use Rattle.ng_heap_tests.proofs.tests.free_damaged.Goals as goal

pub refused_in-block-requires-clause-closes : goal.refused_in-block-requires-clause-closes
refused_in-block-requires-clause-closes g c = c.spoil.ensures.closes c.given-block.new.core.seat c.given-block.ensures.closes

pub end-requires-clause-closes : goal.end-requires-clause-closes
end-requires-clause-closes g c =
    let may = c.refused_unlocked-block.ensures.closes c.refused_in-block.new.core.seat
    (c.spoil-2.ensures.closes c.refused_in-block.new.core.seat c.refused_in-block.ensures.closes) in
    subst (λ (hand : Caller). MayClose c.refused_in-block.new.core.seat hand) (sym c.leave.ensures) may
