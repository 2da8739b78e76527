use Rattle.std.proofs.Common.{sym, subst}
use Rattle.ng_space.specs.Callers.{Caller}
use Rattle.ng_heap_tests.specs.Tests.{MayClose}
use Rattle.ng_heap_tests.proofs.quick_tests.give_until_bare.Goals as goal

pub given-first-requires-clause-closes : goal.given-first-requires-clause-closes
given-first-requires-clause-closes g c = c.answered.ensures.closes c.in_ok-heap.core.seat c.in_ok-heap.ensures.closes

pub loop-further-init : goal.loop-further-init
loop-further-init g c =
    let seat = c.given-first.new.core.seat in
    let left = subst (λ (hand : Caller). MayClose seat hand) (sym c.leave.ensures) c.given-first.ensures.closes in
    c.answered-3.ensures.closes seat (c.answered-2.ensures.closes seat (c.given_at.ensures.closes seat left))

pub loop-further-preserved : goal.loop-further-preserved
loop-further-preserved g c = c.given_at-in-loop-further.ensures.closes c.given-first.new.core.seat c.loop-further.invariant

pub end-requires-clause-closes : goal.end-requires-clause-closes
end-requires-clause-closes g c = c.answered-4.ensures.closes c.given-first.new.core.seat c.loop-further.invariant
