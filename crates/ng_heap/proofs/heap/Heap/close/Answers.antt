use Rattle.std.proofs.Common.{sym, subst}
use Rattle.ng_space.specs.Closings.{IsClosed}
use Rattle.ng_view.specs.Conditions.{IsBlanked, IsSettled}
use Rattle.ng_view.specs.declared.view.View.{View}
use Rattle.ng_heap.proofs.heap.Heap.close.Goals as goal

pub close-image-requires-clause-settled : goal.close-image-requires-clause-settled
close-image-requires-clause-settled g c = subst (λ (v : View). IsSettled v) (sym c.close-seat.ensures.seat) c.close-seat.ensures.settled

pub close-image-requires-clause-blanked : goal.close-image-requires-clause-blanked
close-image-requires-clause-blanked g c = subst (λ (v : View). IsBlanked v) (sym c.close-seat.ensures.seat) c.close-seat.ensures.blanked

pub returns-clause-closed : goal.returns-clause-closed
returns-clause-closed g c =
    subst (λ (v : View). IsClosed g.N.Name.facts.start c.close-image.result.0.words v c.args.hands.items) c.close-seat.ensures.seat c.close-image.ensures.closed
