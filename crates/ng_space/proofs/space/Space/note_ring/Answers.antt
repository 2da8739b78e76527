use Rattle.std.proofs.Common.{sym, subst, arith}
use Rattle.ng_view.specs.declared.view.View.{View}
use Rattle.ng_view.specs.Fetches.{HasGroup}
use Rattle.ng_rule.proofs.lock.Noting.{notes_ring}
use Rattle.ng_space.proofs.Locked.{word_inside}
use Rattle.ng_space.proofs.Annotated.{ring_stays}
use Rattle.ng_space.proofs.space.Space.note_ring.Goals as goal

pub ring_told-requires-clause-may : goal.ring_told-requires-clause-may
ring_told-requires-clause-may g c = notes_ring _ _ _ c.seat.invariant.leads c.args.meta c.args.listed (subst (λ (v : View). HasGroup v c.args.meta) (sym c.seat.view_is) c.requires.live)

pub overflow_cast-result : goal.overflow_cast-result
overflow_cast-result g c =
    let has = subst (λ (v : View). HasGroup v c.args.meta) (sym c.seat.view_is) c.requires.live in
    let small = (c.ring_told.ensures.told.tells has.group has.there has.of_meta).fits in record { fits = omega arith }

pub invariant_of-seat : goal.invariant_of-seat
invariant_of-seat g c = ring_stays _ _ _ _ _ c.seat.invariant c.ring_told.ensures.table c.ring_told.ensures.slots c.args.meta c.args.listed c.ring_told.result c.ring_told.ensures.told

pub ring_told-requires-clause-inside : goal.ring_told-requires-clause-inside
ring_told-requires-clause-inside g c = word_inside _ _ _ _ c.args.meta 28 c.seat.invariant (subst (λ (v : View). HasGroup v c.args.meta) (sym c.seat.view_is) c.requires.live) (omega arith)

pub overflow_add-meta : goal.overflow_add-meta
overflow_add-meta g c = let inside = word_inside _ _ _ _ c.args.meta 28 c.seat.invariant (subst (λ (v : View). HasGroup v c.args.meta) (sym c.seat.view_is) c.requires.live) (omega arith) in let few = c.args.self.now.range.addressed in record { fits = omega arith }
