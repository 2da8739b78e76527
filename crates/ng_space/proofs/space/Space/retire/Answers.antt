use Rattle.std.proofs.Common.{sym, subst, arith}
use Rattle.ng_view.specs.declared.view.View.{View}
use Rattle.ng_view.specs.Fetches.{HasGroup}
use Rattle.ng_view.specs.Groups.{HasAllSlots}
use Rattle.ng_rule.proofs.lock.Retiring.{retires}
use Rattle.ng_space.proofs.Locked.{word_inside}
use Rattle.ng_space.proofs.Lived.{retires_stays}
use Rattle.ng_space.proofs.space.Space.retire.Goals as goal

pub store_told-requires-clause-may : goal.store_told-requires-clause-may
store_told-requires-clause-may g c = retires _ _ _ c.seat.invariant.leads c.seat.invariant.moving c.args.meta (subst (λ (v : View). HasAllSlots v c.args.meta) (sym c.seat.view_is) c.requires.slots)

pub invariant_of-seat : goal.invariant_of-seat
invariant_of-seat g c = retires_stays _ _ _ _ _ c.seat.invariant c.store_told.ensures.table c.store_told.ensures.slots c.args.meta c.store_told.ensures.told

pub store_told-requires-clause-inside : goal.store_told-requires-clause-inside
store_told-requires-clause-inside g c = word_inside _ _ _ _ c.args.meta 24 c.seat.invariant (subst (λ (v : View). HasGroup v c.args.meta) (sym c.seat.view_is) c.requires.slots.live) (omega arith)

pub overflow_add-meta : goal.overflow_add-meta
overflow_add-meta g c = let inside = word_inside _ _ _ _ c.args.meta 24 c.seat.invariant (subst (λ (v : View). HasGroup v c.args.meta) (sym c.seat.view_is) c.requires.slots.live) (omega arith) in let few = c.args.self.now.range.addressed in record { fits = omega arith }
