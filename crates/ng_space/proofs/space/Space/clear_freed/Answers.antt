use Rattle.std.proofs.Common.{sym, subst, arith}
use Rattle.ng_view.specs.declared.view.View.{View}
use Rattle.ng_view.specs.Fetches.{HasGroup}
use Rattle.ng_rule.proofs.lock.Fetching.{clears}
use Rattle.ng_space.proofs.Locked.{word_inside}
use Rattle.ng_space.proofs.Fetched.{clears_stays}
use Rattle.ng_space.proofs.space.Space.clear_freed.Goals as goal

pub and_told-requires-clause-may : goal.and_told-requires-clause-may
and_told-requires-clause-may g c = clears _ _ _ c.seat.invariant.leads _ c.from-bits.result (subst (λ (v : View). HasGroup v c.args.meta) (sym c.seat.view_is) c.requires.live) (let e = c.from-bits.ensures in let f = c.ranges.bits.fits in omega arith)

pub overflow_cast-result : goal.overflow_cast-result
overflow_cast-result g c =
    let has = subst (λ (v : View). HasGroup v c.args.meta) (sym c.seat.view_is) c.requires.live in
    let small = (c.and_told.ensures.told.tells has.group has.there has.of_meta).fits in record { fits = omega arith }

pub invariant_of-seat : goal.invariant_of-seat
invariant_of-seat g c = clears_stays _ _ _ _ _ c.seat.invariant c.and_told.ensures.table c.and_told.ensures.slots c.args.meta c.from-bits.result c.and_told.result
    (subst (λ (v : View). HasGroup v c.args.meta) (sym c.seat.view_is) c.requires.live) c.and_told.ensures.told

pub and_told-requires-clause-inside : goal.and_told-requires-clause-inside
and_told-requires-clause-inside g c = word_inside _ _ _ _ c.args.meta 28 c.seat.invariant (subst (λ (v : View). HasGroup v c.args.meta) (sym c.seat.view_is) c.requires.live) (omega arith)

pub overflow_add-meta : goal.overflow_add-meta
overflow_add-meta g c = let inside = word_inside _ _ _ _ c.args.meta 28 c.seat.invariant (subst (λ (v : View). HasGroup v c.args.meta) (sym c.seat.view_is) c.requires.live) (omega arith) in let few = c.args.self.now.range.addressed in record { fits = omega arith }
