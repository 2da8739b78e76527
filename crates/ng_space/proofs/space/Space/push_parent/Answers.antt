use Rattle.std.proofs.Common.{sym, subst, arith}
use Rattle.ng_view.specs.declared.view.View.{View}
use Rattle.ng_view.specs.Fetches.{MayPutBack}
use Rattle.ng_rule.proofs.lock.Fetching.{pushes_back}
use Rattle.ng_space.proofs.Locked.{word_inside}
use Rattle.ng_space.proofs.Fetched.{pushes_stays}
use Rattle.ng_space.proofs.space.Space.push_parent.Goals as goal

pub or_told-requires-clause-may : goal.or_told-requires-clause-may
or_told-requires-clause-may g c =
    let view = sym c.seat.view_is in let bits = c.from-bits.ensures in
    pushes_back _ _ _ c.seat.invariant.leads _ c.from-bits.result (subst (λ n. MayPutBack c.seat.inside.seat.me.0 c.args.meta n) (sym bits) (subst (λ (v : View). MayPutBack v c.args.meta c.args.bits) view c.requires.slots))
    (let f = c.ranges.bits.fits in omega arith)

pub overflow_cast-result : goal.overflow_cast-result
overflow_cast-result g c =
    let has = subst (λ (v : View). MayPutBack v c.args.meta c.args.bits) (sym c.seat.view_is) c.requires.slots in
    let small = (c.or_told.ensures.told.tells has.group has.there has.of_meta).fits in record { fits = omega arith }

pub invariant_of-seat : goal.invariant_of-seat
invariant_of-seat g c = pushes_stays _ _ _ _ _ c.seat.invariant c.or_told.ensures.table c.or_told.ensures.slots c.args.meta c.from-bits.result c.or_told.result c.or_told.ensures.told

pub or_told-requires-clause-inside : goal.or_told-requires-clause-inside
or_told-requires-clause-inside g c = word_inside _ _ _ _ c.args.meta 28 c.seat.invariant (let back = subst (λ (v : View). MayPutBack v c.args.meta c.args.bits) (sym c.seat.view_is) c.requires.slots in record { group = back.group; there = back.there; of_meta = back.of_meta }) (omega arith)

pub overflow_add-meta : goal.overflow_add-meta
overflow_add-meta g c = let inside = word_inside _ _ _ _ c.args.meta 28 c.seat.invariant (let back = subst (λ (v : View). MayPutBack v c.args.meta c.args.bits) (sym c.seat.view_is) c.requires.slots in record { group = back.group; there = back.there; of_meta = back.of_meta }) (omega arith) in let few = c.args.self.now.range.addressed in record { fits = omega arith }
