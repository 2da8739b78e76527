use Rattle.std.proofs.Common.{sym, subst, arith}
use Rattle.ng_view.specs.declared.view.View.{View}
use Rattle.ng_view.specs.Fetches.{EmptiesAvail, HasGroup}
use Rattle.ng_rule.proofs.lock.Fetching.{empties}
use Rattle.ng_space.proofs.Locked.{word_inside}
use Rattle.ng_space.proofs.Fetched.{empties_stays}
use Rattle.ng_space.proofs.space.Space.empty_avail.Goals as goal

pub and_told-found-requires-clause-may : goal.and_told-found-requires-clause-may
and_told-found-requires-clause-may g c = empties _ _ _ c.seat.invariant.leads _ (subst (λ (v : View). HasGroup v c.args.meta) (sym c.seat.view_is) c.requires.live)

pub invariant_of-seat : goal.invariant_of-seat
invariant_of-seat g c = empties_stays _ _ _ _ _ c.seat.invariant c.and_told-found.ensures.table c.and_told-found.ensures.slots c.args.meta c.and_told-found.result
    (subst (λ (v : View). HasGroup v c.args.meta) (sym c.seat.view_is) c.requires.live) c.and_told-found.ensures.told

pub returns : goal.returns
returns g c = (c.and_told-found.result, c.mask_of.ensures, subst (λ (v : View). EmptiesAvail v c.args.meta c.and_told-found.result c.and_told-found.new.seat.me.0) c.seat.view_is c.and_told-found.ensures.told)

pub and_told-found-requires-clause-inside : goal.and_told-found-requires-clause-inside
and_told-found-requires-clause-inside g c = word_inside _ _ _ _ c.args.meta 24 c.seat.invariant (subst (λ (v : View). HasGroup v c.args.meta) (sym c.seat.view_is) c.requires.live) (omega arith)

pub overflow_add-meta : goal.overflow_add-meta
overflow_add-meta g c = let inside = word_inside _ _ _ _ c.args.meta 24 c.seat.invariant (subst (λ (v : View). HasGroup v c.args.meta) (sym c.seat.view_is) c.requires.live) (omega arith) in let few = c.args.self.now.range.addressed in record { fits = omega arith }
