use Rattle.std.proofs.Common.{◌≡◌, ◌+◌, ◌*◌, ◌/◌, ◌<◌, ⊎_elim, subst, arith}
use Rattle.ng_meta.specs.Place.{IsMetaPlace}
use Rattle.ng_view.specs.LockSteps.{active_set}
use Rattle.ng_view.specs.May.{May}
use Rattle.ng_rule.proofs.lock.LockNotes.{active_may}
use Rattle.ng_space.proofs.Annotated.{active_stays}
use Rattle.ng_space.proofs.space.Space.set_active.Goals as goal

pub store_told-requires-clause-may : goal.store_told-requires-clause-may
store_told-requires-clause-may g c =
    let few = c.args.self.now.range.addressed in
    let small : c.args.meta < 4294967296 = ⊎_elim
    (λ (none : c.args.meta ≡ 0). omega arith)
    (λ (place : IsMetaPlace c.args.meta g.N.Name.facts.start.pages). let i = place.inside in let n = place.counted in let is = place.stands in omega arith)
    c.requires.meta in
    let same = c.from.ensures in
    let at : 4 * (c.args.class + 1) ≡ 4 + 4 * c.from.result = omega arith in
    subst (λ a. May g.N.Name.facts.start c.seat.inside.seat.id c.seat.inside.seat.me.0 (a / 4) (λ n. c.args.meta) (λ v n w. w ≡ active_set v c.args.class c.args.meta)) at
    (active_may _ _ _ c.seat.invariant.leads c.args.class c.args.meta c.requires.class small c.requires.meta)

pub invariant_of-seat : goal.invariant_of-seat
invariant_of-seat g c = active_stays _ _ _ _ _ c.seat.invariant c.store_told.ensures.table c.store_told.ensures.slots c.args.class c.args.meta c.store_told.ensures.told
