use Rattle.std.proofs.Common.{ap, ◌∙◌, sym, subst, refl, inl}
use Rattle.ng_rule.proofs.geometry.Lists.{find_among, is_at-true}
use Rattle.ng_meta.specs.Place.{IsMetaPlace}
use Rattle.ng_view.specs.Lists.{is_at}
use Rattle.ng_view.specs.Steps.{with_held}
use Rattle.ng_space.specs.Callers.{Caller}
use Rattle.ng_rule.proofs.hand.Passing.{merge_hand}
use Rattle.ng_view.specs.declared.view.View.{View}
use Rattle.ng_space.specs.Masks.{HasFree}
use Rattle.ng_space.specs.Passed.{HasInMotion, with_slot}
use Rattle.ng_space.proofs.Locked.{lock_stays}
use Rattle.ng_space.proofs.Passed.{one_book, cut_to_hand, passed_free, still-without}
use Rattle.ng_space.proofs.LeavingSlots.{leaves_passed}
use Rattle.ng_space.proofs.space.Space.slot_to_hand.Goals as goal

pub pass_slot-requires-clause-merge : goal.pass_slot-requires-clause-merge
pass_slot-requires-clause-merge g c = let hand = c.hand.invariant in merge_hand _ _ c.seat.invariant.leads hand.follows hand.whole hand.deskless

pub pass_slot-requires-clause-cut : goal.pass_slot-requires-clause-cut
pass_slot-requires-clause-cut g c =
    let hand = c.hand.invariant in
    cut_to_hand _ _ c.seat.invariant.leads c.seat.invariant.moving hand.follows hand.whole hand.deskless (λ none. absurd (let own = hand.own_book in cc)) c.seat.invariant.none_sent c.seat.invariant.none_taken (one_book _ _ hand.own_book) _ _ (subst (λ (v : View). HasInMotion v c.args.meta c.args.index) (sym c.seat.view_is) c.requires.slot)

pub slot_at-requires-clause-free : goal.slot_at-requires-clause-free
slot_at-requires-clause-free g c = subst (λ (w : View). HasFree w c.args.meta c.args.index) (sym (ap (λ me. me.0) c.pass_slot.ensures.own))
    (passed_free c.seat.inside.seat.me.0 c.hand.inside.seat.me.0 _ _ c.seat.invariant.moving (subst (λ (v : View). HasInMotion v c.args.meta c.args.index) (sym c.seat.view_is) c.requires.slot))

pub slot_at-requires-clause-place : goal.slot_at-requires-clause-place
slot_at-requires-clause-place g c =
    let slot = subst (λ (v : View). HasInMotion v c.args.meta c.args.index) (sym c.seat.view_is) c.requires.slot in
    let there = find_among c.args.meta c.args.index c.seat.inside.seat.me.0.held slot.slot slot.found in
    subst (λ m. IsMetaPlace m g.N.Name.facts.start.pages) (is_at-true c.args.meta c.args.index slot.slot.place there.1).0 (c.seat.invariant.standing slot.slot there.0)

pub invariant_of-seat : goal.invariant_of-seat
invariant_of-seat g c =
    let lock = c.pass_slot.ensures.lock in
    lock_stays _ _ _ _ _ _ c.seat.invariant c.pass_slot.ensures.tables.0 (ap (λ me. me.1) lock) (ap (λ me. me.0) lock)
    (record { leads = refl; parcel = refl; books = refl; sent = refl; taken = refl; next = refl; groups = λ g q. inl q; carrying = λ n q. inl q; still = still-without g.N.Name.facts.start.pages c.args.meta c.args.index c.seat.inside.seat.me.0.held })

pub returns-clause-leaves : goal.returns-clause-leaves
returns-clause-leaves g c =
    let lock = c.seat.inside.seat.me.0 in
    let slot = subst (λ (v : View). HasInMotion v c.args.meta c.args.index) (sym c.seat.view_is) c.requires.slot in
    let there = find_among c.args.meta c.args.index lock.held slot.slot slot.found in
    let at = c.slot_at.ensures in
    leaves_passed c.slot_at.result c.args.hand.now.view c.pass_slot.new.own.me.0 c.slot_at.new.hand.view slot.slot c.args.meta
    (ap (λ me. me.0) c.pass_slot.ensures.own ∙ ap (with_slot c.hand.inside.seat.me.0) slot.found ∙ ap (λ (hand : Caller). with_held hand.view slot.slot) c.hand.view_is)
    ((λ t. is_at (at.meta t) (at.index t) slot.slot.place) ∙ there.1) (c.seat.invariant.moving slot.slot there.0) at.view
