use Rattle.std.proofs.Common.{ap, ◌∙◌, subst, inl}
use Rattle.ng_rule.proofs.hand.Passing.{merge_hand}
use Rattle.ng_view.specs.Lists.{Among, find}
use Rattle.ng_view.specs.Steps.{pushed}
use Rattle.ng_view.specs.declared.view.Desk.{Desk}
use Rattle.ng_space.specs.Callers.{Caller}
use Rattle.ng_space.specs.Tokens.{Token}
use Rattle.ng_space.proofs.Locked.{lock_stays}
use Rattle.ng_space.proofs.Passed.{one_book, cut_to_seat, slot_like, still-slot, token_free}
use Rattle.ng_space.proofs.LeavingSlots.{pushed_leaves}
use Rattle.ng_space.proofs.space.Space.slot_to_seat.Goals as goal

pub pass_slot-requires-clause-merge : goal.pass_slot-requires-clause-merge
pass_slot-requires-clause-merge g c = let hand = c.hand.invariant in merge_hand _ _ c.seat.invariant.leads hand.follows hand.whole hand.deskless

pub pass_slot-requires-clause-cut : goal.pass_slot-requires-clause-cut
pass_slot-requires-clause-cut g c =
    let hand = c.hand.invariant in
    cut_to_seat _ _ c.seat.invariant.leads c.seat.invariant.moving hand.follows hand.whole hand.deskless (λ none. absurd (let own = hand.own_book in cc)) c.seat.invariant.none_sent c.seat.invariant.none_taken (one_book _ _ hand.own_book) _ _ (token_free _ _ _ _ _ c.requires.slot (ap (λ (hand : Caller). hand.view) c.hand.view_is) (ap (λ (slot : Token). slot.meta) c.slot.view_is) (ap (λ (slot : Token). slot.index) c.slot.view_is))

pub invariant_of-seat : goal.invariant_of-seat
invariant_of-seat g c =
    let lock = c.pass_slot.ensures.lock in
    let like = slot_like c.seat.inside.seat.me.0 (find c.slot.inside.meta c.slot.inside.index c.hand.inside.seat.me.0.held) in
    lock_stays _ _ _ _ _ _ c.seat.invariant c.pass_slot.ensures.tables.0 (ap (λ me. me.1) lock) (ap (λ me. me.0) lock) (record {
      leads = like.0;
      parcel = like.1;
      books = like.3;
      sent = like.4;
      taken = like.5;
      next = ap (λ (d : Desk). d.next) like.2;
      groups = λ h q. inl (subst (Among h) (ap (λ (d : Desk). d.groups) like.2) q);
      carrying = λ n q. inl (subst (Among n) (ap (λ (d : Desk). d.layout.nests) like.2) q);
      still = still-slot g.N.Name.facts.start.pages c.seat.inside.seat.me.0 c.hand.inside.seat.me.0 c.slot.inside.meta c.slot.inside.index (token_free _ _ _ _ _ c.requires.slot (ap (λ (hand : Caller). hand.view) c.hand.view_is) (ap (λ (slot : Token). slot.meta) c.slot.view_is) (ap (λ (slot : Token). slot.index) c.slot.view_is)) c.slot.invariant.place;
    })

pub returns-clause-leaves : goal.returns-clause-leaves
returns-clause-leaves g c =
    let hand = c.hand.view_is in let slot = c.slot.view_is in
    pushed_leaves c.args.slot c.args.hand.now.view c.pass_slot.new.own.me.0
    (ap (λ me. me.0) c.pass_slot.ensures.own ∙ (λ t. pushed (hand t).view (slot t).meta (slot t).index))
