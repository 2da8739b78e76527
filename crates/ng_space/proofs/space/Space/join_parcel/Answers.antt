use Rattle.std.proofs.Common.{ap, ◌∙◌, subst}
use Rattle.ng_view.specs.Steps.{taken_in}
use Rattle.ng_view.specs.declared.view.View.{View}
use Rattle.ng_space.specs.Callers.{Caller}
use Rattle.ng_space.specs.Parcels.{IsOfOneSlot, taken_by}
use Rattle.ng_space.specs.Tokens.{Token}
use Rattle.ng_space.proofs.Sending.{joins_parcel, of_one_slot, taken_block}
use Rattle.ng_space.proofs.space.Space.join_parcel.Goals as goal

pub take_in-requires-clause-allowed : goal.take_in-requires-clause-allowed
take_in-requires-clause-allowed g c = joins_parcel _ _ _ c.into_parts-seat.ensures.packed _ (λ none. absurd (let own = c.hand.invariant.own_book in cc))

pub invariant_of-hand : goal.invariant_of-hand
invariant_of-hand g c =
    let both = c.take_in.ensures.both in let is = c.hand.invariant in record {
      fits = c.take_in.ensures.table ∙ is.fits;
      no_slots = c.take_in.ensures.slots ∙ is.no_slots;
      follows = ap (λ (v : View). v.leads) both ∙ is.follows;
      whole = ap (λ (v : View). v.parcel) both ∙ is.whole;
      deskless = ap (λ (v : View). v.desk) both ∙ is.deskless;
      own_book = ap (λ (v : View). v.books) both ∙ is.own_book;
    }

pub returns-clause-has : goal.returns-clause-has
returns-clause-has g c =
    let hand = c.hand.view_is in let block = c.block.view_is in
    let number = c.number-number.ensures ∙ ap (λ (hand : Caller). hand.number) hand in
    taken_block _ _ _ c.into_parts-seat.ensures.packed c.args.hand.now _ _ (ap (λ (hand : Caller). hand.number) hand) (c.take_in.ensures.both ∙ ap (λ (hand : Caller). taken_in hand.view c.into_parts-seat.result.0.me.0) hand)
    (ap (λ (slot : Token). record { slot = slot; at = c.block.inside.at; len = c.block.inside.len; align = c.block.inside.align }) c.in_hand.ensures ∙ (λ t. taken_by (block t) (number t)))

pub returns-clause-one : goal.returns-clause-one
returns-clause-one g c = subst IsOfOneSlot (λ t. record { view = c.into_parts-seat.ensures.view t; block = c.into_parts-seat.ensures.block t }) (of_one_slot _ _ _ c.into_parts-seat.ensures.packed)

pub returns-clause-view : goal.returns-clause-view
returns-clause-view g c =
    let hand = c.hand.view_is in let parcel = c.into_parts-seat.ensures.view in
    c.take_in.ensures.both ∙ (λ t. taken_in (hand t).view (parcel t))
