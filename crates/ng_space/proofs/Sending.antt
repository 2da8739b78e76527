-- Blocks go off in parcels, and come in.
use Rattle.std.proofs.Common.{◌≡◌, ℕ, cond, [], ◌++◌, refl, sym, ap, ◌∙◌, subst}
use Rattle.std.specs.Prelude.{Option, Some}
use Rattle.atomic_table.specs.Seated.{TableId}
use Rattle.atomic_table.specs.declared.shared.Seat.{Seat}
use Rattle.ng_rule.proofs.geometry.Lists.{find_among}
use Rattle.ng_rule.proofs.hand.Cuts.{cut_parcel}
use Rattle.ng_rule.proofs.hand.Joins.{merge_parcel}
use Rattle.ng_terms.specs.Heap.{extent}
use Rattle.ng_view.specs.Cuts.{Cut, Merge}
use Rattle.ng_view.specs.Lists.{find}
use Rattle.ng_view.specs.Steps.{parcel_of, spent, split_off, taken_in}
use Rattle.ng_view.specs.declared.view.Held.{Held}
use Rattle.ng_view.specs.declared.view.View.{View}
use Rattle.ng_space.specs.Blocks.{BlockToken, HasFramed}
use Rattle.ng_space.specs.Callers.{Caller}
use Rattle.ng_space.specs.Packed.{IsPacked}
use Rattle.ng_space.specs.Parcels.{IsOfOneSlot, sent_with, taken_by}

-- ---- a block goes off
module _ (hand : Caller) (block : BlockToken) (has : HasFramed hand block) where
  abbrev m : ℕ
  m = block.slot.meta

  abbrev i : ℕ
  i = block.slot.index

  pub sends : (v : View) → v ≡ hand.view → (v.books ≡ [] → ⊥) → Cut v (split_off v m i) (sent_with (find m i v.held))
  sends v same caller =
      let h = has.has.held in
      let found : find m i v.held ≡ Some h = ap (λ (u : View). find m i u.held) same ∙ has.has.found in
      subst (λ (o : Option Held). Cut v (split_off v m i) (sent_with o)) (sym found) (cut_parcel v m i h caller found (extent block.at block.len block.align) has.has.live)

  pub packed : (table : TableId) (seat : Seat (Unit {0}) View) → seat.table_id ≡ table → seat.me ≡ (sent_with (find m i hand.view.held), []) → IsPacked table seat block
  packed table seat fits me = record {
    fits = fits;
    no_slots = ap (λ x. x.1) me;
    held = has.has.held;
    view = ap (λ x. x.0) me ∙ ap sent_with has.has.found;
    there = (find_among m i hand.view.held has.has.held has.has.found).1;
    live = has.has.live;
    place = has.has.place;
    framed = has.framed;
  }

-- ---- a block comes in
module _ (table : TableId) (seat : Seat (Unit {0}) View) (block : BlockToken) (is : IsPacked table seat block) where
  pub joins_parcel : (v : View) → (v.books ≡ [] → ⊥) → Merge v seat.me.0 (taken_in v seat.me.0) spent
  joins_parcel v caller = subst (λ (w : View). Merge v w (taken_in v w) spent) (sym is.view) (merge_parcel v (parcel_of is.held) caller refl refl refl refl refl refl refl)

  pub of_one_slot : IsOfOneSlot (record { view = seat.me.0; block = block })
  of_one_slot = record { held = is.held; view = is.view; there = is.there }

  pub taken_block : (hand new : Caller) (taken : BlockToken) → new.number ≡ hand.number → new.view ≡ taken_in hand.view seat.me.0 → taken ≡ taken_by block hand.number → HasFramed new taken
  taken_block hand new taken number view same = subst (HasFramed new) (sym same) (record {
    has = record {
      own = sym number;
      held = is.held;
      found = ap (λ (u : View). find block.slot.meta block.slot.index u.held) view
          ∙ ap (λ (w : View). find block.slot.meta block.slot.index (w.held ++ hand.view.held)) is.view
          ∙ ap (λ b. cond b (Some is.held) (find block.slot.meta block.slot.index hand.view.held)) is.there;
      live = is.live;
      place = record { storage = is.place.storage; start = is.place.start; end = is.place.end; room = is.place.room };
    };
    framed = is.framed;
  })
