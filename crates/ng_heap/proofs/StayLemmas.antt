-- What a hand's view still has where a slot comes.
use Rattle.std.proofs.Common.{◌≡◌, ◌≢◌, ◌⊎◌, ◌+◌, refl, subst, ⊎_elim, inl, inr}
use Rattle.std.proofs.lemmas.Bool.{cases_eq}
use Rattle.std.specs.Prelude.{Option, Some, None}
use Rattle.ng_space.specs.Leaving.{KeepsOthers, KeepsSlots}
use Rattle.ng_terms.specs.declared.entry.Extent.{Extent}
use Rattle.ng_view.specs.Lists.{find}
use Rattle.ng_view.specs.Places.{room, slot_end, slot_start}
use Rattle.ng_view.specs.declared.view.Held.{Held}
use Rattle.ng_view.specs.declared.view.View.{View}
use Rattle.ng_space.specs.Callers.{Caller}
use Rattle.ng_space.specs.Tokens.{Token}
use Rattle.ng_heap.specs.Keeps.{IsFresh}

-- ---- a slot comes
-- one that is apart from each that the hand had wasn't in its view
module _ (before : Caller) (slot : Token) (fresh : IsFresh before slot) where
  unfound : (h : Held) → find slot.meta slot.index before.view.held ≡ Some h → ⊥
  unfound h found = by_block h.block refl
    where
      token : Token
      token = record {
        meta = slot.meta;
        index = slot.index;
        storage = h.place.group.base + 16;
        start = slot_start h.place;
        end = slot_end h.place;
        room = room h.place.group;
        hand = before.number;
      }

      same : (slot.meta ≢ slot.meta) ⊎ (slot.index ≢ slot.index) → ⊥
      same apart = ⊎_elim (λ f. f refl) (λ f. f refl) apart

      by_block : (b : Option Extent) → h.block ≡ b → ⊥
      by_block None free = same (fresh.slots token (record {
        own = refl;
        held = h;
        found = found;
        free = free;
        place = record { storage = refl; start = refl; end = refl; room = refl };
      }))
      by_block (Some b) live = same (fresh.blocks (record { slot = token; at = b.at; len = b.len; align = b.align }) (record {
        own = refl;
        held = h;
        found = found;
        live = live;
        place = record { storage = refl; start = refl; end = refl; room = refl };
      }))

  -- and so each slot that was there stays where each other does
  pub fresh_slots : (w : View) → KeepsOthers slot before.view w → KeepsSlots before.view w
  fresh_slots w others m i = ⊎_elim
      (λ (meta : m ≡ slot.meta). ⊎_elim
      (λ (index : i ≡ slot.index).
      λ h found.
      let there = subst (λ n. find n i before.view.held ≡ Some h) meta found in
      absurd (unfound h (subst (λ j. find slot.meta j before.view.held ≡ Some h) index there)))
      (λ (ne : i ≢ slot.index). others.slots m i (inr ne))
      (cases_eq i slot.index))
      (λ (ne : m ≢ slot.meta). others.slots m i (inl ne))
      (cases_eq m slot.meta)
