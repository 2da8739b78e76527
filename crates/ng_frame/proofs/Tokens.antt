-- The slots and blocks that a hand still has where their slots stay.
use Rattle.std.proofs.Common.{◌≡◌, ◌≢◌, sym, ap, ◌∙◌, subst, ⊎_elim, inl, inr}
use Rattle.std.proofs.lemmas.Bool.{cases_eq}
use Rattle.std.specs.Prelude.{Option, Some, None}
use Rattle.ng_terms.specs.Heap.{extent}
use Rattle.ng_terms.specs.declared.entry.Extent.{Extent}
use Rattle.ng_view.specs.Lists.{find}
use Rattle.ng_view.specs.declared.view.Held.{Held}
use Rattle.ng_space.specs.Blocks.{BlockToken, HasBlock, HasFramed}
use Rattle.ng_space.specs.Callers.{Caller}
use Rattle.ng_space.specs.Tokens.{HasSlot, LiesAt, Token}
use Rattle.ng_space.specs.Leaving.{IsOther, KeepsOthers, Learns, Stays}
use Rattle.ng_space.proofs.LeavingFrames.{learns_framed}

-- ---- the slot, block or frame of a token whose slot stays
module _ (old new : Caller) (number : new.number ≡ old.number) where
  pub slot_stays : (slot : Token) → Stays slot.meta slot.index old.view new.view Learns → HasSlot old slot → HasSlot new slot
  slot_stays slot stays has =
      let k = stays has.held has.found in record {
        own = has.own ∙ sym number;
        held = k.0;
        found = k.1;
        free = k.2.block ∙ has.free;
        place = subst (λ p. LiesAt p slot) (sym k.2.place) has.place;
      }

  pub block_stays : (block : BlockToken) → Stays block.slot.meta block.slot.index old.view new.view Learns
      → HasBlock old block → HasBlock new block
  block_stays block stays has =
      let k = stays has.held has.found in record {
        own = has.own ∙ sym number;
        held = k.0;
        found = k.1;
        live = k.2.block ∙ has.live;
        place = subst (λ p. LiesAt p block.slot) (sym k.2.place) has.place;
      }

  pub framed_stays : (block : BlockToken) → Stays block.slot.meta block.slot.index old.view new.view Learns
      → HasFramed old block → HasFramed new block
  unfolding block_stays
  framed_stays block stays f =
      let k = stays f.has.held f.has.found in record {
        has = block_stays block stays f.has;
        framed = learns_framed f.has.held k.0 block.at block.len k.2 f.framed;
      }

-- ---- another slot than the one that changes
module _ (old new : Caller) (slot : Token) (number : new.number ≡ old.number) (keeps : KeepsOthers slot old.view new.view) where
  pub slot_kept : (other : Token) → IsOther slot other.meta other.index → HasSlot old other → HasSlot new other
  slot_kept other ne = slot_stays old new number other (keeps.slots other.meta other.index ne)

  pub block_kept : (other : BlockToken) → IsOther slot other.slot.meta other.slot.index → HasBlock old other → HasBlock new other
  block_kept other ne = block_stays old new number other (keeps.slots other.slot.meta other.slot.index ne)

  pub framed_kept : (other : BlockToken) → IsOther slot other.slot.meta other.slot.index → HasFramed old other → HasFramed new other
  framed_kept other ne = framed_stays old new number other (keeps.slots other.slot.meta other.slot.index ne)

-- ---- a slot has no block where another token has one
never_live : (hand : Caller) (slot : Token) (other : BlockToken) → HasSlot hand slot → HasBlock hand other
    → other.slot.meta ≡ slot.meta → other.slot.index ≡ slot.index → ⊥
never_live hand slot other has live same at =
    let there : find slot.meta slot.index hand.view.held ≡ Some live.held = rw (same, at) at live.found in
    let here : find slot.meta slot.index hand.view.held ≡ Some has.held = has.found in
    let q : has.held ≡ live.held = cc in
    let both : ◌≡◌ {A = Option Extent} None (Some (extent other.at other.len other.align)) = sym has.free ∙ ap (λ (h : Held). h.block) q ∙ live.live in
    absurd (cc)

pub live_apart : (hand : Caller) (slot : Token) (other : BlockToken) → HasSlot hand slot → HasBlock hand other
    → IsOther slot other.slot.meta other.slot.index
live_apart hand slot other has live = ⊎_elim
    (λ (same : other.slot.meta ≡ slot.meta). ⊎_elim
    (λ (here : other.slot.index ≡ slot.index). absurd (never_live hand slot other has live same here))
    (λ (ne : other.slot.index ≢ slot.index). inr ne)
    (cases_eq other.slot.index slot.index))
    (λ (ne : other.slot.meta ≢ slot.meta). inl ne)
    (cases_eq other.slot.meta slot.meta)
