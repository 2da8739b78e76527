-- What a hand knows of a block's frame stays known over loads, and over stores in the block's bytes.
use Rattle.std.proofs.Common.{◌≡◌, ◌⊎◌, ℕ, ◌+◌, ◌-◌, ◌*◌, ◌/◌, ◌<◌, ◌≤◌, cond, Bool, true, false, List, ◌∷◌, refl, sym, ap, ◌∙◌, ⊎_elim, inl, inr, arith}
use Rattle.ng_rule.proofs.geometry.Lists.{find_edit}
use Rattle.ng_rule.proofs.hand.Load.{carries_more, still_knows}
use Rattle.ng_view.specs.Blocks.{Knows}
use Rattle.ng_view.specs.Frame.{Frames, IsFramed, KnowsByte}
use Rattle.ng_view.specs.Lists.{Among, find}
use Rattle.ng_view.specs.Places.{owns_at, slot_end, slot_start}
use Rattle.ng_view.specs.Steps.{learnt, loaded, stored, wrote}
use Rattle.ng_view.specs.declared.view.Held.{Held}
use Rattle.ng_view.specs.declared.view.View.{View}
use Rattle.ng_space.specs.Blocks.{BlockToken, HasFramed}
use Rattle.ng_space.specs.Callers.{Caller}
use Rattle.ng_space.proofs.Holding.{find-loaded}

-- a cell in front of the block, or one that its trailer may have
abbrev IsOfFrame : ℕ → ℕ → ℕ → Type 0
IsOfFrame p n a = (a < p) ⊎ (p + n < a + 4)

-- such cells that are known stay so
module _ (h : Held) (cells : List (ℕ × ℕ)) (p n : ℕ) (more : (a z : ℕ) → IsOfFrame p n a → Among {A = ℕ × ℕ} (a, z) h.cells → Among {A = ℕ × ℕ} (a, z) cells) where
  abbrev y : Held
  y = record h { cells = cells }

  byte : (a z : ℕ) → p + n ≤ a → KnowsByte a z h → KnowsByte a z y
  byte a z le k = (k.0, more (4 * (a / 4)) k.0 (inr (omega arith)) k.1, k.2)

  framed_more : IsFramed h p n → IsFramed y p n
  framed_more k = (k.0, k.1, k.2, more k.0 k.1 (inl (let q = k.2 in omega arith)) k.3, frames k.1 k.4)
    where
      frames : (x : ℕ) → Frames h p n x → Frames y p n x
      frames x f =
          let within = f.within in let from = f.from in let e : ℕ = slot_end h.place in record {
            whole = f.whole;
            from = f.from;
            roomy = f.roomy;
            within = f.within;
            carries = carries_more h y p x refl (λ a z q k. more a z (inl (omega arith)) k) f.carries;
            field = f.field;
            trailer = ⊎_elim
                (λ none. inl none)
                (λ some_bytes. ⊎_elim
                (λ few. inr (inl (few.0, few.1, byte (e - ((e - p) - n)) 0 (omega arith) few.2)))
                (λ (many : (4 < (e - p) - n) × KnowsByte (e - ((e - p) - n)) 0 h × Knows (e - 4) ((e - p) - n) h × KnowsByte (e - 5) 0 h).
                let l = many.0 in inr (inr (l, byte (e - ((e - p) - n)) 0 (omega arith) many.1, more (e - 4) ((e - p) - n) (inr (omega arith)) many.2, byte (e - 5) 0 (omega arith) many.3)))
                some_bytes)
                f.trailer;
            shift = ⊎_elim
                (λ (s : p ≡ slot_start h.place). inl s)
                (λ s. inr (s.0, s.1, s.2, more s.0 s.1 (inl (let q = s.2 in omega arith)) s.3, s.4, s.5, s.6))
                f.shift;
          }

-- a load
pub loaded_framed : (hand new : Caller) (a x : ℕ) (block : BlockToken) → new.view ≡ loaded hand.view a x → new.number ≡ hand.number → HasFramed hand block → HasFramed new block
loaded_framed hand new a x block is number f =
    let h = f.has.held in record {
      has = record {
        own = f.has.own ∙ sym number;
        held = learnt a x h;
        found = ap (λ (u : View). find block.slot.meta block.slot.index u.held) is ∙ find-loaded hand.view a x block.slot.meta block.slot.index h f.has.found;
        live = f.has.live;
        place = f.has.place;
      };
      framed = framed_more h (learnt a x h).cells block.at block.len (λ b z o k. grown b z (owns_at h.place a) k) f.framed;
    }
  where
    grown : (b z : ℕ) (t : Bool) → Among {A = ℕ × ℕ} (b, z) f.has.held.cells → Among {A = ℕ × ℕ} (b, z) (cond t ((a, x) ∷ f.has.held.cells) f.has.held.cells)
    grown b z true k = inr k
    grown b z false k = k

-- a store in the block's bytes
pub stored_framed : (hand new : Caller) (a x : ℕ) (block : BlockToken) → new.view ≡ stored hand.view block.slot.meta block.slot.index a x → new.number ≡ hand.number → block.at ≤ a → a + 4 ≤ block.at + block.len → HasFramed hand block → HasFramed new block
stored_framed hand new a x block is number from below f =
    let h = f.has.held in record {
      has = record {
        own = f.has.own ∙ sym number;
        held = wrote a x h;
        found = ap (λ (u : View). find block.slot.meta block.slot.index u.held) is ∙ find_edit block.slot.meta block.slot.index (wrote a x) hand.view.held h (λ y. refl) f.has.found;
        live = f.has.live;
        place = f.has.place;
      };
      framed = framed_more h (wrote a x h).cells block.at block.len (λ b z o k. still_knows a x b z h (λ e. ⊎_elim (λ (low : b < block.at). omega arith) (λ (high : block.at + block.len < b + 4). omega arith) o) k) f.framed;
    }
