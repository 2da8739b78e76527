-- The bytes that a hand is sure of.
use Rattle.std.proofs.Common.{◌≡◌, ℕ, ◌+◌, ◌*◌, ◌/◌, ◌%◌, ◌<◌, ◌≤◌, refl, sym, ap, ◌∙◌, subst}
use Rattle.ng_frame.specs.Judging.{IsSure, IsSureByte}
use Rattle.ng_frame.specs.Puts.{IsWhole}
use Rattle.ng_frame.proofs.Frames.{of_found}
use Rattle.ng_frame.proofs.Judged.{owns_within, sure_keeps, sure_new}
use Rattle.ng_frame.proofs.Verdicts.{loaded_known}
use Rattle.ng_header.specs.Bytes.{byte_of}
use Rattle.ng_space.specs.Blocks.{BlockToken, HasBlock, OfSlot}
use Rattle.ng_space.specs.Callers.{Caller}
use Rattle.ng_space.specs.Leaving.{Stays}
use Rattle.ng_space.specs.Tokens.{Token}
use Rattle.ng_space.proofs.Holding.{find-loaded}
use Rattle.ng_space.proofs.Leaving.{find-edit_other}
use Rattle.ng_view.specs.Frame.{KnowsByte}
use Rattle.ng_view.specs.Lists.{find}
use Rattle.ng_view.specs.Steps.{learnt, loaded, stored, wrote}
use Rattle.ng_view.specs.Tells.{Tells}
use Rattle.ng_view.specs.declared.view.Held.{Held}
use Rattle.ng_view.specs.declared.view.Start.{Start}
use Rattle.ng_view.specs.declared.view.View.{View}
use Rattle.ng_bytes.specs.Steps.{KeepsSure, OthersStaySure, StaySure}

-- ---- steps
pub loaded_sure : (key : Start) (v w : View) (a x : ℕ) → Tells key v a x → w ≡ loaded v a x → StaySure v w
loaded_sure key v w a x told is m i h found = (
  learnt a x h,
  ap (λ (u : View). find m i u.held) is ∙ find-loaded v a x m i h found,
  record { bytes = λ y b s. (s.0, sure_keeps a x (4 * (y / 4)) s.0 h (loaded_known key v m i a x h found told) s.1, s.2) },
)

pub stored_sure : (slot : Token) (v w : View) (a x : ℕ) → w ≡ stored v slot.meta slot.index a x → OthersStaySure slot v w
stored_sure slot v w a x is m i ne h found = (
  h,
  ap (λ (u : View). find m i u.held) is ∙ find-edit_other slot.meta slot.index m i (wrote a x) v.held (λ y. refl) ne ∙ found,
  record { bytes = λ y b s. s },
)

pub sure_then : (m i : ℕ) (v u w : View) → Stays m i v u KeepsSure → Stays m i u w KeepsSure → Stays m i v w KeepsSure
sure_then m i v u w one two h found =
    let k = one h found in let l = two k.0 k.1 in (l.0, l.1, record { bytes = λ y b s. l.2.bytes y b (k.2.bytes y b s) })

-- a byte of which a hand is sure is known
pub knows_sure : (y b : ℕ) (h : Held) → IsSureByte y b h → KnowsByte y b h
knows_sure y b h sure = (sure.0, sure.1.known, sure.2)

-- ---- blocks
-- a byte of a block stays sure where its slot's do
pub sure_still : (old new : Caller) (block : BlockToken) → HasBlock old block → Stays block.slot.meta block.slot.index old.view new.view KeepsSure
    → (y b : ℕ) → OfSlot old block.slot (IsSureByte y b) → OfSlot new block.slot (IsSureByte y b)
sure_still old new block has stays y b sure =
    let k = stays has.held has.found in of_found new block.slot k.0 (IsSureByte y b) k.1 (k.2.bytes y b (sure has.held has.found))

-- a load of a cell of the block makes sure of its bytes
pub sure_loaded : (key : Start) (old new : Caller) (block : BlockToken) (a x : ℕ) → HasBlock old block → IsWhole block.slot → Tells key old.view a x
    → new.view ≡ loaded old.view a x → block.slot.start ≤ a + 4 → a < block.slot.end
    → (y : ℕ) → 4 * (y / 4) ≡ a → OfSlot new block.slot (IsSureByte y (byte_of x (y % 4)))
sure_loaded key old new block a x has whole told is from below y here =
    let m : ℕ = block.slot.meta in
    let i : ℕ = block.slot.index in
    let h : Held = has.held in
    let found = ap (λ (u : View). find m i u.held) is ∙ find-loaded old.view a x m i h has.found in
    let sure = sure_new a x h (owns_within h.place block.slot a has.place whole from below) (loaded_known key old.view m i a x h has.found told) in
    of_found new block.slot (learnt a x h) (IsSureByte y (byte_of x (y % 4))) found (x, subst (λ c. IsSure c x (learnt a x h)) (sym here) sure, refl)
