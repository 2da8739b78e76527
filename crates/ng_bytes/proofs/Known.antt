-- What was known of bytes that are read or copied.
use Rattle.std.proofs.Common.{◌≡◌, ℕ, ◌+◌, ◌*◌, ◌/◌, ◌%◌, ◌<◌, sym, ap, ◌∙◌, subst}
use Rattle.std.specs.Prelude.{Some}
use Rattle.ng_frame.specs.Judging.{IsSureByte}
use Rattle.ng_header.specs.Bytes.{byte_of}
use Rattle.ng_space.specs.Blocks.{BlockToken, HasBlock, OfSlot}
use Rattle.ng_space.specs.Callers.{Caller}
use Rattle.ng_space.specs.Leaving.{IsOther, KeepsOthers, Learns, Stays}
use Rattle.ng_view.specs.Frame.{KnowsByte}
use Rattle.ng_view.specs.Lists.{find}
use Rattle.ng_view.specs.declared.view.Held.{Held}
use Rattle.ng_bytes.specs.Contents.{AreCopied}

-- a byte that is known is the one that a hand is sure of
pub sure_is : (y b x : ℕ) (h : Held) → IsSureByte y b h → KnowsByte y x h → x ≡ b
sure_is y b x h sure known =
    sym known.2 ∙ ap (λ c. byte_of c (y % 4)) (sure.1.only known.0 known.1) ∙ sure.2

-- also where it was known before
pub sure_since : (old new : Caller) (block : BlockToken) → HasBlock old block → Stays block.slot.meta block.slot.index old.view new.view Learns
    → (y b x : ℕ) → OfSlot new block.slot (IsSureByte y b) → OfSlot old block.slot (KnowsByte y x) → x ≡ b
sure_since old new block has stays y b x sure known =
    let k = stays has.held has.found in
    let was = known has.held has.found in
    sure_is y b x k.0 (sure k.0 k.1) (was.0, k.2.cells (4 * (y / 4)) was.0 tt was.1, was.2)

-- what was known of the bytes that were copied is known of the copies
pub copied_known : (old new : Caller) (from to : BlockToken) (count : ℕ) → HasBlock old from → KeepsOthers to.slot old.view new.view
    → IsOther to.slot from.slot.meta from.slot.index
    → ((h k : Held) → find from.slot.meta from.slot.index new.view.held ≡ Some h → find to.slot.meta to.slot.index new.view.held ≡ Some k → AreCopied from.at to.at count h k)
    → (i b : ℕ) → i < count → OfSlot old from.slot (KnowsByte (from.at + i) b) → OfSlot new to.slot (KnowsByte (to.at + i) b)
copied_known old new from to count has keeps apart copied i b lt known k found =
    let h = keeps.slots from.slot.meta from.slot.index apart has.held has.found in
    let was = known has.held has.found in
    let copy = copied h.0 k h.1 found i lt in
    let y : ℕ = from.at + i in
    let same : b ≡ copy.0 = sure_is y copy.0 b h.0 copy.1 (was.0, h.2.cells (4 * (y / 4)) was.0 tt was.1, was.2) in
    subst (λ x. KnowsByte (to.at + i) x k) (sym same) copy.2
