-- What a resize leaves of a hand's slots but for the block's.
use Rattle.std.proofs.Common.{◌≡◌, ℕ, sym, subst, ⊎_elim, inl, inr}
use Rattle.std.specs.Prelude.{Some, ◌/◌, ◌*◌}
use Rattle.ng_frame.proofs.Tokens.{framed_stays}
use Rattle.ng_group.specs.Hands.{IsApart}
use Rattle.ng_space.specs.Blocks.{BlockToken, HasFramed, OfSlot}
use Rattle.ng_space.specs.Callers.{Caller}
use Rattle.ng_space.specs.Leaving.{KeepsSlots, Learns, Leaves, Stays}
use Rattle.ng_space.specs.Tokens.{Token}
use Rattle.ng_space.proofs.Leaving.{stays_then}
use Rattle.ng_view.specs.Frame.{KnowsByte}
use Rattle.ng_view.specs.Lists.{find}
use Rattle.ng_view.specs.declared.view.Held.{Held}
use Rattle.ng_view.specs.declared.view.View.{View}
use Rattle.ng_resize.specs.Resizing.{KeepsApart}

pub apart_flip : (slot other : Token) → IsApart slot other → IsApart other slot
apart_flip slot other apart = ⊎_elim (λ meta. inl (λ e. meta (sym e))) (λ index. inr (λ e. index (sym e))) apart

pub slots_then : (v u w : View) → KeepsSlots v u → KeepsSlots u w → KeepsSlots v w
slots_then v u w one two m i = stays_then _ _ _ m i v u w (λ a t. (t, t)) (one m i) (two m i)

pub apart_then : (block : BlockToken) (v u w : View) → KeepsApart block v u → KeepsApart block u w → KeepsApart block v w
apart_then block v u w one two m i ne = stays_then _ _ _ m i v u w (λ a t. (t, t)) (one m i ne) (two m i ne)

-- the slots of a view, of which none changed, and then that of the block
pub apart_own : (block : BlockToken) (v u w : View) → KeepsSlots v u → Leaves block.slot u w → KeepsApart block v w
apart_own block v u w slots own m i ne = stays_then _ _ _ m i v u w (λ a t. (t, t)) (slots m i) (own.others.slots m i ne)

-- each block apart stays framed
pub others_framed : (before after : Caller) (block : BlockToken) → after.number ≡ before.number → KeepsApart block before.view after.view
    → (other : BlockToken) → IsApart other.slot block.slot → HasFramed before other → HasFramed after other
others_framed before after block number apart other ne framed =
    framed_stays before after number other (apart other.slot.meta other.slot.index ne) framed

-- what is known of a slot's bytes is so after
pub byte_stays : (before after : Caller) (slot : Token) (h : Held) (y b : ℕ) → find slot.meta slot.index before.view.held ≡ Some h
    → Stays slot.meta slot.index before.view after.view Learns
    → OfSlot before slot (KnowsByte y b) → OfSlot after slot (KnowsByte y b)
byte_stays before after slot h y b found stays known k there =
    let later = stays h found in
    let same : later.0 ≡ k = cc in
    let was = known h found in
    subst (KnowsByte y b) same (was.0, later.2.cells (4 * (y / 4)) was.0 tt was.1, was.2)
