-- What is still known of a slot's bytes and cells once some of them have changed.
use Rattle.std.specs.Prelude.{◌≡◌, ◌⊎◌, ℕ, ◌+◌, ◌<◌, ◌≤◌}
use Rattle.ng_view.specs.Blocks.{Knows}
use Rattle.ng_view.specs.Frame.{KnowsByte}
use Rattle.ng_view.specs.declared.view.Held.{Held}

-- the slot lies where it did, with its block, and what was known of its bytes and cells outside of those from one address
-- up to another is still
pub record KeepsAround (first behind : ℕ) (h k : Held) : Type 0 where
  pub place : k.place ≡ h.place
  pub block : k.block ≡ h.block
  pub cells : (a x : ℕ) → (a + 4 ≤ first) ⊎ (behind ≤ a) → Knows a x h → Knows a x k
  pub bytes : (y b : ℕ) → (y < first) ⊎ (behind ≤ y) → KnowsByte y b h → KnowsByte y b k

-- the slot lies where it did, and each byte from one address up to another that was known is known so still
pub record KeepsBytes (first behind : ℕ) (h k : Held) : Type 0 where
  pub place : k.place ≡ h.place
  pub bytes : (y b : ℕ) → first ≤ y → y < behind → KnowsByte y b h → KnowsByte y b k
