-- Masks of 32 slots: bit i stands for slot i.
use Rattle.std.specs.Prelude.{◌≡◌, ◌≢◌, ◌↔◌, ◌+◌, ◌-◌, ◌^◌, ◌<◌, ◌≤◌, ℕ}
use Rattle.std.specs.Int.{bit_at}

-- the bit is the lowest that is set
pub record IsLowestBit (mask bit : ℕ) : Type 0 where
  pub known : bit < 32
  pub set : bit_at mask bit ≡ 1
  pub lowest : (lower : ℕ) → lower < bit → bit_at mask lower ≡ 0

-- the bits 0 to last, as a number
abbrev pub all_bits_of : ℕ → ℕ
all_bits_of last = 2 ^ (last + 1) - 1

-- the bits that are set are those from 0 to last
abbrev pub HasBitsTo : ℕ → ℕ → Type 0
HasBitsTo mask last = (bit : ℕ) → (bit_at mask bit ≡ 1) ↔ (bit ≤ last)

-- each slot from 0 to last other than this one has its bit set in one of the masks
abbrev pub FillsGroup : ℕ → ℕ → ℕ → ℕ → Type 0
FillsGroup avail freed bit last =
    (other : ℕ) → other ≤ last → other ≢ bit → 1 ≤ bit_at avail other + bit_at freed other
