-- The cells of a trailer are apart, and none is in front of the slot's start.
use Rattle.std.proofs.Common.{◌≡◌, ◌≢◌, ℕ, ◌+◌, ◌-◌, ◌*◌, ◌/◌, ◌<◌, ◌≤◌, arith}
use Rattle.ng_space.specs.Tokens.{Token}
use Rattle.ng_frame.specs.Puts.{IsWhole}

-- the first reserved byte isn't in the last cell
pub cells_apart : (slot : Token) (e r : ℕ) → e ≡ slot.end → IsWhole slot → 5 ≤ r → slot.start + r ≤ slot.end → 4 * ((e - r) / 4) ≢ e - 4
cells_apart slot e r end is many within same = let whole = is.end in omega (arith, whole, end, same)

-- nor is the fifth byte from the end
pub fifth_apart : (slot : Token) (e : ℕ) → e ≡ slot.end → IsWhole slot → e - 4 ≢ 4 * ((e - 5) / 4)
fifth_apart slot e end is same = let whole = is.end in let some_bytes = is.some in let front = is.front in omega (arith, whole, end, same)

pub before_first : (slot : Token) (e r a : ℕ) → e ≡ slot.end → IsWhole slot → slot.start + r ≤ slot.end → a < slot.start → a ≢ 4 * ((e - r) / 4)
before_first slot e r a end is within lt same = let whole = is.start in omega (arith, whole, end, same)

pub before_last : (slot : Token) (e r a : ℕ) → e ≡ slot.end → IsWhole slot → 5 ≤ r → slot.start + r ≤ slot.end → a < slot.start → (a ≢ e - 4) × (a ≢ 4 * ((e - 5) / 4))
before_last slot e r a end is many within lt =
    let first = is.start in let last = is.end in ((λ same. omega (arith, first, last, end, same)), (λ same. omega (arith, first, last, end, same)))
