-- Masks of slots: the lowest bit, and the bits to the last.
use Rattle.std.proofs.Common.{◌≡◌, ◌-◌, ◌∙◌, ◌/◌, ℕ, ◌+◌, ◌/◌, ◌^◌, ◌<◌, ◌≤◌, arith, ap, ⊎_elim}
use Rattle.std.specs.Int.{bit_at, w32, trailing_zeros}
use Rattle.std.proofs.lemmas.Bool.{cases_lt}
use Rattle.std.proofs.lemmas.Nat.Bits.{bit_at-trailing_zeros, bit_at_ones, bit_at_ones_above, ones_shr, bit_at_above}
use Rattle.ng_class.specs.Mask.{IsLowestBit, HasBitsTo, all_bits_of}

-- what `trailing_zeros` answers at a mask with a bit set
pub lowest_trailing_zeros : (mask : ℕ) → 0 < mask → mask < 2 ^ 32 → IsLowestBit mask (trailing_zeros w32 mask)
lowest_trailing_zeros mask some fits =
    let (known, set, lowest) = bit_at-trailing_zeros w32 mask some fits in
    record { known = known; set = set; lowest = lowest }

-- a number with this bit set is at least the bit's own
pub pow-le : (mask bit : ℕ) → bit_at mask bit ≡ 1 → 2 ^ bit ≤ mask
pow-le mask bit set =
    ⊎_elim
    (λ (below : mask < 2 ^ bit). absurd (omega (arith, bit_at_above mask bit bit below (omega arith), set)))
    (λ above. above)
    (cases_lt mask (2 ^ bit))

-- the mask of the slots 0 to last has each of these bits
pub bit_at-all_bits_of : (last bit : ℕ) → bit ≤ last → bit_at (all_bits_of last) bit ≡ 1
bit_at-all_bits_of last bit within = bit_at_ones (last + 1) bit (omega arith)

-- .. and no other
pub bit_at-all_bits_of_above : (last bit : ℕ) → last < bit → bit_at (all_bits_of last) bit ≡ 0
bit_at-all_bits_of_above last bit above = bit_at_ones_above (last + 1) bit (omega arith)

-- and so its bits are those to the last
pub has_all_bits : (last : ℕ) → HasBitsTo (all_bits_of last) last
has_all_bits last bit = (
  λ set. ⊎_elim (λ (above : last < bit). absurd (omega (arith, bit_at-all_bits_of_above last bit above, set))) (λ within. within) (cases_lt last bit),
  λ within. bit_at-all_bits_of last bit within,
)

-- the largest mask without its bits above last, as `MAX >> (31 - last)` computes it
pub shifted_ones : (last : ℕ) → last < 32 → (2 ^ 32 - 1) / 2 ^ (31 - last) ≡ all_bits_of last
shifted_ones last known =
    let places : 32 - (31 - last) ≡ last + 1 = omega arith in
    ones_shr 32 (31 - last) (omega arith) ∙ ap (λ k. 2 ^ k - 1) places

-- and so does that mask
pub has_shifted_ones : (last : ℕ) → last < 32 → HasBitsTo ((2 ^ 32 - 1) / 2 ^ (31 - last)) last
has_shifted_ones last known = rw (shifted_ones last known) (has_all_bits last)
