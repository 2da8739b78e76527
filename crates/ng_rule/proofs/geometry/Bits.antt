-- One bit of a mask.
use Rattle.std.proofs.Common.{◌≡◌, ◌≢◌, ℕ, ◌+◌, ◌*◌, ◌/◌, ◌%◌, ◌^◌, ◌<◌, ◌≤◌, eqb, eq-eqb, ne_eqb, refl, sym, ap, ◌∙◌, subst, ⊎_elim, arith}
use Rattle.std.specs.Prelude.{bit_and, bit_or}
use Rattle.std.specs.Int.{bit_at, bit_not, w64}
use Rattle.std.proofs.lemmas.Nat.{and_le_l, shr-shr, or_lt, one_shl, pow_below}
use Rattle.std.proofs.lemmas.Nat.Bits.{bit_at_clear_same, bit_at_clear_other, bit_at_set_same, bit_at_set_other, bit_at_above, same_from_bits}
use Rattle.std.proofs.lemmas.Bool.{cases_eq, cases_lt}
use Rattle.ng_view.specs.Lists.{count_of}

-- n without and with the bit i, as code computes them
abbrev pub cleared : ℕ → ℕ → ℕ
cleared n i = bit_and n (bit_not w64 (1 * 2 ^ i % 2 ^ 64))

abbrev pub raised : ℕ → ℕ → ℕ
raised n i = bit_or n (1 * 2 ^ i % 2 ^ 64)

pub count_of-same : (i : ℕ) → count_of (eqb i i) ≡ 1
count_of-same i = ap count_of (eq-eqb i i refl)

pub count_of-other : (i j : ℕ) → i ≢ j → count_of (eqb i j) ≡ 0
count_of-other i j n = ap count_of (ne_eqb i j n)

pub cleared_bit : (n i j : ℕ) → i < 64 → j < 64 → bit_at n i ≡ 1 → bit_at (cleared n i) j + count_of (eqb i j) ≡ bit_at n j
cleared_bit n i j h g one =
    ⊎_elim
    (λ (e : i ≡ j). subst (λ k. bit_at (cleared n i) k + count_of (eqb i k) ≡ bit_at n k) e (omega (arith, bit_at_clear_same w64 n i h, count_of-same i, one)))
    (λ (e : i ≢ j). omega (arith, bit_at_clear_other w64 n i h j g (λ s. e (sym s)), count_of-other i j e))
    (cases_eq i j)

pub raised_bit : (n i j : ℕ) → i < 64 → bit_at n i ≡ 0 → bit_at (raised n i) j ≡ bit_at n j + count_of (eqb i j)
raised_bit n i j h none =
    ⊎_elim
    (λ (e : i ≡ j). subst (λ k. bit_at (raised n i) k ≡ bit_at n k + count_of (eqb i k)) e (omega (arith, bit_at_set_same w64 n i h, count_of-same i, none)))
    (λ (e : i ≢ j). omega (arith, bit_at_set_other w64 n i h j (λ s. e (sym s)), count_of-other i j e))
    (cases_eq i j)

-- the upper half stays
pub cleared_tag : (n i : ℕ) → n < 2 ^ 64 → i < 32 → cleared n i / 4294967296 ≡ n / 4294967296
cleared_tag n i fits h = same_from_bits (cleared n i / 2 ^ 32) (n / 2 ^ 32) (λ j.
    ap (λ (x : ℕ). x % 2) (shr-shr (cleared n i) 32 j) ∙ ⊎_elim
    (λ (l : 32 + j < 64). bit_at_clear_other w64 n i (omega arith) (32 + j) l (λ e. omega arith))
    (λ (l : 64 ≤ 32 + j). bit_at_above (cleared n i) 64 (32 + j) (let le = and_le_l n (bit_not w64 (1 * 2 ^ i % 2 ^ 64)) in omega arith) l ∙ sym (bit_at_above n 64 (32 + j) fits l))
    (cases_lt (32 + j) 64)
    ∙ sym (ap (λ (x : ℕ). x % 2) (shr-shr n 32 j)))

pub raised_small : (n i : ℕ) → n < 4294967296 → i < 32 → raised n i < 4294967296
raised_small n i fits h = or_lt 32 n (1 * 2 ^ i % 2 ^ 64) fits (let a = one_shl i 64 (omega arith) in let b = pow_below i 32 h in omega arith)
