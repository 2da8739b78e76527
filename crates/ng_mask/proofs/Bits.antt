-- Masks by their bits, and a mask without its lowest bit.
use Rattle.std.proofs.Common.{◌≡◌, ◌≢◌, ℕ, zero, suc, ◌+◌, ◌-◌, ◌*◌, ◌/◌, ◌%◌, ◌^◌, ◌<◌, ◌≤◌, eqb, refl, sym, ap, ◌∙◌, ⊎_elim, arith}
use Rattle.std.specs.Prelude.{◌&&◌, bit_and, min}
use Rattle.std.specs.Int.{bit_at, bit_not, w32, w64}
use Rattle.std.proofs.lemmas.Bool.{cases_eq}
use Rattle.std.proofs.lemmas.Nat.{and-not, and_comm, and_le_l, pow_below, shr_split}
use Rattle.std.proofs.lemmas.Nat.Bits.{bit_at-lt, bit_at-pow_same, bit_at-pow_other, bit_at-zero, bit_at_and, bit_at_cat_low, bit_at_clear_same, bit_at_clear_other, same_from_bits_below}
use Rattle.ng_class.specs.Mask.{IsLowestBit}
use Rattle.ng_view.specs.Lists.{select}
use Rattle.ng_view.specs.LockSteps.{bits_of}
use Rattle.ng_mask.proofs.Motion.{SplitsInto, select_same}

-- the bits of a mask are those of its word
pub bit_at_low : (word i : ℕ) → i < 32 → bit_at word i ≡ bit_at (word % 2 ^ 32) i
bit_at_low word i lt = sym (ap (λ n. bit_at n i) (shr_split word 32)) ∙ bit_at_cat_low (word / 2 ^ 32) 32 (word % 2 ^ 32) i lt

pub bits_of_low : (word : ℕ) → bits_of word ≡ bits_of (word % 2 ^ 32)
bits_of_low word = select_same (λ i. eqb (bit_at word i) 1) (λ i. eqb (bit_at (word % 2 ^ 32) i) 1) 32 (λ i lt. ap (λ b. eqb b 1) (bit_at_low word i lt))

-- the bits that two masks share
pub bits_of_both : (n bits : ℕ) → select (λ i. eqb (bit_at n i) 1 && eqb (bit_at bits i) 1) 32 ≡ bits_of (bit_and n bits)
bits_of_both n bits = select_same (λ i. eqb (bit_at n i) 1 && eqb (bit_at bits i) 1) (λ i. eqb (bit_at (bit_and n bits) i) 1) 32 (λ i lt. both (bit_at n i) (bit_at bits i) (bit_at-lt n i) (bit_at-lt bits i) ∙ ap (λ b. eqb b 1) (sym (bit_at_and n bits i)))
  where
    both : (a b : ℕ) → a < 2 → b < 2 → (eqb a 1 && eqb b 1) ≡ eqb (min a b) 1
    both zero zero la lb = refl
    both zero (suc zero) la lb = refl
    both (suc zero) zero la lb = refl
    both (suc zero) (suc zero) la lb = refl
    both zero (suc (suc b)) la lb = absurd (omega arith)
    both (suc zero) (suc (suc b)) la lb = absurd (omega arith)
    both (suc (suc a)) b la lb = absurd (omega arith)

-- nothing is left of a mask that lies in the cleared bits
pub none_left : (n bits : ℕ) → n < 2 ^ 64 → bits < 2 ^ 64 → bit_and n bits ≡ n → bit_and n (bit_not w64 bits) ≡ 0
none_left n bits small fits inside =
    let parts : bit_and (2 ^ 64 - 1 - bits) n + bit_and bits n ≡ n = and-not 64 bits n fits small in
    let all : bit_and bits n ≡ n = and_comm bits n ∙ inside in
    let none : bit_and (2 ^ 64 - 1 - bits) n ≡ 0 = omega arith in
    and_comm n (bit_not w64 bits) ∙ none

-- ---- a mask without its lowest bit
abbrev pub rest_of : ℕ → ℕ → ℕ
rest_of mask index = bit_and mask (4294967295 - 1 * 2 ^ index % 4294967296)

pub rest_splits : (mask index : ℕ) → IsLowestBit mask index → SplitsInto mask (rest_of mask index) (2 ^ index)
rest_splits mask index low i lt = ⊎_elim
    (λ (e : i ≡ index). this (bit_at mask i) (bit_at (rest_of mask index) i) (bit_at (2 ^ index) i)
    (ap (bit_at mask) e ∙ low.set)
    (ap (bit_at (rest_of mask index)) e ∙ bit_at_clear_same w32 mask index low.known)
    (ap (bit_at (2 ^ index)) e ∙ bit_at-pow_same index))
    (λ (ne : i ≢ index). other (bit_at mask i) (bit_at (rest_of mask index) i) (bit_at (2 ^ index) i) (bit_at_clear_other w32 mask index low.known i lt ne) (bit_at-pow_other index i ne))
    (cases_eq i index)
  where
    this : (a b c : ℕ) → a ≡ 1 → b ≡ 0 → c ≡ 1 → a ≡ b + c
    this a b c one none same = omega arith

    other : (a b c : ℕ) → b ≡ a → c ≡ 0 → a ≡ b + c
    other a b c same none = omega arith

pow_small : (index : ℕ) → index < 32 → 2 ^ index < 2 ^ 32
pow_small index lt = pow_below index 32 lt

-- it is 0 exactly where that bit is alone
pub alone : (mask index : ℕ) → mask < 2 ^ 32 → IsLowestBit mask index → rest_of mask index ≡ 0 → mask ≡ 2 ^ index
alone mask index fits low none = same_from_bits_below 32 mask (2 ^ index) fits (pow_small index low.known)
    (λ i lt. sum (bit_at mask i) (bit_at (rest_of mask index) i) (bit_at (2 ^ index) i) (rest_splits mask index low i lt) (ap (λ n. bit_at n i) none ∙ bit_at-zero i))
  where
    sum : (a b c : ℕ) → a ≡ b + c → b ≡ 0 → a ≡ c
    sum a b c splits clear = omega arith

pub not_alone : (mask index : ℕ) → mask < 2 ^ 32 → IsLowestBit mask index → 0 < rest_of mask index → mask ≢ 2 ^ index
not_alone mask index fits low more e =
    let below : rest_of mask index ≤ mask = and_le_l mask (4294967295 - 1 * 2 ^ index % 4294967296) in
    let none : rest_of mask index ≡ 0 = same_from_bits_below 32 (rest_of mask index) 0 (omega arith) (omega arith)
    (λ i lt. let s = rest_splits mask index low i lt in let x : ℕ = bit_at (rest_of mask index) i in let y : ℕ = bit_at (2 ^ index) i in
    let t : y ≡ x + y = sym (ap (λ n. bit_at n i) e) ∙ s in let zero_here : x ≡ 0 = omega arith in zero_here ∙ sym (bit_at-zero i)) in
    omega arith
