-- When two masks and one bit are all the bits of a group.
use Rattle.std.proofs.Common.{◌≡◌, ◌↔◌, ◌%◌, ◌*◌, ◌≢◌, ℕ, ◌+◌, ◌^◌, ◌<◌, ◌≤◌, max, arith, ap, ◌∙◌, ⊎_elim}
use Rattle.std.specs.Prelude.{bit_or}
use Rattle.std.specs.Int.{bit_at}
use Rattle.std.proofs.lemmas.Nat.{one_shl}
use Rattle.std.proofs.lemmas.Bool.{cases_eq, cases_lt}
use Rattle.std.proofs.lemmas.Nat.Bits.{bit_at_or, bit_at-pow_same, bit_at-pow_other, bit_at_above, bit_at-lt, same_from_bits}
use Rattle.ng_class.specs.Mask.{FillsGroup, all_bits_of}
use Rattle.ng_class.proofs.Masks.{bit_at-all_bits_of, bit_at-all_bits_of_above}

-- the bits of two masks and one bit together
bit_at-or_or : (avail freed bit i : ℕ)
    → bit_at (bit_or (bit_or avail freed) (2 ^ bit)) i ≡ max (max (bit_at avail i) (bit_at freed i)) (bit_at (2 ^ bit) i)
bit_at-or_or avail freed bit i =
    bit_at_or (bit_or avail freed) (2 ^ bit) i ∙ ap (λ x. max x (bit_at (2 ^ bit) i)) (bit_at_or avail freed i)

-- where they are all bits to the last, they fill the group
pub fills_from_all : (avail freed bit last : ℕ) → bit_or (bit_or avail freed) (2 ^ bit) ≡ all_bits_of last → FillsGroup avail freed bit last
fills_from_all avail freed bit last all other within apart =
    let here : bit_at (bit_or (bit_or avail freed) (2 ^ bit)) other ≡ bit_at (all_bits_of last) other = ap (λ n. bit_at n other) all in
    omega (arith, here, bit_at-or_or avail freed bit other, bit_at-all_bits_of last other within, bit_at-pow_other bit other apart)

-- where they fill the group, they are all bits to the last
pub all_from_fills : (avail freed bit last : ℕ) → bit ≤ last → avail < 2 ^ (last + 1) → freed < 2 ^ (last + 1)
    → FillsGroup avail freed bit last → bit_or (bit_or avail freed) (2 ^ bit) ≡ all_bits_of last
all_from_fills avail freed bit last own few_avail few_freed fills = same_from_bits _ _ (λ other.
    let parts : bit_at (bit_or (bit_or avail freed) (2 ^ bit)) other ≡ max (max (bit_at avail other) (bit_at freed other)) (bit_at (2 ^ bit) other) = bit_at-or_or avail freed bit other in
    ⊎_elim
    (λ (above : last < other). omega (arith, parts, bit_at-all_bits_of_above last other above, bit_at-pow_other bit other (omega arith), bit_at_above avail (last + 1) other few_avail (omega arith), bit_at_above freed (last + 1) other few_freed (omega arith)))
    (λ (within : other ≤ last). ⊎_elim
    (λ (same : other ≡ bit). let here : bit_at (2 ^ bit) other ≡ 1 = rw same (bit_at-pow_same bit) in omega (arith, parts, here, bit_at-all_bits_of last other within, bit_at-lt avail other, bit_at-lt freed other))
    (λ (apart : other ≢ bit). omega (arith, parts, fills other within apart, bit_at-all_bits_of last other within, bit_at-pow_other bit other apart, bit_at-lt avail other, bit_at-lt freed other))
    (cases_eq other bit))
    (cases_lt last other))

-- the test `avail | freed | 1 << bit == all_bits(last)`, as code computes it
pub fills_test : (avail freed bit last : ℕ) → bit ≤ last → last < 32 → avail < 2 ^ (last + 1) → freed < 2 ^ (last + 1)
    → (bit_or (bit_or avail freed) (1 * 2 ^ bit % 2 ^ 32) ≡ all_bits_of last) ↔ FillsGroup avail freed bit last
fills_test avail freed bit last own known few_avail few_freed =
    rw (one_shl bit 32 (omega arith)) ((λ all. fills_from_all avail freed bit last all), λ fills. all_from_fills avail freed bit last own few_avail few_freed fills)
