-- The groups of the trials fill their pages.
use Rattle.std.proofs.Common.{◌≡◌, ◌⊎◌, ℕ, zero, suc, ◌+◌, ◌*◌, ◌<◌, ◌≤◌, leb, refl, ap, ⊎_elim, inl, inr, arith}
use Rattle.std.specs.Int.{bit_at}
use Rattle.std.proofs.lemmas.Bool.{cases_lt, le-leb}
use Rattle.std.proofs.lemmas.Nat.Bits.{bit_at-lt, bit_at-zero, bit_at_above}
use Rattle.ng_class.specs.Slot as slot
use Rattle.ng_class.specs.Class as class
use Rattle.ng_view.specs.Lists.{count_of}
use Rattle.ng_view.specs.Places.{stride, units}
use Rattle.ng_view.specs.Slots.{IsPlain}
use Rattle.ng_view.specs.declared.view.Group.{Group}
use Rattle.ng_space_tests.specs.Race.{race_group}
use Rattle.ng_space_tests.specs.Trials.{FillsPage, page_group}

abbrev pub pair_group : Group
pair_group = page_group 23 1

-- ---- two slots, of which the second is in the mask
pub pair-stride : stride pair_group ≡ 2032
unfolding stride slot.stride_of class.unit_table
pair-stride = refl

pair-units : units 24 ≡ 127
unfolding class.unit_table
pair-units = refl

pair-plain : IsPlain pair_group
pair-plain = record { small = omega arith; wide = (let u = pair-units in let s = pair-stride in omega arith) }

pair-bits : (i : ℕ) → i < 32 → bit_at 2 i + bit_at 0 i ≤ count_of (leb i 1)
pair-bits zero lt = omega arith
pair-bits (suc zero) lt = omega arith
pair-bits (suc (suc i)) lt =
    let a = bit_at_above 2 2 (suc (suc i)) (omega arith) (omega arith) in let b = bit_at-zero (suc (suc i)) in
    let x : ℕ = bit_at 2 (suc (suc i)) in let y : ℕ = bit_at 0 (suc (suc i)) in let a' : x ≡ 0 = a in let b' : y ≡ 0 = b in omega (arith, a', b')

pub pair_fills : FillsPage 23 1 2
pair_fills = record {
  low = omega arith;
  few = omega arith;
  kind = inl (record { low = omega arith; fits = (let u = pair-units in omega arith) });
  fits = (let s = pair-stride in let r : stride pair_group * 2 ≡ 4064 = ap (λ n. n * 2) s in omega arith);
  large = (let u = pair-units in omega arith);
  masks = record { small = omega arith; apart = pair-bits; plain = λ i lt some_bit. pair-plain };
}

-- ---- sixteen slots, which are all in the mask
race-stride : stride race_group ≡ 160
unfolding stride slot.stride_of class.unit_table
race-stride = refl

race-units : units 10 ≡ 10
unfolding class.unit_table
race-units = refl

pub race_plain : IsPlain race_group
race_plain = record { small = omega arith; wide = (let u = race-units in let s = race-stride in omega arith) }

race-bits : (i : ℕ) → i < 32 → bit_at 65535 i + bit_at 0 i ≤ count_of (leb i 15)
race-bits i lt = ⊎_elim
    (λ (low : i < 16). sum (bit_at 65535 i) (bit_at 0 i) (count_of (leb i 15)) (bit_at-lt 65535 i) (bit_at-zero i) (inr (ap count_of (le-leb i 15 (omega arith)))))
    (λ (high : 16 ≤ i). sum (bit_at 65535 i) (bit_at 0 i) (count_of (leb i 15)) (bit_at-lt 65535 i) (bit_at-zero i) (inl (bit_at_above 65535 16 i (omega arith) high)))
    (cases_lt i 16)
  where
    sum : (a b c : ℕ) → a < 2 → b ≡ 0 → (a ≡ 0) ⊎ (c ≡ 1) → a + b ≤ c
    sum a b c few none either = ⊎_elim (λ (z : a ≡ 0). omega arith) (λ (o : c ≡ 1). omega arith) either

pub race_fills : FillsPage 9 15 65535
race_fills = record {
  low = omega arith;
  few = omega arith;
  kind = inl (record { low = omega arith; fits = (let u = race-units in omega arith) });
  fits = (let s = race-stride in let r : stride race_group * 16 ≡ 2560 = ap (λ n. n * 16) s in omega arith);
  large = (let u = race-units in omega arith);
  masks = record { small = omega arith; apart = race-bits; plain = λ i lt some_bit. race_plain };
}
