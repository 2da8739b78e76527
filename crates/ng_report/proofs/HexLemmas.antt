-- One more hexadecimal digit.
use Rattle.std.proofs.Common.{◌≡◌, ◌≢◌, ℕ, suc, ◌+◌, ◌/◌, ◌%◌, ◌-◌, ◌<◌, ◌≤◌, ◌^◌, ◌*◌, List, [], ◌∷◌, false, true, length, drop, set, arith, refl, sym, ap, ◌∙◌, subst, ◌==◌}
use Rattle.std.proofs.lemmas.Nat.{shr_below}
use Rattle.std.proofs.lemmas.Grind.{common_steps}
use Rattle.std.specs.Fmt.{digits, digit_glyph}
use Rattle.ng_report.specs.Digits.{from_digit}

pub digits-begin : (n : ℕ) (buffer : List ℕ) → length buffer ≡ 16 → digits 16 false n ≡ from_digit 64 n (drop 16 buffer)
unfolding digits from_digit
digits-begin n buffer len = let none : drop 16 buffer ≡ [] = grind (arith, common_steps) in rw none refl

pub more-digits : (k n : ℕ) (acc : List ℕ) → n / 16 ≢ 0 → from_digit (suc k) n acc ≡ from_digit k (n / 16) (digit_glyph false (n % 16) ∷ acc)
unfolding from_digit
more-digits k n acc more = let e : (n / 16 == 0) ≡ false = grind (arith, common_steps) in rw e refl

pub last-digit : (k n : ℕ) (acc : List ℕ) → n / 16 ≡ 0 → from_digit (suc k) n acc ≡ digit_glyph false (n % 16) ∷ acc
unfolding from_digit
last-digit k n acc last = let e : (n / 16 == 0) ≡ true = grind (arith, common_steps) in rw e refl

pub drop-set_digit : (buffer : List ℕ) (step g : ℕ) → length buffer ≡ 16 → step < 16 → drop (15 - step) (set buffer (15 - step) g) ≡ g ∷ drop (16 - step) buffer
drop-set_digit buffer step g len low = grind (arith, common_steps)

pub below-next : (step n : ℕ) → step < 16 → n < 2 ^ (4 * (16 - step)) → n / 16 < 2 ^ (4 * (16 - (step + 1)))
below-next step n low small =
    let e : 4 * (16 - step) ≡ 4 * (16 - (step + 1)) + 4 = omega arith in
    shr_below n (4 * (16 - (step + 1))) 4 (subst (λ (m : ℕ). n < 2 ^ m) e small)

pub next-digit : (n0 step rest g : ℕ) (buffer : List ℕ) → length buffer ≡ 16 → step < 16 → g ≡ digit_glyph false (rest % 16) → rest / 16 ≢ 0
    → digits 16 false n0 ≡ from_digit (64 - step) rest (drop (16 - step) buffer)
    → digits 16 false n0 ≡ from_digit (64 - (step + 1)) (rest / 16) (drop (16 - (step + 1)) (set buffer (15 - step) g))
next-digit n0 step rest g buffer len low glyph more so_far =
    let e : 64 - step ≡ suc (64 - (step + 1)) = omega arith in
    let d : 16 - (step + 1) ≡ 15 - step = omega arith in
    rw (d, drop-set_digit buffer step g len low, glyph) (so_far ∙ (ap (λ (k : ℕ). from_digit k rest (drop (16 - step) buffer)) e ∙ more-digits (64 - (step + 1)) rest (drop (16 - step) buffer) more))

pub whole-number : (n0 step rest g : ℕ) (buffer : List ℕ) → length buffer ≡ 16 → step < 16 → g ≡ digit_glyph false (rest % 16) → rest / 16 ≡ 0
    → digits 16 false n0 ≡ from_digit (64 - step) rest (drop (16 - step) buffer)
    → drop (15 - step) (set buffer (15 - step) g) ≡ digits 16 false n0
whole-number n0 step rest g buffer len low glyph last so_far =
    let e : 64 - step ≡ suc (64 - (step + 1)) = omega arith in
    rw (drop-set_digit buffer step g len low, glyph) (sym (so_far ∙ (ap (λ (k : ℕ). from_digit k rest (drop (16 - step) buffer)) e ∙ last-digit (64 - (step + 1)) rest (drop (16 - step) buffer) last)))

pub none-left : (step rest : ℕ) → 16 ≤ step → step ≤ 16 → rest < 2 ^ (4 * (16 - step)) → 0 < rest → ⊥
none-left step rest a b small some =
    let e : 4 * (16 - step) ≡ 0 = omega arith in
    let one : rest < 2 ^ 0 = subst (λ (m : ℕ). rest < 2 ^ m) e small in
    omega arith
