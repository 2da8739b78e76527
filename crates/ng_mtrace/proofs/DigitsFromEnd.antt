-- Hexadecimal digits, read from the end of a text.
use Rattle.std.proofs.Common.{◌≡◌, ℕ, ◌+◌, ◌-◌, ◌*◌, ◌^◌, ◌%◌, ◌<◌, ◌≤◌, List, [], ◌∷◌, ◌++◌, length, take, drop, get_or, true, refl, sym, ap, ◌∙◌, arith, append_assoc}
use Rattle.std.specs.Char.{is_digit, digit_value}
use Rattle.std.specs.Str.Parse.{digits_value, digits_value_after}
use Rattle.std.proofs.lemmas.Bool.Decides.{nat_tests}
use Rattle.std.proofs.lemmas.List.{drop_more, drop_all, length-drop, take-append-drop}
use Rattle.std.proofs.Math.Nat.{mul_comm, mul_assoc, add-mul, mod-eq_of_lt, mul-le-mul_right, pow-le-pow_right}
use Rattle.ng_mtrace.specs.Plain.{AreDigitsFrom, EndsInNumber}
use Rattle.ng_mtrace.proofs.Digits.{power, power_next}

-- what stands before digits counts by their number
digits_value_after-is : (n : ℕ) (digits : List ℕ) → digits_value_after 16 n digits ≡ n * 16 ^ length digits + digits_value_after 16 0 digits
digits_value_after-is n [] = omega arith
digits_value_after-is n (c ∷ cs) =
    let d : ℕ = digit_value c in
    let p : ℕ = 16 ^ length cs in
    let here : digits_value_after 16 (n * 16 + d) cs ≡ (n * 16 + d) * p + digits_value_after 16 0 cs = digits_value_after-is (n * 16 + d) cs in
    let alone : digits_value_after 16 (0 * 16 + d) cs ≡ (0 * 16 + d) * p + digits_value_after 16 0 cs = digits_value_after-is (0 * 16 + d) cs in
    let long : length (c ∷ cs) ≡ length cs + 1 = omega arith in
    let next : n * 16 ^ length (c ∷ cs) ≡ n * (16 * p) = ap (λ (k : ℕ). n * k) (ap (λ (k : ℕ). 16 ^ k) long ∙ power_next (length cs)) in
    let front : (n * 16 + d) * p ≡ n * (16 * p) + d * p = add-mul (n * 16) d p ∙ ap (λ (k : ℕ). k + d * p) (mul_assoc n 16 p) in
    let none : (0 * 16 + d) * p ≡ d * p = ap (λ (k : ℕ). k * p) (omega arith) in
    omega arith

-- one digit more before those read
digits_value-cons : (c : ℕ) (cs : List ℕ) → digits_value 16 (c ∷ cs) ≡ digit_value c * 16 ^ length cs + digits_value 16 cs
digits_value-cons c cs =
    let d : ℕ = digit_value c in
    let none : 0 * 16 + d ≡ d = omega arith in
    ap (λ (n : ℕ). digits_value_after 16 n cs) none ∙ digits_value_after-is d cs

-- no digit was read
pub AreDigitsFrom-none : (start : ℕ) (text : List ℕ) (value : ℕ) → start ≡ length text → value ≡ 0 → AreDigitsFrom start text value
AreDigitsFrom-none start text value end zero =
    let none : drop start text ≡ [] = drop_all start text (omega arith) in
    record { within = omega arith; few = omega arith; all = rw none refl; value_is = rw none zero }

-- one digit more was read
pub AreDigitsFrom-more : (start : ℕ) (text : List ℕ) (value d scale : ℕ) → 0 < start → AreDigitsFrom start text value → d ≡ digit_value (get_or text (start - 1) 0) → d < 16
    → length text ≤ start - 1 + 16 → scale ≡ 16 ^ (length text - start) → AreDigitsFrom (start - 1) text (value + d * scale)
AreDigitsFrom-more start text value d scale some read is small room scaled =
    let c : ℕ = get_or text (start - 1) 0 in
    let place : start - 1 + 1 ≡ start = omega arith in
    let within : start ≤ length text = read.within in
    let more : drop (start - 1) text ≡ c ∷ drop (start - 1 + 1) text = drop_more text (start - 1) 0 (omega arith) in
    let cut : drop (start - 1) text ≡ c ∷ drop start text = rw place at more in
    let low : digit_value c < 16 = omega arith in
    let digit : is_digit c 16 ≡ true = grind (arith, nat_tests) in
    let count : 16 ^ length (drop start text) ≡ scale = ap (λ (k : ℕ). 16 ^ k) (length-drop start text) ∙ sym scaled in
    let sum : digits_value 16 (drop (start - 1) text) ≡ digit_value c * scale + digits_value 16 (drop start text) =
    ap (digits_value 16) cut ∙ digits_value-cons c (drop start text) ∙ ap (λ (k : ℕ). digit_value c * k + digits_value 16 (drop start text)) count in
    let counts : d * scale ≡ digit_value c * scale = ap (λ (k : ℕ). k * scale) is in
    let was : value ≡ digits_value 16 (drop start text) = read.value_is in
    record {
      within = omega arith;
      few = room;
      all = rw cut (rw digit read.all);
      value_is = omega arith;
    }

-- by what a digit counts, where fewer than sixteen were read
pub scale_is : (n scale : ℕ) → n < 16 → scale ≡ 16 ^ n % 2 ^ 64 → scale ≡ 16 ^ n
scale_is n scale few is =
    let low : 16 ^ n ≤ 16 ^ 15 = power n few in
    is ∙ mod-eq_of_lt (omega arith)

-- by what the digit before these counts
pub scale-next : (n scale next : ℕ) → n < 16 → scale ≡ 16 ^ n → next ≡ scale * 16 % 2 ^ 64 → next ≡ 16 ^ (n + 1) % 2 ^ 64
scale-next n scale next few is more =
    more ∙ ap (λ (k : ℕ). k % 2 ^ 64) (ap (λ (k : ℕ). k * 16) is ∙ mul_comm (16 ^ n) 16 ∙ sym (power_next n))

-- one digit more keeps below the next power
pub small-next : (value d scale n : ℕ) → value < 16 ^ n → d < 16 → scale ≡ 16 ^ n → value + d * scale < 16 ^ (n + 1)
small-next value d scale n small digit is =
    let most : d * scale ≤ 15 * scale = mul-le-mul_right scale (omega arith) in
    let next : 16 ^ (n + 1) ≡ 16 * 16 ^ n = power_next n in
    omega arith

-- sixteen digits keep below 2 ^ 64
pub power_top : (n : ℕ) → n < 16 → 16 ^ (n + 1) ≤ 16 ^ 16
power_top n few = pow-le-pow_right {n = 16} (omega arith) {i = n + 1} {j = 16} (omega arith)

-- a text that ends with `0x` and digits
pub EndsInNumber-of : (start : ℕ) (text before : List ℕ) (value : ℕ) → AreDigitsFrom start text value → start < length text → take start text ≡ before ++ 48 ∷ 120 ∷ []
    → EndsInNumber text before value
EndsInNumber-of start text before value read some front =
    let few : length text ≤ start + 16 = read.few in
    record {
      digits = drop start text;
      text_is = sym (take-append-drop start text) ∙ ap (λ (bytes : List ℕ). bytes ++ drop start text) front ∙ append_assoc before (48 ∷ 120 ∷ []) (drop start text);
      some = omega (arith, length-drop start text);
      few = omega (arith, length-drop start text);
      all = read.all;
      value_is = read.value_is;
    }
