-- The numbers that digits write, read one by one.
use Rattle.std.proofs.Common.{◌≡◌, ℕ, ◌+◌, ◌*◌, ◌^◌, ◌<◌, ◌≤◌, List, length, take, drop, get_or, Bool, true, false, Option, Some, None, refl, sym, ap, ◌∙◌, arith, ◌&&◌, leb, ltb, cond, ⊎_elim, true≢false}
use Rattle.std.specs.Prelude.{codes}
use Rattle.std.specs.Str.{bytes_eq}
use Rattle.std.proofs.lemmas.Bool.{cases_Bool}
use Rattle.std.proofs.lemmas.Slice.Eq.{bytes_eq-Decides}
use Rattle.std.specs.List.{list_all}
use Rattle.std.specs.Char.{is_digit, digit_value}
use Rattle.std.specs.Str.Parse.{digits_value}
use Rattle.std.proofs.lemmas.Bool.Decides.{nat_tests}
use Rattle.std.proofs.lemmas.Int.Digits.{digits_value_more}
use Rattle.std.proofs.lemmas.List.Folds.{list_all_more, list_all_at}
use Rattle.std.proofs.lemmas.Str.Parse.{digits_value-take-le}
use Rattle.ng_script.specs.Numbers.{value_of, number_of}

none_if : (b : Bool) (x : Option ℕ) → b ≡ false → None ≡ cond b x None
none_if b x off = rw off refl

second_off : (a b c : Bool) → b ≡ false → (a && b && c) ≡ false
second_off true b c off = rw off refl
second_off false b c off = refl

third_off : (a b c : Bool) → c ≡ false → (a && b && c) ≡ false
third_off true true c off = off
third_off true false c off = refl
third_off false b c off = refl

-- no digits write no number
pub none_by_length : (base : ℕ) (digits : List ℕ) → length digits ≡ 0 → None ≡ value_of base digits
unfolding value_of
none_by_length base digits empty =
    let off : leb 1 (length digits) ≡ false = grind (arith, nat_tests) in
    none_if _ (Some (digits_value base digits)) (rw off refl)

-- a byte that is no digit spoils the number
pub none_by_digit : (base : ℕ) (digits : List ℕ) (i : ℕ)
    → i < length digits → base ≤ digit_value (get_or digits i 0) → None ≡ value_of base digits
unfolding value_of
none_by_digit base digits i within large =
    let off : is_digit (get_or digits i 0) base ≡ false = grind (arith, nat_tests) in
    let all : list_all (λ byte. is_digit byte base) digits ≡ false = list_all_at (λ byte. is_digit byte base) digits i 0 within off in
    none_if _ (Some (digits_value base digits)) (second_off (leb 1 (length digits)) (list_all (λ byte. is_digit byte base) digits) (ltb (digits_value base digits) (2 ^ 64)) all)

-- a number that is too large
pub none_by_size : (base : ℕ) (digits : List ℕ) → 2 ^ 64 ≤ digits_value base digits → None ≡ value_of base digits
unfolding value_of
none_by_size base digits large =
    let off : ltb (digits_value base digits) (2 ^ 64) ≡ false = grind (arith, nat_tests) in
    none_if _ (Some (digits_value base digits)) (third_off (leb 1 (length digits)) (list_all (λ byte. is_digit byte base) digits) (ltb (digits_value base digits) (2 ^ 64)) off)

-- one digit more is too much already
pub none_by_next : (base : ℕ) (digits : List ℕ) (i value : ℕ) → 1 ≤ base → i < length digits → value ≡ digits_value base (take i digits)
    → 2 ^ 64 ≤ value * base + digit_value (get_or digits i 0) → None ≡ value_of base digits
none_by_next base digits i value some within is large =
    let more : digits_value base (take (i + 1) digits) ≡ digits_value base (take i digits) * base + digit_value (get_or digits i 0) = digits_value_more base digits i within in
    let same : digits_value base (take (i + 1) digits) ≡ value * base + digit_value (get_or digits i 0) = rw (← is) at more in
    none_by_size base digits (omega (arith, same, digits_value-take-le base digits (i + 1) some))

-- the number that digits write
pub number_is : (base : ℕ) (digits : List ℕ) → 0 < length digits → list_all (λ byte. is_digit byte base) digits ≡ true
    → digits_value base digits < 2 ^ 64 → Some (digits_value base digits) ≡ value_of base digits
unfolding value_of
number_is base digits some all fits =
    let first : leb 1 (length digits) ≡ true = grind (arith, nat_tests) in
    let last : ltb (digits_value base digits) (2 ^ 64) ≡ true = grind (arith, nat_tests) in
    rw first (rw all (rw last refl))

-- one digit more
pub all_more : (base : ℕ) (digits : List ℕ) (i : ℕ) → i < length digits
    → list_all (λ byte. is_digit byte base) (take i digits) ≡ true → digit_value (get_or digits i 0) < base → list_all (λ byte. is_digit byte base) (take (i + 1) digits) ≡ true
all_more base digits i within all small =
    let on : is_digit (get_or digits i 0) base ≡ true = grind (arith, nat_tests) in
    list_all_more (λ byte. is_digit byte base) digits i 0 within ∙ rw (all, on) refl

-- bytes compare alike in either order
bytes_eq-swap : (xs ys : List ℕ) (b : Bool) → bytes_eq xs ys ≡ b → bytes_eq ys xs ≡ b
bytes_eq-swap xs ys true same = (bytes_eq-Decides ys xs).1 (sym ((bytes_eq-Decides xs ys).0 same))
bytes_eq-swap xs ys false other =
    ⊎_elim
    (λ yes. absurd (true≢false (sym ((bytes_eq-Decides xs ys).1 (sym ((bytes_eq-Decides ys xs).0 yes))) ∙ other)))
    (λ no. no)
    (cases_Bool (bytes_eq ys xs))

-- a text behind `0x`, and one without it
pub number_of-hex : (text rest : List ℕ) → bytes_eq (take 2 text) (codes "0x") ≡ true → rest ≡ drop 2 text → value_of 16 rest ≡ number_of text
unfolding number_of
number_of-hex text rest starts is = rw (bytes_eq-swap (take 2 text) (codes "0x") true starts) (ap (λ (digits : List ℕ). value_of 16 digits) is)

pub number_of-decimal : (text : List ℕ) → bytes_eq (take 2 text) (codes "0x") ≡ false → value_of 10 text ≡ number_of text
unfolding number_of
number_of-decimal text lacks = rw (bytes_eq-swap (take 2 text) (codes "0x") false lacks) refl
