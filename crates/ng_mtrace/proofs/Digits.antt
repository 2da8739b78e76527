-- Hexadecimal digits, read one by one.
use Rattle.std.proofs.Common.{◌≡◌, ℕ, ◌+◌, ◌*◌, ◌^◌, ◌<◌, ◌≤◌, ◌⊎◌, List, length, take, get_or, Bool, true, false, Option, Some, None, refl, ◌∙◌, arith, ◌&&◌, leb, eqb, ⊎_elim, cond}
use Rattle.std.specs.Prelude.{min}
use Rattle.std.specs.List.{list_all}
use Rattle.std.specs.Char.{is_digit, digit_value}
use Rattle.std.specs.Str.Parse.{digits_value}
use Rattle.std.proofs.lemmas.Bool.{agree_below_at, eqb-true}
use Rattle.std.proofs.lemmas.Bool.Decides.{nat_tests}
use Rattle.std.proofs.lemmas.List.{take_all}
use Rattle.std.proofs.lemmas.List.Folds.{list_all_more, list_all_at}
use Rattle.std.proofs.Math.Nat.{pow-le-pow_right, mul_comm}
use Rattle.std.proofs.lemmas.Nat.{pow-add}
use Rattle.ng_mtrace.specs.Numbers.{number_of}
use Rattle.ng_mtrace.specs.declared.number.TheConstants.{DIGITS}

-- what the table of digits has for a byte
pub digits_at : (byte place : ℕ) → byte < 256 → place ≡ byte → get_or DIGITS place 0 ≡ min (digit_value byte) 16
digits_at byte place small same =
    rw same (eqb-true (get_or DIGITS byte 0) (min (digit_value byte) 16) (agree_below_at (λ b. eqb (get_or DIGITS b 0) (min (digit_value b) 16)) (λ b. true) 256 byte refl small))

second_off : (a b c : Bool) → b ≡ false → (a && b && c) ≡ false
second_off true b c off = rw off refl
second_off false b c off = refl

third_off : (a b c : Bool) → c ≡ false → (a && b && c) ≡ false
third_off true true c off = off
third_off true false c off = refl
third_off false b c off = refl

none_if : (b : Bool) (x : Option ℕ) → b ≡ false → None ≡ cond b x None
none_if b x off = rw off refl

-- digits that are too few or too many write no number
pub none_by_length : (digits : List ℕ) → (length digits ≡ 0) ⊎ (16 < length digits) → None ≡ number_of digits
unfolding number_of
none_by_length digits out =
    let all : Bool = list_all (λ byte. is_digit byte 16) digits in
    none_if (leb 1 (length digits) && leb (length digits) 16 && all) (Some (digits_value 16 digits)) (⊎_elim
    (λ none. let off : leb 1 (length digits) ≡ false = grind (arith, nat_tests) in rw off refl)
    (λ many. second_off (leb 1 (length digits)) (leb (length digits) 16) all (grind (arith, nat_tests)))
    out)

-- a byte that is no digit spoils the number
pub none_by_digit : (digits : List ℕ) (i : ℕ)
    → i < length digits → 16 ≤ digit_value (get_or digits i 0) → None ≡ number_of digits
unfolding number_of
none_by_digit digits i within large =
    let off : is_digit (get_or digits i 0) 16 ≡ false = grind (arith, nat_tests) in
    let all : list_all (λ byte. is_digit byte 16) digits ≡ false = list_all_at (λ byte. is_digit byte 16) digits i 0 within off in
    none_if _ (Some (digits_value 16 digits)) (third_off (leb 1 (length digits)) (leb (length digits) 16) (list_all (λ byte. is_digit byte 16) digits) all)

-- the number that digits write
pub number_is : (digits : List ℕ)
    → 0 < length digits → length digits ≤ 16 → list_all (λ byte. is_digit byte 16) digits ≡ true → Some (digits_value 16 digits) ≡ number_of digits
unfolding number_of
number_is digits some few all =
    let first : leb 1 (length digits) ≡ true = grind (arith, nat_tests) in
    let second : leb (length digits) 16 ≡ true = grind (arith, nat_tests) in
    rw first (rw second (rw all refl))

-- one digit more
pub all_more : (digits : List ℕ) (i : ℕ) → i < length digits
    → list_all (λ byte. is_digit byte 16) (take i digits) ≡ true → digit_value (get_or digits i 0) < 16 → list_all (λ byte. is_digit byte 16) (take (i + 1) digits) ≡ true
all_more digits i within all small =
    let on : is_digit (get_or digits i 0) 16 ≡ true = grind (arith, nat_tests) in
    list_all_more (λ byte. is_digit byte 16) digits i 0 within ∙ rw (all, on) refl

-- sixteen digits keep below 2 ^ 64
pub power : (i : ℕ) → i < 16 → 16 ^ i ≤ 16 ^ 15
power i below = pow-le-pow_right {n = 16} (omega arith) {i = i} {j = 15} (omega arith)

pub power_next : (i : ℕ) → 16 ^ (i + 1) ≡ 16 * 16 ^ i
power_next i = pow-add 16 i 1 ∙ mul_comm (16 ^ i) 16

pub take_whole : (digits : List ℕ) (n : ℕ) → length digits ≤ n → take n digits ≡ digits
take_whole digits n end = take_all n digits end

pub some_if : (n : ℕ) → eqb n 0 ≡ false → 0 < n
some_if n off = grind (arith, nat_tests)
