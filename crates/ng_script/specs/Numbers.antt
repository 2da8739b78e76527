-- The numbers of scripts and of words.
use Rattle.std.specs.Prelude.{ℕ, ◌^◌, List, ◌&&◌, codes, if◌then◌else◌, length, drop, nat_le, nat_lt, nat_eq, Option, Some, None}
use Rattle.std.specs.Char.{is_digit}
use Rattle.std.specs.List.{list_all, starts_with}
use Rattle.std.specs.Str.Parse.{digits_value}

-- the number that digits of this base write: one or more, all of them digits, and the number is below 2 ^ 64
unfoldable pub value_of : ℕ → List ℕ → Option ℕ
value_of base digits =
    if nat_le 1 (length digits) && list_all (λ byte. is_digit byte base) digits && nat_lt (digits_value base digits) (2 ^ 64)
    then Some (digits_value base digits)
    else None

-- the number that a text writes: `0x` and hexadecimal digits of either case, or decimal digits
unfoldable pub number_of : List ℕ → Option ℕ
number_of text = if starts_with nat_eq text (codes "0x") then value_of 16 (drop 2 text) else value_of 10 text
