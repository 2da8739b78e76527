-- The numbers of a log: hexadecimal ones, pointers and sizes.
use Rattle.std.specs.Prelude.{ℕ, Bool, List, [], ◌∷◌, ◌==◌, length, Option, Some, None, ◌&&◌, nat_le, if◌then◌else◌, codes}
use Rattle.std.specs.List.{list_all}
use Rattle.std.specs.Char.{is_digit}
use Rattle.std.specs.Str.{bytes_eq}
use Rattle.std.specs.Str.Parse.{digits_value}

-- 1 to 16 hexadecimal digits, of either case
abbrev pub is_hex : List ℕ → Bool
is_hex digits =
    nat_le 1 (length digits) && nat_le (length digits) 16 && list_all (λ byte. is_digit byte 16) digits

-- the number that 1 to 16 hexadecimal digits write
unfoldable pub number_of : List ℕ → Option ℕ
number_of digits = if is_hex digits then Some (digits_value 16 digits) else None

-- the number that `0x` and 1 to 16 hexadecimal digits write
abbrev pub hex_of : List ℕ → Option ℕ
hex_of [] = None
hex_of (nought ∷ []) = None
hex_of (nought ∷ x ∷ digits) = if (nought == 48) && (x == 120) then number_of digits else None

-- a pointer: `(nil)`, which is 0, or a hexadecimal number
abbrev pub ptr_of : List ℕ → Option ℕ
ptr_of token = if bytes_eq token (codes "(nil)") then Some 0 else hex_of token

-- a size: `0`, or a hexadecimal number
abbrev pub size_of : List ℕ → Option ℕ
size_of token = if bytes_eq token (codes "0") then Some 0 else hex_of token
