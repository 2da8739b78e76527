-- What a plain line ends with. No public clause cites this module.
use Rattle.std.specs.Prelude.{ℕ, ◌≡◌, ◌+◌, ◌<◌, ◌≤◌, true, List, ◌∷◌, ◌++◌, length, drop}
use Rattle.std.specs.List.{list_all}
use Rattle.std.specs.Char.{is_digit}
use Rattle.std.specs.Str.Parse.{digits_value}

-- from this place on a text has digits alone, 16 at most, and this is their value
pub record AreDigitsFrom (start : ℕ) (text : List ℕ) (value : ℕ) : Type 0 where
  pub within : start ≤ length text
  pub few : length text ≤ start + 16
  pub all : list_all (λ byte. is_digit byte 16) (drop start text) ≡ true
  pub value_is : value ≡ digits_value 16 (drop start text)

-- a text is these bytes and then `0x` and 1 to 16 digits of this value
pub record EndsInNumber (text before : List ℕ) (value : ℕ) : Type 0 where
  pub digits : List ℕ
  pub text_is : text ≡ before ++ 48 ∷ 120 ∷ digits
  pub some : 0 < length digits
  pub few : length digits ≤ 16
  pub all : list_all (λ byte. is_digit byte 16) digits ≡ true
  pub value_is : value ≡ digits_value 16 digits
