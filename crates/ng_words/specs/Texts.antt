-- What texts write.
use Rattle.std.specs.Prelude.{◌≡◌, ℕ, ◌≤◌, ◌==◌, List, All, length, map, Some}
use Rattle.std.specs.List.{slice_split}
use Rattle.ng_script.specs.Numbers.{number_of}

-- a text writes a number that lies between two bounds
pub record IsBetween (least most : ℕ) (text : List ℕ) (number : ℕ) : Type 0 where
  pub written : number_of text ≡ Some number
  pub above : least ≤ number
  pub below : number ≤ most

-- the number of a map call that may be refused
pub record IsCallNumber (number : ℕ) : Type 0 where
  pub least : 1 ≤ number
  pub most : number ≤ 1000000

-- the texts between a text's commas write these numbers, of which there are at most 64
pub record IsList (text : List ℕ) (numbers : List ℕ) : Type 0 where
  pub written : map number_of (slice_split (λ byte. byte == 44) text) ≡ map Some numbers
  pub few : length numbers ≤ 64
  pub each : All IsCallNumber numbers
