-- What the code keeps of a list so far. No public clause cites this module.
use Rattle.std.specs.Prelude.{ℕ, ◌∷◌, [], ◌++◌, ◌==◌, ◌&&◌, List, length, if◌then◌else◌, nat_le, nat_lt, Option, Some, None, option_and_then}
use Rattle.std.specs.List.{slice_split}
use Rattle.ng_script.specs.Numbers.{number_of}

-- the numbers so far, and the one that a text writes
unfoldable pub number_added : List ℕ → List ℕ → Option (List ℕ)
number_added numbers text =
    option_and_then
    (λ number. if nat_le 1 number && nat_le number 1000000 && nat_lt (length numbers) 64 then Some (numbers ++ number ∷ []) else None)
    (number_of text)

-- the numbers so far, and those that texts write
unfoldable pub numbers_added : List ℕ → List (List ℕ) → Option (List ℕ)
numbers_added numbers [] = Some numbers
numbers_added numbers (text ∷ texts) = option_and_then (λ more. numbers_added more texts) (number_added numbers text)

-- the numbers of a list
unfoldable pub list_of : List ℕ → Option (List ℕ)
list_of text = numbers_added [] (slice_split (λ byte. byte == 44) text)
