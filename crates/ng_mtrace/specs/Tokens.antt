-- The tokens of a line.
use Rattle.std.specs.Prelude.{ℕ, Bool, true, false, List, [], ◌∷◌, ◌==◌, ◌||◌, filter, reverse}
use Rattle.std.specs.List.{slice_split}

-- a space or a tab
abbrev pub is_blank : ℕ → Bool
is_blank byte = (byte == 32) || (byte == 9)

-- one byte or more
abbrev pub is_filled : List ℕ → Bool
is_filled [] = false
is_filled (byte ∷ bytes) = true

-- the runs of bytes other than space and tab
unfoldable pub tokens_of : List ℕ → List (List ℕ)
tokens_of line = filter is_filled (slice_split is_blank line)

-- the tokens from the last to the first
unfoldable pub last_tokens : List ℕ → List (List ℕ)
last_tokens line = reverse (tokens_of line)
