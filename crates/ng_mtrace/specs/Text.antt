-- Texts and their parts.
use Rattle.std.specs.Prelude.{◌≡◌, ℕ, List, All, false, ◌==◌}
use Rattle.std.specs.List.{slice_split}

-- the parts of a text round each byte of this value
unfoldable pub parts_at : ℕ → List ℕ → List (List ℕ)
parts_at cut text = slice_split (λ byte. byte == cut) text

-- the parts of a text round its line feeds: its lines, and then what stands behind the last one
abbrev pub parts_of : List ℕ → List (List ℕ)
parts_of text = parts_at 10 text

-- no byte has this value
abbrev pub IsWithout : ℕ → List ℕ → Type 0
IsWithout cut text = All (λ byte. (byte == cut) ≡ false) text
