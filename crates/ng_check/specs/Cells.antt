-- What the loads of a call found.
use Rattle.std.specs.Prelude.{ℕ, ◌%◌, ◌^◌, ◌≤◌, ◌==◌, List, [], ◌∷◌, map, Option}
use Rattle.std.specs.List.{find}
use Rattle.std.specs.Option.{option_map}
use Rattle.ng_view.specs.Lists.{times}
use Rattle.ng_view.specs.Steps.{loaded}
use Rattle.ng_view.specs.declared.view.View.{View}

-- the low half of the word that was found at an address, if one was
abbrev pub cell_at : ℕ → List (ℕ × ℕ) → Option ℕ
cell_at a cells = option_map (λ c. c.1 % 2 ^ 32) (find (λ c. c.0 == a) cells)

-- the view once these were loaded in turn
abbrev pub loaded_in_turn : View → List (ℕ × ℕ) → View
loaded_in_turn v [] = v
loaded_in_turn v (c ∷ cells) = loaded_in_turn (loaded v c.0 c.1) cells

-- no address stands in them twice
abbrev pub AreOnce : List (ℕ × ℕ) → Type 0
AreOnce cells = (a : ℕ) → times a (map (λ c. c.0) cells) ≤ 1
