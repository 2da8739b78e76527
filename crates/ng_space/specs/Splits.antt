-- What a split of a seat asks.
use Rattle.std.specs.Prelude.{◌≡◌, ℕ, List, [], ◌∷◌, ◌++◌, slice_set}
use mathlib.Core.Option.{some}
use lib.ListN.{get_elem?}
use Rattle.ng_view.specs.Rule.{Rule}
use Rattle.ng_view.specs.declared.view.View.{View}
use Rattle.ng_view.specs.declared.view.Start.{Start}

-- whatever the words and views are, the seat's view v can become l, and a new seat's r, by the rule
abbrev pub MaySplit : Start → ℕ → View → View → View → Type 0
MaySplit key id v l r = (ws : List ℕ) (vs : List View) → Rule key ws vs
    → get_elem? vs id ≡ some v → Rule key ws (slice_set vs id l ++ r ∷ [])
