-- What a step asks, and what it tells.
use Rattle.std.specs.Prelude.{◌≡◌, ℕ, ◌<◌, List, slice_index, slice_set}
use mathlib.Core.Option.{some}
use lib.ListN.{get_elem?}
use Rattle.ng_view.specs.declared.view.View.{View}
use Rattle.ng_view.specs.declared.view.Start.{Start}
use Rattle.ng_view.specs.Rule.{Rule}

-- whatever the words and views are when the word k becomes f of what it was, the view v can become some
-- w that keeps the rule, of which `told` holds
abbrev pub May : Start → ℕ → View → ℕ → (ℕ → ℕ) → (View → ℕ → View → Type 0) → Type 0
May key id v k f told = (ws : List ℕ) (vs : List View) → Rule key ws vs → get_elem? vs id ≡ some v
    → slice_index ws k < 18446744073709551616
    → (w : View) × Rule key (slice_set ws k (f (slice_index ws k))) (slice_set vs id w)
    × told v (slice_index ws k) w
