-- The slots of the live groups, by class.
use Rattle.std.specs.Prelude.{◌≡◌, ℕ, ◌+◌, ◌<◌, eqb, cond, List, length, slice_index}
use Rattle.ng_view.specs.Lists.{total_by}
use Rattle.ng_view.specs.declared.view.Group.{Group}

-- the slots of the groups of a class
abbrev pub used : List Group → ℕ → ℕ
used gs class = total_by (λ (g : Group). cond (eqb g.tag (class + 1)) (g.last + 1) 0) gs

-- the numbers are those of the 48 classes
pub record AreUsed (gs : List Group) (usage : List ℕ) : Type 0 where
  pub many : length usage ≡ 48
  pub each : (class : ℕ) → class < 48 → slice_index usage class ≡ used gs class
