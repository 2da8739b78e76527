-- Parents as two arrays by the metas' indices. No public clause cites this module.
use Rattle.std.specs.Prelude.{ℕ, ◌≡◌, ◌*◌, ◌<◌, ◌≤◌, ◌==◌, List, [], ◌∷◌, Option, None, Some, length, slice_index, if◌then◌else◌}
use Rattle.ng_lists.specs.Place.{address_at}
use Rattle.ng_shelf.specs.Parents.{ParentTable}

-- a slot by the index of its group's meta, where 0 stands for none
abbrev pub carrier : ℕ → ℕ → Option (ℕ × ℕ)
carrier meta slot = if meta == 0 then None else Some (address_at meta, slot)

-- the slots of two arrays
abbrev pub carriers : List ℕ → List ℕ → List (Option (ℕ × ℕ))
carriers [] slots = []
carriers (meta ∷ metas) [] = []
carriers (meta ∷ metas) (slot ∷ slots) = carrier meta slot ∷ carriers metas slots

-- what contracts see of the arrays
abbrev pub table_of : List ℕ → List ℕ → ℕ → ParentTable
table_of metas slots pages = record { slots = carriers metas slots; pages = pages }

-- the arrays are for the metas of a space's pages
pub record AreCarriers (metas slots : List ℕ) (pages : ℕ) : Type 0 where
  pub least : 16 ≤ pages
  pub greatest : pages ≤ 16384
  pub all_metas : length metas ≡ 101 * pages
  pub all_slots : length slots ≡ 101 * pages
  pub inside : (child : ℕ) → slice_index metas child < 101 * pages
