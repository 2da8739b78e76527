-- Which slot carries the group of a meta.
use Rattle.std.specs.Prelude.{ℕ, ◌≡◌, ◌≢◌, List, Option, None, slice_index_or}
use Rattle.ng_meta.specs.Place.{IsMetaPlace}
use Rattle.ng_lists.specs.Place.{index_at}

-- what contracts see: by the metas' numbers, the meta and the index of the slot that carries a meta's group, where one
-- was set; and the pages of the space
pub record ParentTable : Type 0 where
  pub slots : List (Option (ℕ × ℕ))
  pub pages : ℕ

-- the slot that carries a meta's group
abbrev pub parent_of : ParentTable → ℕ → Option (ℕ × ℕ)
parent_of table meta = slice_index_or table.slots (index_at meta) None

-- of each meta of the space but one, the tables say the same
abbrev pub IsSameBut : ℕ → ParentTable → ParentTable → Type 0
IsSameBut meta old new = (other : ℕ) → IsMetaPlace other old.pages → other ≢ meta → parent_of new other ≡ parent_of old other
