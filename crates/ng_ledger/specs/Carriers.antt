-- The slots that carry nested groups, and the table of them.
use Rattle.std.specs.Prelude.{◌≡◌, ◌≢◌, ℕ, ◌≤◌, eqb, Some, List}
use Rattle.ng_shelf.specs.Parents.{ParentTable, parent_of}
use Rattle.ng_view.specs.Lists.{Among, count_of, total_by}
use Rattle.ng_view.specs.declared.view.Group.{Group}
use Rattle.ng_view.specs.declared.view.Nest.{Nest}

-- the table has the slot of each nested group
abbrev pub AreCarried : List Nest → ParentTable → Type 0
AreCarried nests table = (n : Nest) → Among n nests → parent_of table n.child ≡ Some (n.place.group.meta, n.place.index)

-- one of the groups has the meta
pub record IsBorn (gs : List Group) (m : ℕ) : Type 0 where
  pub group : Group
  pub there : Among group gs
  pub of_meta : group.meta ≡ m

-- no slot carries a group of the meta
abbrev pub IsUncarried : List Nest → ℕ → Type 0
IsUncarried nests m = (n : Nest) → Among n nests → n.child ≢ m

-- each slot that carries has a live group, and no two have the same
pub record AreNested (gs : List Group) (nests : List Nest) : Type 0 where
  pub born : (n : Nest) → Among n nests → IsBorn gs n.child
  pub once : (m : ℕ) → total_by (λ (n : Nest). count_of (eqb n.child m)) nests ≤ 1
