-- The numbers of live groups.
use Rattle.std.specs.Prelude.{◌≡◌, ◌⊎◌, ℕ, ◌+◌, ◌*◌, ◌%◌, ◌≤◌, List, Contains}
use Rattle.ng_view.specs.Lists.{Among}
use Rattle.ng_view.specs.Steps.{read}
use Rattle.ng_view.specs.declared.view.Group.{Group}
use Rattle.ng_view.specs.declared.view.View.{View}
use Rattle.ng_serve.specs.declared.group.LiveGroup.{LiveGroup}

-- the group lies in a space of so many pages: so do its own 16 bytes
pub record IsInSpace (pages : ℕ) (g : Group) : Type 0 where
  pub whole : g.base % 16 ≡ 0
  pub inside : g.base + 16 ≤ 4096 * pages

-- each of the groups does
abbrev pub AreInSpace : ℕ → List Group → Type 0
AreInSpace pages groups = (g : Group) → Among g groups → IsInSpace pages g

-- these are the numbers of the group
pub record Describes (found : LiveGroup) (g : Group) : Type 0 where
  pub base : g.base ≡ found.base
  pub tag : g.tag ≡ found.class + 1
  pub last : g.last ≡ found.last
  pub maplen : g.maplen ≡ found.maplen

-- the two words of a meta that say of what group it is were read
pub record ReadsFields (v : View) (meta : ℕ) (w : View) : Type 0 where
  pub mem : ℕ
  pub flags : ℕ
  pub view : w ≡ read (read v (meta + 16) mem) (meta + 32) flags

-- the cell of the highest index in use was read, of which the lowest five bits count
pub record ReadsIndex (v : View) (base index : ℕ) (w : View) : Type 0 where
  pub word : ℕ
  pub index_is : index ≡ word % 32
  pub view : w ≡ read v (base + 8) word

-- the index is a slot's up to the last one, or as it was read
abbrev pub IsRaisedTo : View → ℕ → ℕ → ℕ → View → Type 0
IsRaisedTo v base last index w = (index ≤ last) ⊎ ReadsIndex v base index w

-- one of the groups is of that meta and class
pub record LivesIn (groups : List Group) (class meta : ℕ) : Type 0 where
  pub group : Group
  pub there : Among group groups
  pub of_meta : group.meta ≡ meta
  pub of_class : group.tag ≡ class + 1

-- each meta of the ring has a live group of its class
abbrev pub RingLives : List Group → List ℕ → ℕ → Type 0
RingLives groups ring class = (meta : ℕ) → Contains ring meta → LivesIn groups class meta
