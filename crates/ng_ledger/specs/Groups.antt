-- What stands of the live groups that the lock's seat knows.
use Rattle.std.specs.Prelude.{◌≡◌, ℕ, ◌+◌, ◌*◌, ◌%◌, ◌<◌, ◌≤◌, eqb, List}
use Rattle.ng_meta.specs.Place.{IsMetaPlace}
use Rattle.ng_view.specs.Layouts.{IsKind}
use Rattle.ng_view.specs.Lists.{Among, count_of, total_by}
use Rattle.ng_view.specs.Places.{reach}
use Rattle.ng_view.specs.declared.view.Group.{Group}

-- the group has its meta in the space, a class with its number of slots, and lies in the space
pub record IsGroup (pages : ℕ) (g : Group) : Type 0 where
  pub place : IsMetaPlace g.meta pages
  pub kind : IsKind g
  pub live : 0 < g.tag
  pub few : g.last < 32
  pub paged : g.maplen ≤ 16384
  pub whole : g.base % 16 ≡ 0
  pub inside : g.base + reach g ≤ 4096 * pages

-- how many of these groups have the meta
abbrev pub metas_at : ℕ → List Group → ℕ
metas_at m gs = total_by (λ (g : Group). count_of (eqb g.meta m)) gs

-- each is a group of the space, and no two have the same meta
pub record AreGroups (pages : ℕ) (gs : List Group) : Type 0 where
  pub each : (g : Group) → Among g gs → IsGroup pages g
  pub once : (m : ℕ) → metas_at m gs ≤ 1

-- one of them has the meta and the class
pub record IsOfClass (gs : List Group) (m class : ℕ) : Type 0 where
  pub group : Group
  pub there : Among group gs
  pub of_meta : group.meta ≡ m
  pub of_class : group.tag ≡ class + 1

-- none has the meta
abbrev pub IsUnborn : List Group → ℕ → Type 0
IsUnborn gs m = (g : Group) → Among g gs → g.meta ≡ m → ⊥
