-- What stands of the free metas.
use Rattle.std.specs.Prelude.{◌≡◌, ℕ, ◌+◌, ◌%◌, ◌<◌, ◌≤◌, ◌⊎◌, List, Contains}
use Rattle.ng_meta.specs.Place.{IsMetaPlace}
use Rattle.ng_view.specs.Layouts.{InArea}
use Rattle.ng_view.specs.Lists.{Among}
use Rattle.ng_view.specs.declared.view.Group.{Group}
use Rattle.ng_view.specs.declared.view.Layout.{Layout}
use Rattle.ng_ledger.specs.Groups.{IsUnborn}

-- what was known of the cells outside a range still is
abbrev pub Keeps : List (ℕ × ℕ) → List (ℕ × ℕ) → ℕ → ℕ → Type 0
Keeps cells cells' from to = (b x : ℕ) → (b < from) ⊎ (to ≤ b) → Among {A = ℕ × ℕ} (b, x) cells → Among {A = ℕ × ℕ} (b, x) cells'

-- the ten cells of the meta are known to be 0
abbrev pub IsBlankMeta : List (ℕ × ℕ) → ℕ → Type 0
IsBlankMeta cells m = (b : ℕ) → b < 40 → b % 4 ≡ 0 → Among {A = ℕ × ℕ} (m + b, 0) cells

-- the meta is one of an area, has no live group, and its cells are known to be 0
pub record IsFreeMeta (pages : ℕ) (d : Layout) (gs : List Group) (cells : List (ℕ × ℕ)) (m : ℕ) : Type 0 where
  pub place : IsMetaPlace m pages
  pub area : InArea d m
  pub unborn : IsUnborn gs m
  pub blank : IsBlankMeta cells m

-- each of the free metas is so
abbrev pub AreFree : ℕ → Layout → List Group → List (ℕ × ℕ) → List ℕ → Type 0
AreFree pages d gs cells free = (m : ℕ) → Contains free m → IsFreeMeta pages d gs cells m

-- the meta is one of an area without a live group, and isn't among the free ones: a call has it in hand
pub record IsInHand (d : Layout) (gs : List Group) (free : List ℕ) (m : ℕ) : Type 0 where
  pub area : InArea d m
  pub unborn : IsUnborn gs m
  pub taken : ¬ Contains free m

-- the meta of each live group is one of an area
abbrev pub AreOfAreas : Layout → List Group → Type 0
AreOfAreas d gs = (g : Group) → Among g gs → InArea d g.meta
