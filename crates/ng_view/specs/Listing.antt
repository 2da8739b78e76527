-- The part Listing: which groups are live, and which metas are listed in rings.
use Rattle.std.specs.Prelude.{◌≡◌, ℕ, ◌%◌, ◌<◌, ◌≤◌, eqb, List}
use Rattle.ng_view.specs.Lists.{Among, total_by, count_of}
use Rattle.ng_view.specs.Cells.{tag, group_at, marked}
use Rattle.ng_view.specs.Layouts.{InArea}
use Rattle.ng_view.specs.declared.view.Group.{Group}
use Rattle.ng_view.specs.declared.view.Layout.{Layout}
use Rattle.ng_view.specs.declared.view.Desk.{Desk}

-- the meta is one of a noted area
pub record IsAreaMeta (d : Layout) (m : ℕ) : Type 0 where
  pub whole : m % 4 ≡ 0
  pub in_area : InArea d m

-- the words have the live group g
pub record IsLiveGroup (ws : List ℕ) (g : Group) : Type 0 where
  pub group : g ≡ group_at ws g.meta
  pub whole : g.meta % 4 ≡ 0
  pub live : 0 < g.tag

pub record Listing (ws : List ℕ) (d : Desk) : Type 0 where
  -- a group with a set avail or freed bit is listed
  pub bits : (m i : ℕ) → m % 4 ≡ 0 → i < 32 → 0 < marked ws m i → Among m d.listed
  -- each listed meta is live or in the lock's seat: it is one of an area, and without a live group
  -- its cells are free
  pub metas : (m : ℕ) → Among m d.listed → IsAreaMeta d.layout m
  -- the desk has each live group
  pub known : (m : ℕ) → m % 4 ≡ 0 → 0 < tag ws m → Among (group_at ws m) d.groups
  -- once, and no others
  pub once : (m : ℕ) → total_by (λ (g : Group). count_of (eqb g.meta m)) d.groups ≤ 1
  pub live : (g : Group) → Among g d.groups → IsLiveGroup ws g
