-- What ties the mapper's runs to the noted ones.
use Rattle.std.specs.Prelude.{◌≡◌, ◌⊎◌, ℕ, ◌<◌, ◌≤◌, eqb, true, List, Contains}
use Rattle.ng_view.specs.Notes.{plain_run}
use Rattle.ng_mapper.specs.Runs as mapper
use Rattle.ng_view.specs.Lists.{Among, count_of, total_by}
use Rattle.ng_view.specs.declared.view.Group.{Group}
use Rattle.ng_view.specs.declared.view.Run.{Run}

-- the run at this address and of these pages is noted
pub record IsNoted (noted : List Run) (a pages : ℕ) : Type 0 where
  pub run : Run
  pub there : Among run noted
  pub begins : run.addr ≡ a
  pub long : run.pages ≡ pages

-- the noted runs are the mapper's live ones, each is noted once, and no two begin at one address
pub record AreMapped (noted : List Run) (live : List mapper.Run) : Type 0 where
  pub single : (a : ℕ) → total_by (λ (r : Run). count_of (eqb r.addr a)) noted ≤ 1
  pub once : (r s : Run) → Among r noted → Among s noted → r.addr ≡ s.addr → r ≡ s
  pub known : (a pages : ℕ) → Contains live (a, pages) → IsNoted noted a pages
  pub mapped : (r : Run) → Among r noted → Contains live (r.addr, r.pages)

-- a live group with pages of its own begins at the run
pub record HasRun (gs : List Group) (a : ℕ) : Type 0 where
  pub group : Group
  pub there : Among group gs
  pub begins : group.base ≡ a
  pub paged : 0 < group.maplen

-- the run is an area of one page
pub record IsAreaRun (r : Run) : Type 0 where
  pub is_area : r.area ≡ true
  pub page : r.pages ≡ 1

-- each noted run but those at an address is an area, or the run of a live group
abbrev pub AreServedBut : ℕ → List Run → List Group → Type 0
AreServedBut a noted gs = (r : Run) → Among r noted → (r.addr ≡ a) ⊎ IsAreaRun r ⊎ HasRun gs r.addr

-- each noted run is
abbrev pub AreServed : List Run → List Group → Type 0
AreServed noted gs = (r : Run) → Among r noted → IsAreaRun r ⊎ HasRun gs r.addr

-- each live group with pages of its own begins at a noted run of so many pages, which is no area, and is alone there
pub record AreFounded (noted : List Run) (gs : List Group) : Type 0 where
  pub runs : (g : Group) → Among g gs → 0 < g.maplen → Among (plain_run g.base g.maplen) noted
  pub alone : (g h : Group) → Among g gs → Among h gs → 0 < g.maplen → 0 < h.maplen → g.base ≡ h.base → g ≡ h

-- how many of the runs are areas
abbrev pub areas_in : List Run → ℕ
areas_in noted = total_by (λ (r : Run). count_of r.area) noted

-- the pages that the groups have of their own
abbrev pub pages_of : List Group → ℕ
pages_of gs = total_by (λ (g : Group). g.maplen) gs
