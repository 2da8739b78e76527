-- A trial of the lock's seat: an area at 4096, and a group in the page at 8192.
use Rattle.std.specs.Prelude.{◌≡◌, ℕ, ◌+◌, ◌*◌, ◌%◌, ◌<◌, ◌≤◌, true, List, [], ◌∷◌, ◌++◌, map}
use Rattle.ng_view.specs.Conditions.{Builds, Sees}
use Rattle.ng_view.specs.Layouts.{IsKind}
use Rattle.ng_view.specs.LockSteps.{moving}
use Rattle.ng_view.specs.Lists.{Among, select}
use Rattle.ng_view.specs.Places.{reach, size_of}
use Rattle.ng_view.specs.Steps.{in_motion}
use Rattle.ng_view.specs.declared.view.Group.{Group}
use Rattle.ng_view.specs.declared.view.Held.{Held}
use Rattle.ng_view.specs.declared.view.Run.{Run}
use Rattle.ng_view.specs.declared.view.View.{View}
use Rattle.ng_view.specs.declared.view.Start.{Start}
use Rattle.ng_view.specs.Groups.{AreMasks}
use Rattle.ng_view.specs.Notes.{plain_run}

abbrev pub trial_start : Start
trial_start = record { pages = 16; lower = 4096; upper = 65536; secret = 81985529216486895; refusals = 0; cap = 0 }

abbrev pub area_run : Run
area_run = record { addr = 4096; pages = 1; area = true }

-- a group of the area's first meta, which begins the page at 8192
abbrev pub page_group : ℕ → ℕ → Group
page_group class last = record { meta = 4120; base = 8192; tag = class + 1; last = last; maplen = 1 }

abbrev pub page_runs : List Run
page_runs = plain_run 8192 1 ∷ area_run ∷ []

-- a group of that class and last index fills a page, with these slots in its avail mask
pub record FillsPage (class last mask : ℕ) : Type 0 where
  pub low : class < 48
  pub few : last < 32
  pub kind : IsKind (page_group class last)
  pub fits : reach (page_group class last) ≤ 4096
  pub large : 2048 < size_of (page_group class last) + 16
  pub masks : AreMasks (page_group class last) mask 0

-- the view has these runs and groups, and no slot carries a group
pub record Stands (v : View) (rs : List Run) (gs : List Group) : Type 0 where
  pub runs : v.desk.layout.runs ≡ rs
  pub nests : v.desk.layout.nests ≡ []
  pub groups : v.desk.groups ≡ gs
  pub next : v.desk.next ≡ 2

-- the cells of the area's metas from the k-th on are known to be 0
abbrev pub AreMetasBlank : View → ℕ → Type 0
AreMetasBlank v k = (i b : ℕ) → k ≤ i → i < 101 → b < 40 → b % 4 ≡ 0 → Sees v (4120 + 40 * i + b) 0

-- one group of the page is live
abbrev pub StandsAlone : View → Type 0
StandsAlone v = (class last : ℕ) × Stands v page_runs (page_group class last ∷ [])

-- the group alone is live and listed, and its slots that aren't in the mask are in motion
pub record IsBuilt (v : View) (g : Group) (mask : ℕ) : Type 0 where
  pub stands : Stands v page_runs (g ∷ [])
  pub metas : AreMetasBlank v 1
  pub listed : Among g.meta v.desk.listed
  pub others : List Held
  pub slots : v.held ≡ map (in_motion g) (select (moving g mask 0) 32) ++ others

-- the view builds the cells of this range
abbrev pub BuildsAll : View → ℕ → ℕ → Type 0
BuildsAll v a n = (b : ℕ) → b % 4 ≡ 0 → a ≤ b → b < a + 4 * n → Builds v b

-- the view w is v with the cells of this range known to be 0
pub record IsCleared (v : View) (a n : ℕ) (w : View) : Type 0 where
  pub layout : w.desk.layout ≡ v.desk.layout
  pub groups : w.desk.groups ≡ v.desk.groups
  pub next : w.desk.next ≡ v.desk.next
  pub held : w.held ≡ v.held
  pub zero : (b : ℕ) → b % 4 ≡ 0 → a ≤ b → b < a + 4 * n → Sees w b 0
  pub others : (b : ℕ) → (b < a) → Sees v b 0 → Sees w b 0
  pub behind : (b : ℕ) → (a + 4 * n ≤ b) → Sees v b 0 → Sees w b 0
