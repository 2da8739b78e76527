-- What a step leaves of the cells that the lock's seat knows.
use Rattle.std.specs.Prelude.{◌≡◌, ◌⊎◌, ℕ, ◌%◌, ◌<◌, ◌≤◌, List, ◌++◌}
use Rattle.ng_view.specs.Conditions.{Builds, IsEmpty, IsUnborn, Sees}
use Rattle.ng_view.specs.Layouts.{InArea}
use Rattle.ng_view.specs.Lists.{Among}
use Rattle.ng_view.specs.declared.view.View.{View}
use Rattle.ng_view.specs.Notes.{plain_run}

-- the view with other known cells and readings
abbrev pub knowing : View → List (ℕ × ℕ) → List (ℕ × ℕ) → View
knowing v cells readings = record v { desk = record v.desk { cells = cells }; readings = readings }

-- w is v but for what is known of cells, and for the readings that came
pub record OnlyCells (v w : View) : Type 0 where
  pub view : w ≡ knowing v w.desk.cells w.readings
  pub came : List (ℕ × ℕ)
  pub readings : w.readings ≡ v.readings ++ came

-- each word that was read since is word 0, or stands at an address of this range
pub record ReadsWithin (v w : View) (from to : ℕ) : Type 0 where
  pub words : List (ℕ × ℕ)
  pub readings : w.readings ≡ v.readings ++ words
  pub within : (word : ℕ × ℕ) → Among {A = ℕ × ℕ} word words → (word.0 ≡ 0) ⊎ ((from ≤ word.0) × (word.0 < to))

-- what v knows of a cell outside these addresses, w knows too
abbrev pub KeepsOutside : View → View → ℕ → ℕ → Type 0
KeepsOutside v w from to = (b x : ℕ) → (b < from) ⊎ (to ≤ b) → Sees v b x → Sees w b x

-- the seat builds or clears each cell from an address up to another
abbrev pub BuildsAll : View → ℕ → ℕ → Type 0
BuildsAll v from to = (b : ℕ) → b % 4 ≡ 0 → from ≤ b → b < to → Builds v b

-- each of them is known to be 0
abbrev pub AreZero : View → ℕ → ℕ → Type 0
AreZero v from to = (b : ℕ) → b % 4 ≡ 0 → from ≤ b → b < to → Sees v b 0

-- the meta is one of a noted area, and no live group has it
pub record IsIdleMeta (v : View) (meta : ℕ) : Type 0 where
  pub area : InArea v.desk.layout meta
  pub unborn : IsUnborn v meta

-- the run is noted and no area, and no live group begins there
pub record IsIdleRun (v : View) (base pages : ℕ) : Type 0 where
  pub noted : Among (plain_run base pages) v.desk.layout.runs
  pub empty : IsEmpty v (plain_run base pages)
