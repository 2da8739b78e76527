-- Areas and runs of the layout, as they come and go.
use Rattle.std.specs.Prelude.{◌≡◌, ℕ, ◌+◌, ◌%◌, ◌<◌, true, List, ◌∷◌}
use Rattle.ng_meta.specs.Place.{meta_place}
use Rattle.ng_view.specs.Conditions.{Sees}
use Rattle.ng_view.specs.LockSteps.{runs_but}
use Rattle.ng_view.specs.declared.view.Run.{Run}
use Rattle.ng_view.specs.declared.view.View.{View}

-- the view with other runs
abbrev pub with_runs : View → List Run → View
with_runs v runs = record v {
  desk = record v.desk { layout = record { runs = runs; nests = v.desk.layout.nests } };
}

-- the view without the run at an address
abbrev pub without_run : View → ℕ → View
without_run v base = with_runs v (runs_but base v.desk.layout.runs)

-- and with an area of one page in its place
abbrev pub with_area : View → ℕ → View
with_area v addr =
    with_runs v (record { addr = addr; pages = 1; area = true } ∷ runs_but addr v.desk.layout.runs)

-- the cells of the 101 metas of an area are known to be 0
abbrev pub AreMetasZero : View → ℕ → Type 0
AreMetasZero v addr = (i b : ℕ) → i < 101 → b < 40 → b % 4 ≡ 0 → Sees v (meta_place addr i + b) 0
