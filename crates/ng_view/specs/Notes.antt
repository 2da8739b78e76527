-- The notes of the lock's seat: of rings, of runs and of refused map calls.
use Rattle.std.specs.Prelude.{◌≡◌, ◌⊎◌, ℕ, ◌+◌, ◌*◌, ◌%◌, ◌<◌, ◌≤◌, Bool, true, false}
use Rattle.ng_view.specs.Conditions.{IsEmpty, Sees}
use Rattle.ng_view.specs.Layouts.{Inside}
use Rattle.ng_view.specs.LockSteps.{area_made, refused, ring_read, run_left, run_noted}
use Rattle.ng_view.specs.Lists.{Among}
use Rattle.ng_view.specs.Steps.{read}
use Rattle.ng_view.specs.declared.view.Excuse.{Excuse}
use Rattle.ng_view.specs.declared.view.Group.{Group}
use Rattle.ng_view.specs.declared.view.Run.{Run}
use Rattle.ng_view.specs.declared.view.View.{View}
use Rattle.ng_view.specs.declared.view.Start.{Start}
use Rattle.ng_view.specs.Masks.{TellsFreed}

-- the freed mask of a live group was read: it is noted where it is 0, and its bits as set. The meta is
-- listed, or no more listed where both masks are 0
pub record NotesRing (v : View) (meta : ℕ) (listed : Bool) (n : ℕ) (w : View) : Type 0 where
  pub view : w ≡ read (ring_read v meta listed n) (meta + 28) n
  pub tells : (g : Group) → Among g v.desk.groups → g.meta ≡ meta → TellsFreed v g n

-- a run that is no area
abbrev pub plain_run : ℕ → ℕ → Run
plain_run a pages = record { addr = a; pages = pages; area = false }

-- the run is whole pages between the bounds, and disjoint from the noted ones
pub record IsNewRun (key : Start) (v : View) (a pages : ℕ) : Type 0 where
  pub whole : a % 4096 ≡ 0
  pub some : 1 ≤ pages
  pub above : key.lower ≤ a
  pub below : a + 4096 * pages ≤ key.upper
  pub apart : (s : Run) (b : ℕ) → Among s v.desk.layout.runs → Inside s b → (b < a) ⊎ (a + 4096 * pages ≤ b)

-- the run is noted, no live group begins there, and the seat knows all its cells to be 0
pub record IsClearedRun (v : View) (a pages : ℕ) : Type 0 where
  pub noted : Among (plain_run a pages) v.desk.layout.runs
  pub empty : IsEmpty v (plain_run a pages)
  pub clear : (b : ℕ) → b % 4 ≡ 0 → Inside (plain_run a pages) b → Sees v b 0

-- a run may come, or go
abbrev pub MayNoteRun : Start → View → ℕ → ℕ → Bool → Type 0
MayNoteRun key v a pages true = IsNewRun key v a pages
MayNoteRun key v a pages false = IsClearedRun v a pages

-- the view with the run, whose cells are known to be 0, or without it
abbrev pub run_changed : View → ℕ → ℕ → Bool → View
run_changed v a pages true = run_noted v a pages
run_changed v a pages false = run_left v (plain_run a pages)

-- at a load of word 0 the run came or went. No live group begins at one that comes
pub record NotesRun (v : View) (a pages : ℕ) (live : Bool) (w : View) : Type 0 where
  pub found : ℕ
  pub view : w ≡ read (run_changed v a pages live) 0 found
  pub empty : live ≡ true → IsEmpty v (plain_run a pages)

-- at a load of word 0 the run of one page became an area
pub record NotesArea (v : View) (a : ℕ) (w : View) : Type 0 where
  pub found : ℕ
  pub view : w ≡ read (area_made v (plain_run a 1)) 0 found

-- the number of a refused map call is above the last one noted, or is the last of all
abbrev pub IsNewRefusal : View → ℕ → Type 0
IsNewRefusal v number = (v.desk.refusals < number) ⊎ (number ≡ 18446744073709551615)

-- the excuse of a refused map call
abbrev pub excuse_of_call : ℕ → Excuse
excuse_of_call number = record { first = number; number = number }

-- at a load of word 0 the excuse came, and its number is the last one noted
pub record NotesRefusal (v : View) (number : ℕ) (w : View) : Type 0 where
  pub found : ℕ
  pub view : w ≡ read (refused v (excuse_of_call number)) 0 found
