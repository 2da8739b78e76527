-- The runs that come of the heap's mapper, and its refusals.
use Rattle.std.specs.Prelude.{◌≡◌, ℕ, ◌+◌, ◌*◌, ◌%◌, ◌≤◌, true, List}
use Rattle.ng_terms.specs.Causes.{Rose}
use Rattle.ng_mapper.specs.Mapping.{Span, Notes}
use Rattle.ng_mapper.specs.Runs as mapper
use Rattle.ng_mapper.specs.declared.refusals.Refusals.{Refusals}
use Rattle.ng_view.specs.declared.view.Start.{Start}
use Rattle.ng_view.specs.declared.view.View.{View}
use Rattle.ng_view.specs.Notes.{IsNewRun, NotesRefusal, NotesRun}
use Rattle.ng_build.specs.Cells.{AreZero}
use Rattle.ng_ledger.specs.Runs.{AreMapped}

-- the mapper has the heap's bounds and size, its live runs are the noted ones, and none of its refusals is still to be
-- noted
pub record IsHeapMapper (start : Start) (v : View) (span : Span) (live : List mapper.Run) (refused : Refusals) : Type 0 where
  pub lower : span.lower ≡ start.lower
  pub upper : span.upper ≡ start.upper
  pub size : span.size ≡ start.pages
  pub mapped : AreMapped v.desk.layout.runs live
  pub counted : v.desk.refusals ≤ refused.count

-- the run is whole pages of the space, none of which is page 0
pub record IsInSpace (start : Start) (a pages : ℕ) : Type 0 where
  pub whole : a % 4096 ≡ 0
  pub above : 4096 ≤ a
  pub below : a + 4096 * pages ≤ 4096 * start.pages
  pub few : pages ≤ 16384

-- a run came and is noted: it is disjoint from those before, no live group begins there, and its cells are known to be 0
pub record MapsRun (start : Start) (v : View) (a pages : ℕ) (w : View) : Type 0 where
  pub note : NotesRun v a pages true w
  pub space : IsInSpace start a pages
  pub new : IsNewRun start v a pages
  pub zero : AreZero w a (a + 4096 * pages)

-- a map call for so many pages was refused, and its number is noted: the seat has the excuse
pub record RefusesRun (v : View) (before now : Refusals) (pages number : ℕ) (w : View) : Type 0 where
  pub note : NotesRefusal v number w
  pub number_is : number ≡ now.count
  pub rose : Rose before.count now.count
  pub asked : Notes before now pages
