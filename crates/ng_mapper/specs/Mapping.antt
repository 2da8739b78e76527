-- What contracts see of a mapper: where its runs may lie, which runs live, and what it refused.
use Rattle.std.specs.Prelude.{◌≡◌, ℕ, ◌*◌, ◌%◌, ◌≤◌, List, max, All, AllPairs}
use Rattle.ng_mapper.specs.declared.refusals.Refusals.{Refusals}
use Rattle.ng_mapper.specs.Runs.{Run, AreApart, LiesIn}

-- the bounds of all runs, in bytes, and the size of the space, in pages
pub record Span : Type 0 where
  pub lower : ℕ
  pub upper : ℕ
  pub size : ℕ

-- bounds at page starts, in order, above the first page and inside the space
pub record IsSpan (span : Span) : Type 0 where
  pub lower_aligned : span.lower % 4096 ≡ 0
  pub upper_aligned : span.upper % 4096 ≡ 0
  pub above_first : 4096 ≤ span.lower
  pub ordered : span.lower ≤ span.upper
  pub inside : span.upper ≤ 4096 * span.size

-- runs that lie between the bounds, no two of which share a byte
pub record AreLaid (span : Span) (runs : List Run) : Type 0 where
  pub lie : All (LiesIn span.lower span.upper) runs
  pub apart : AllPairs AreApart runs

-- a run between the bounds that shares no byte with the others
pub record IsFree (span : Span) (runs : List Run) (run : Run) : Type 0 where
  pub lies : LiesIn span.lower span.upper run
  pub apart : All (AreApart run) runs

-- the last and the most refused pages after one refusal more, of so many pages
pub record Notes (before now : Refusals) (pages : ℕ) : Type 0 where
  pub last : now.last ≡ pages
  pub most : now.most ≡ max before.most pages

-- no refused call was noted: the count didn't fall, and the last and the most refused pages are as before
pub record NotesNone (before now : Refusals) : Type 0 where
  pub later : before.count ≤ now.count
  pub last : now.last ≡ before.last
  pub most : now.most ≡ before.most
