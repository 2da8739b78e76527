-- Runs in the order of their addresses, as `FirstFit` keeps them. No public clause cites this module.
use Rattle.std.specs.Prelude.{ℕ, ◌+◌, ◌*◌, ◌<◌, ◌≤◌, List, length, slice_index_or, All, AllPairs}
use Rattle.std.proofs.Common.{inl}
use Rattle.ng_mapper.specs.Runs.{Run, run_end, LiesIn}
use Rattle.ng_mapper.specs.Mapping.{Span, AreLaid}

-- the first run ends before the second begins
abbrev pub EndsBefore : Run → Run → Type 0
EndsBefore a b = run_end a ≤ b.0

-- each run lies between the bounds and ends before all later ones begin
pub record AreInOrder (span : Span) (runs : List Run) : Type 0 where
  pub lie : All (LiesIn span.lower span.upper) runs
  pub ordered : AllPairs EndsBefore runs

-- runs in that order share no byte
pub laid-ordered : (span : Span) (runs : List Run) → AreInOrder span runs → AreLaid span runs
laid-ordered span runs are = record {
  lie = are.lie;
  apart = λ i j d before within. inl (are.ordered i j d before within);
}

-- the run of this index
abbrev pub run_of : List Run → ℕ → Run
run_of runs k = slice_index_or runs k (0, 0)

-- so many pages fit at this address, between the runs before this index and the others
pub record Fits (span : Span) (runs : List Run) (pages at next : ℕ) : Type 0 where
  pub place : next ≤ length runs
  pub lies : LiesIn span.lower span.upper (at, pages)
  pub before : (k : ℕ) → k < next → run_end (run_of runs k) ≤ at
  pub behind : (k : ℕ) → next ≤ k → k < length runs → at + 4096 * pages ≤ (run_of runs k).0
