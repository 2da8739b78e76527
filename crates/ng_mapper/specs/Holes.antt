-- Where a run of so many pages may begin.
use Rattle.std.specs.Prelude.{ℕ, ◌<◌, ◌*◌, List}
use Rattle.ng_mapper.specs.Runs.{Run}
use Rattle.ng_mapper.specs.Mapping.{Span, IsFree}

-- no lower address is free for so many pages
abbrev pub IsLowest : Span → List Run → ℕ → ℕ → Type 0
IsLowest span runs pages at = (lower : ℕ) → lower < at → ¬ IsFree span runs (lower, pages)

-- no address is free for so many pages
abbrev pub HasNoHole : Span → List Run → ℕ → Type 0
HasNoHole span runs pages = (at : ℕ) → ¬ IsFree span runs (at, pages)

-- the bounds in a space of so many pages, of which the first is never given
abbrev pub whole : ℕ → Span
whole pages = record { lower = 4096; upper = 4096 * pages; size = pages }
