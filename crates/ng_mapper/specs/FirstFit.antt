-- What contracts see of a `FirstFit` beside what they see of every mapper.
use Rattle.std.specs.Prelude.{◌≡◌, ℕ, ◌+◌, ◌-◌, ◌^◌, ◌⊎◌, List, min, Contains}
use Rattle.ng_mapper.specs.declared.first_fit.FirstFit.{FirstFit}
use Rattle.ng_mapper.specs.declared.refusals.Refusals.{Refusals}
use Rattle.ng_mapper.specs.Runs.{Run}
use Rattle.ng_mapper.specs.Mapping.{Span}
use Rattle.ng_mapper.specs.Holes.{whole, HasNoHole}

-- the live runs
abbrev pub runs_of : FirstFit → List Run
runs_of mapper = mapper.runs.items

-- the bounds of the runs, and the size of the space
abbrev pub span_of : FirstFit → Span
span_of mapper = whole mapper.pages

-- what was refused so far
abbrev pub refused_of : FirstFit → Refusals
refused_of mapper = mapper.refused

-- nothing was refused
abbrev pub none_refused : Refusals
none_refused = record { count = 0; last = 0; most = 0 }

-- how many map calls were made, and the numbers of those to refuse
pub record Schedule : Type 0 where
  pub calls : ℕ
  pub listed : List ℕ

-- the calls so far, and the calls to refuse
abbrev pub schedule_of : FirstFit → Schedule
schedule_of mapper = record { calls = mapper.calls; listed = mapper.refuse.items }

-- no call was made yet
abbrev pub no_calls : List ℕ → Schedule
no_calls listed = record { calls = 0; listed = listed }

-- the number behind this one, or the last of the type
abbrev pub next_number : ℕ → ℕ
next_number number = min (number + 1) (2 ^ 64 - 1)

-- one refusal more
abbrev pub CountsOne : Refusals → Refusals → Type 0
CountsOne before now = now.count ≡ next_number before.count

-- the schedule once one call more was made
abbrev pub next_call : Schedule → Schedule
next_call schedule = record { calls = next_number schedule.calls; listed = schedule.listed }

-- the next map call is listed, or no hole has so many pages
abbrev pub MustRefuse : FirstFit → ℕ → Type 0
MustRefuse mapper pages = Contains mapper.refuse.items (next_number mapper.calls)
    ⊎ HasNoHole (span_of mapper) (runs_of mapper) pages
