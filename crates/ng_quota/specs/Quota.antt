-- When a call is over the limit, and what a quota and its inner mapper refused together.
use Rattle.std.specs.Prelude.{ℕ, Bool, ◌+◌, ◌-◌, ◌^◌, ◌<◌, List, min, max, sum_by, cond}
use Rattle.ng_mapper.specs.declared.refusals.Refusals.{Refusals}
use Rattle.ng_mapper.specs.Runs.{Run}

-- the pages of all live runs
abbrev pub pages_of : List Run → ℕ
pages_of runs = sum_by (λ run. run.1) runs

-- the live pages and the pages asked exceed the limit
abbrev pub IsOver : ℕ → List Run → ℕ → Type 0
IsOver limit runs pages = limit < pages_of runs + pages

-- what both refused, where the flag says that the last refused call was the quota's own
abbrev pub refused_of : Refusals → Refusals → Bool → Refusals
refused_of own inner by_own = record {
  count = min (own.count + inner.count) (2 ^ 64 - 1);
  last = cond by_own own.last inner.last;
  most = max own.most inner.most;
}
