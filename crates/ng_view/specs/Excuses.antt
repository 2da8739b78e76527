-- The part Excuses: each refusal of the mapper excuses at most one request.
use Rattle.std.specs.Prelude.{ℕ, ◌+◌, ◌<◌, ◌≤◌, List}
use Rattle.ng_view.specs.Lists.{total_by, excused}
use Rattle.ng_view.specs.Views.{booked, desk_of}
use Rattle.ng_view.specs.declared.view.View.{View}
use Rattle.ng_view.specs.declared.view.Start.{Start}

-- how often the excuse e stands in a seat, or in an entry of its books
abbrev pub stands : ℕ → View → ℕ
stands e v = excused e v.excuses + booked e v

pub record Excuses (key : Start) (vs : List View) : Type 0 where
  -- an excuse stands in at most one place; only 2^64 - 1, at which the count of refusals stays, may
  -- stand in several
  pub once : (e : ℕ) → e < 18446744073709551615 → total_by (stands e) vs ≤ 1
  -- it is above the refusals of the start, and at most the last number noted
  pub answered : (e : ℕ) → 0 < total_by (stands e) vs → (key.refusals < e) × (e ≤ (desk_of vs).refusals)
  -- the last number noted is at least the start's, and a number of 64 bits
  pub last : (key.refusals ≤ (desk_of vs).refusals) × ((desk_of vs).refusals ≤ 18446744073709551615)
