-- The numbers of hand-offs by the ops of a log. No public clause cites this module.
use Rattle.std.specs.Prelude.{ℕ, ◌≡◌, ◌<◌, List, Option, None, length, slice_index_or}
use Rattle.std.specs.List.{position_from}
use Rattle.ng_plan.specs.declared.step.Place.{Place}
use Rattle.ng_plan.specs.Plans.{is_place}

-- of each op of the log the number of its place among these, where they are numbered from this one on
pub record AreNumbers (places : List Place) (first log : ℕ) (numbers : List (Option ℕ)) : Type 0 where
  pub each : (op : ℕ) → op < length numbers
      → slice_index_or numbers op None ≡ position_from (is_place (record { log = log; op = op })) first places
