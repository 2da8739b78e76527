-- Hands as contracts see them.
use Rattle.std.specs.Prelude.{ℕ, ◌+◌, List, [], ◌∷◌}
use Rattle.ng_terms.specs.declared.entry.Entry.{Entry}
use Rattle.ng_view.specs.declared.view.Start.{Start}
use Rattle.ng_view.specs.declared.view.View.{View}
use Rattle.ng_view.specs.Steps.{opener, fresh_hand}

-- what a hand knows, its number, how many entries its book has room for, and the entries so far
pub record Caller : Type 0 where
  pub view : View
  pub number : ℕ
  pub spare : ℕ
  pub entries : List Entry

-- a hand that has done nothing yet
abbrev pub fresh_caller : ℕ → ℕ → Caller
fresh_caller number room = record { view = fresh_hand number; number = number; spare = room; entries = [] }

-- hands with these rooms, numbered from a number on
abbrev pub fresh_callers : ℕ → List ℕ → List Caller
fresh_callers number [] = []
fresh_callers number (room ∷ rooms) =
    fresh_caller number room ∷ fresh_callers (number + 1) rooms

-- what the lock's seat knows once so many hands are split off it
abbrev pub opened : Start → ℕ → View
opened start hands =
    let first : View = opener start in record first { desk = record first.desk { next = 1 + hands } }
