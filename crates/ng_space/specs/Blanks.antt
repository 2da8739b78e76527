-- A blank heap as contracts see it.
use Rattle.std.specs.Prelude.{ℕ, ◌+◌, List, [], ◌∷◌, map}
use Rattle.atomic_table.specs.Seated.{TableId}
use Rattle.ng_history.specs.Book as book
use Rattle.ng_view.specs.declared.view.Start.{Start}

-- its table, what it starts with, and the rooms of its callers' books
pub record BlankHeap : Type 0 where
  pub table : TableId
  pub start : Start
  pub rooms : List ℕ

-- the rooms of books
abbrev pub rooms_of : List book.Shown → List ℕ
rooms_of books = map (λ (b : book.Shown). b.spare) books

-- empty books with these rooms, numbered from a number on
abbrev pub fresh_books : ℕ → List ℕ → List book.Shown
fresh_books number [] = []
fresh_books number (room ∷ rooms) =
    record { number = number; spare = room; entries = [] } ∷ fresh_books (number + 1) rooms
