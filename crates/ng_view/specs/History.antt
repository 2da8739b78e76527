-- The part History: the books are one legal history of the sequential heap.
use Rattle.std.specs.Prelude.{◌≡◌, ℕ, List, []}
use Rattle.ng_terms.specs.declared.entry.Extent.{Extent}
use Rattle.ng_terms.specs.Heap.{Space, empty}
use Rattle.ng_terms.specs.Histories.{Event, IsLegal, book_of, state_after, live_after}
use Rattle.ng_view.specs.Lists.{Among, Each, total_by, count_of, times}
use Rattle.ng_view.specs.Views.{numbered, same_extent, blocks, booked}
use Rattle.ng_view.specs.declared.view.Book.{Book}
use Rattle.ng_view.specs.declared.view.View.{View}
use Rattle.ng_view.specs.declared.view.Start.{Start}

-- the space between the bounds of a start
abbrev pub space_between : Start → Space
space_between key = record { lower = key.lower; upper = key.upper }

pub record History (key : Start) (vs : List View) : Type 0 where
  -- the entries of all callers, in the order of their steps
  pub calls : List Event
  pub legal : IsLegal (space_between key) calls
  -- a book has its caller's entries
  pub books : Each vs (λ u. (b : Book) → Among b u.books → book_of b.number calls ≡ b.entries)
  -- and there are none of others
  pub others : (k : ℕ) → total_by (numbered k) vs ≡ 0 → book_of k calls ≡ []
  -- a block lives in the history as often as in the views
  pub live : (b : Extent) → total_by (λ c. count_of (same_extent c b)) (live_after calls) ≡ total_by (blocks b) vs
  -- an excuse is used in the history as often as in the books
  pub used : (e : ℕ) → times e (state_after empty calls).used ≡ total_by (booked e) vs
