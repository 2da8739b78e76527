-- A closed heap: its last words, the books of its hands, and the replies to the ops.
use Rattle.std.specs.Prelude.{◌≡◌, ℕ, true, false, List, [], ◌∷◌, map, slice_index_or}
use Rattle.ng_space.specs.Leaving.{AreFramed}
use Rattle.ng_history.specs.Book as book
use Rattle.ng_ledger.specs.Runs.{AreMapped}
use Rattle.ng_mapper.specs.Mapping.{Span}
use Rattle.ng_mapper.specs.Runs as mapper
use Rattle.ng_space.specs.Closings.{AreFreeMetasBlank, AreRunsUsed}
use Rattle.ng_terms.specs.declared.entry.Entry.{Entry}
use Rattle.ng_terms.specs.declared.entry.Extent.{Extent}
use Rattle.ng_terms.specs.Histories.{Event, live_after}
use Rattle.ng_view.specs.Classes.{Classes}
use Rattle.ng_view.specs.Knowledge.{Knowledge}
use Rattle.ng_view.specs.Lists.{Among, count_of, total_by}
use Rattle.ng_view.specs.Slots.{Slots}
use Rattle.ng_view.specs.Views.{blocks, same_extent}
use Rattle.ng_view.specs.Words.{Words}
use Rattle.ng_view.specs.declared.view.Book.{Book}
use Rattle.ng_view.specs.declared.view.Start.{Start}
use Rattle.ng_view.specs.declared.view.View.{View}

-- the secret of the program's heap
abbrev pub program_secret : ℕ
program_secret = 81985529216486895

-- the entries of books
abbrev pub entries_of : List book.Shown → List (List Entry)
entries_of books = map (λ (b : book.Shown). b.entries) books

-- the number of the book of a log
abbrev pub number_at : List book.Shown → ℕ → ℕ
number_at books log = (slice_index_or books log (record { number = 0; spare = 0; entries = [] })).number

-- the words are a lawful image of the mapper's space, between its bounds and over its live runs, with what the lock's seat,
-- which leads, and the hands knew at the end: each noted run is the mapper's, and an area or that of a live group, and metas
-- without a group are blank. Each hand has one book, and no view is that of a parcel on its way. The blocks in the hands are in
-- groups whose class may serve them, and they are those that live after the history
pub record IsLawfulOf (secret : ℕ) (span : Span) (words : List ℕ) (live : List mapper.Run) (history : List Event) : Type 0 where
  pub start : Start
  pub secret_is : start.secret ≡ secret
  pub pages_are : start.pages ≡ span.size
  pub lower_is : start.lower ≡ span.lower
  pub upper_is : start.upper ≡ span.upper
  pub lock : View
  pub hands : List View
  pub leads : lock.leads ≡ true
  pub slots : Slots words (lock ∷ hands)
  pub lawful : Words start words (lock ∷ hands)
  pub known : Knowledge words (lock ∷ hands)
  pub classes : Classes (lock ∷ hands)
  pub used : AreRunsUsed words lock.desk.layout
  pub blank : AreFreeMetasBlank words lock.desk.layout
  pub mapped : AreMapped lock.desk.layout.runs live
  pub still : lock.held ≡ []
  pub whole : (view : View) → Among view (lock ∷ hands) → view.parcel ≡ false
  pub booked : (hand : View) → Among hand hands → (b : Book) × (hand.books ≡ b ∷ [])
  pub blocks_are : (b : Extent) → total_by (λ (c : Extent). count_of (same_extent c b)) (live_after history) ≡ total_by (blocks b) (lock ∷ hands)

-- and the blocks in the hands are framed
pub record IsImageOf (secret : ℕ) (span : Span) (words : List ℕ) (live : List mapper.Run) (history : List Event) : Type 0 where
  pub lawful : IsLawfulOf secret span words live history
  pub framed : (hand : View) → Among hand lawful.hands → AreFramed hand
