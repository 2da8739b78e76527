-- What a close asks of the seats, and what it tells of the last words.
use Rattle.std.specs.Prelude.{◌≡◌, ◌⊎◌, ℕ, ◌+◌, ◌%◌, ◌<◌, ◌≤◌, All, true, false, List, [], ◌∷◌, length, map}
use mathlib.Core.Option.{some}
use lib.ListN.{get_elem?}
use Rattle.ng_history.specs.Book as book
use Rattle.ng_view.specs.Cells.{cell, tag}
use Rattle.ng_view.specs.Classes.{Classes}
use Rattle.ng_view.specs.Excuses.{Excuses}
use Rattle.ng_view.specs.History.{History}
use Rattle.ng_view.specs.Knowledge.{Knowledge}
use Rattle.ng_view.specs.Layouts.{InArea}
use Rattle.ng_view.specs.Listing.{Listing}
use Rattle.ng_view.specs.Lists.{Among, total_by}
use Rattle.ng_view.specs.Places.{Owns}
use Rattle.ng_view.specs.Rule.{Rule}
use Rattle.ng_view.specs.Slots.{Slots}
use Rattle.ng_view.specs.Words.{Words}
use Rattle.ng_view.specs.declared.view.Held.{Held}
use Rattle.ng_view.specs.declared.view.Layout.{Layout}
use Rattle.ng_view.specs.declared.view.Run.{Run}
use Rattle.ng_view.specs.declared.view.Start.{Start}
use Rattle.ng_view.specs.declared.view.View.{View}
use Rattle.ng_space.specs.Callers.{Caller}

-- the words of a closed heap
pub record ImageCells : Type 0 where
  pub pages : ℕ
  pub words : List ℕ

-- the views of the lock's seat and of the hands
abbrev pub views_of : View → List Caller → List View
views_of lock hands = lock ∷ map (λ (hand : Caller). hand.view) hands

-- the books of hands
abbrev pub books_of : List Caller → List book.Shown
books_of hands =
    map (λ (hand : Caller). record { number = hand.number; spare = hand.spare; entries = hand.entries }) hands

-- the view of a hand has its book and no other
abbrev pub HasOwnBook : Caller → Type 0
HasOwnBook hand = hand.view.books ≡ record { number = hand.number; entries = hand.entries } ∷ []

-- one of the hands has the number
abbrev pub HasNumber : List Caller → ℕ → Type 0
HasNumber hands number = (hand : Caller) × Among hand hands × (hand.number ≡ number)

-- these are all the hands of a heap that has so many
pub record AreAll (count : ℕ) (hands : List Caller) : Type 0 where
  pub many : length hands ≡ count
  pub each : (number : ℕ) → 0 < number → number ≤ count → HasNumber hands number

-- no parcel is out: what the hands sent out they took in
abbrev pub IsEven : List Caller → Type 0
IsEven hands = total_by (λ (hand : Caller). hand.view.sent) hands
    ≡ total_by (λ (hand : Caller). hand.view.taken) hands

-- the rule holds of the words, and of views of which v is one
pub record EndsWith (key : Start) (ws : List ℕ) (v : View) : Type 0 where
  pub views : List View
  pub seat : ℕ
  pub ruled : Rule key ws views
  pub there : get_elem? views seat ≡ some v

-- some live group begins at the address
pub record IsGroupAt (ws : List ℕ) (a : ℕ) : Type 0 where
  pub meta : ℕ
  pub whole : meta % 4 ≡ 0
  pub live : 0 < tag ws meta
  pub base : cell ws (meta + 16) ≡ a

-- each noted run is an area or the run of a live group
abbrev pub AreRunsUsed : List ℕ → Layout → Type 0
AreRunsUsed ws d = (r : Run) → Among r d.runs → (r.area ≡ true) ⊎ IsGroupAt ws r.addr

-- the cells of an area's metas without a live group are 0
abbrev pub AreFreeMetasBlank : List ℕ → Layout → Type 0
AreFreeMetasBlank ws d = (m b : ℕ) → m % 4 ≡ 0 → InArea d m → tag ws m ≡ 0
    → b < 40 → b % 4 ≡ 0 → cell ws (m + b) ≡ 0

-- a cell, be it a header, of a body or a trailer, is the own cell of one slot of one view at most
abbrev pub AreOwnedOnce : List View → Type 0
AreOwnedOnce views = (a i j : ℕ) (v w : View) (x y : Held) → get_elem? views i ≡ some v → get_elem? views j ≡ some w
    → Among x v.held → Among y w.held → Owns x.place a → Owns y.place a → (i ≡ j) × (x ≡ y)

-- the parts of the rule hold of the last words and of what the seats knew at the end; nothing of the lock's seat is
-- left half done; each hand has its own book, and no seat is a parcel's
pub record IsClosed (key : Start) (ws : List ℕ) (lock : View) (hands : List Caller) : Type 0 where
  pub slots : Slots ws (views_of lock hands)
  pub words : Words key ws (views_of lock hands)
  pub listing : Listing ws lock.desk
  pub excuses : Excuses key (views_of lock hands)
  pub history : History key (views_of lock hands)
  pub knowledge : Knowledge ws (views_of lock hands)
  pub classes : Classes (views_of lock hands)
  pub runs : AreRunsUsed ws lock.desk.layout
  pub free : AreFreeMetasBlank ws lock.desk.layout
  pub apart : AreOwnedOnce (views_of lock hands)
  pub own : All HasOwnBook hands
  pub whole : All (λ (view : View). view.parcel ≡ false) (views_of lock hands)
