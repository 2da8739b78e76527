-- What a call of the core leaves as it was.
use Rattle.std.specs.Prelude.{◌≡◌, ◌≢◌, ℕ, ◌<◌, ◌∷◌, ◌++◌, List, slice_index}
use Rattle.ng_lists.specs.Rings.{ring_of}
use Rattle.ng_view.specs.Notes.{excuse_of_call}
use Rattle.ng_mapper.specs.Mapping.{NotesNone}
use Rattle.ng_mapper.specs.declared.refusals.Refusals.{Refusals}
use Rattle.ng_terms.specs.Causes.{Rose}
use Rattle.ng_view.specs.Lists.{Among}
use Rattle.ng_view.specs.declared.view.View.{View}
use Rattle.ng_ledger.specs.Metas.{IsBlankMeta}
use Rattle.ng_ledger.specs.Rings.{IsIn}
use Rattle.ng_ledger.specs.Standing.{InHand, Ledger}

-- words were read
pub record Came (v w : View) : Type 0 where
  pub words : List (ℕ × ℕ)
  pub readings : w.readings ≡ v.readings ++ words

-- of the classes below one, the rings and the usage are as before, and what was noted of their avail masks still is
pub record LeavesBelow (class : ℕ) (before after : Ledger) : Type 0 where
  pub rings : (k : ℕ) → k < class → ring_of after.rings k ≡ ring_of before.rings k
  pub usage : (k : ℕ) → k < class → slice_index after.usage k ≡ slice_index before.usage k
  pub bare : (k m : ℕ) → k < class → IsIn before.rings k m → Among m before.seat.desk.zero_avail
      → Among m after.seat.desk.zero_avail

-- the metas in hand but one are the same after a call as before, and are still known to be 0 where they were; and that
-- one is in hand no more
pub record HandsOver (meta : ℕ) (before after : Ledger) : Type 0 where
  pub gone : InHand after meta → ⊥
  pub none_more : (m : ℕ) → InHand after m → InHand before m
  pub none_less : (m : ℕ) → m ≢ meta → InHand before m → InHand after m
  pub blank : (m : ℕ) → m ≢ meta → InHand before m → IsBlankMeta before.seat.desk.cells m → IsBlankMeta after.seat.desk.cells m

-- what a call leaves whatever it answers: words were read, and the number of the next hand is as before
pub record GoesOn (before after : View) : Type 0 where
  pub came : Came before after
  pub next : after.desk.next ≡ before.desk.next

-- no map call was refused, and the excuses are as before
pub record IsCalm (before after : View) (was now : Refusals) : Type 0 where
  pub refused : NotesNone was now
  pub excuses : after.excuses ≡ before.excuses

-- a map call was refused, with this number: its excuse has come
pub record IsRefused (number : ℕ) (before after : View) (was now : Refusals) : Type 0 where
  pub number_is : number ≡ now.count
  pub rose : Rose was.count now.count
  pub excuse : after.excuses ≡ excuse_of_call number ∷ before.excuses
