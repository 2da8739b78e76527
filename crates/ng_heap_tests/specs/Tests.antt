-- What the tests know of a heap with one hand.
use Rattle.std.specs.Prelude.{◌≡◌, ◌≢◌, ℕ, ◌<◌, All, List, length, slice_index_or}
use Rattle.ng_group.specs.Hands.{IsApart}
use Rattle.ng_space.specs.Blocks.{BlockToken, HasBlock}
use Rattle.ng_space.specs.Callers.{Caller}
use Rattle.ng_view.specs.declared.view.View.{View}

-- the heap may be closed: its only hand is the first, and took in as many parcels as it sent out
pub record MayClose (seat : View) (hand : Caller) : Type 0 where
  pub next : seat.desk.next ≡ 2
  pub number : hand.number ≡ 1
  pub even : hand.view.sent ≡ hand.view.taken

-- each block of the list is the hand's, and no two of them are in one slot
pub record AreOwn (hand : Caller) (held : List BlockToken) : Type 0 where
  pub each : All (HasBlock hand) held
  pub apart : (i j : ℕ) (d : BlockToken) → i < length held → j < length held → i ≢ j
      → IsApart (slice_index_or held i d).slot (slice_index_or held j d).slot
