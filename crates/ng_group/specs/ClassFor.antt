-- The class that serves a request.
use Rattle.std.specs.Prelude.{◌≡◌, ◌≢◌, ◌⊎◌, ℕ, ◌+◌, ◌%◌, ◌^◌, ◌<◌, ◌↔◌, ◌∷◌, [], Bool, IsTrue, List, Some, slice_get, slice_index, true, false}
use Rattle.ng_lists.specs.Rings.{ring_of}
use Rattle.ng_class.specs.Class.{IsLeastClass}
use Rattle.ng_policy.specs.Coarse.{GoesUp}
use Rattle.ng_serve.specs.Reads.{Notes}
use Rattle.ng_group.specs.Steps.{Came}
use Rattle.ng_group.specs.States.{State}

-- the first group of a ring had a slot in one of its masks, as they were read, each once and nothing else: there is none where
-- the ring is empty, or both masks were read to be 0
pub record IsReady (words : List (ℕ × ℕ)) (ring : List ℕ) (ready : Bool) : Type 0 where
  pub empty : ring ≡ [] → (ready ≡ false) × (words ≡ [])
  pub first : (m : ℕ) → slice_get ring 0 ≡ Some m
      → (avail : ℕ) × (freed : ℕ) × (words ≡ (m + 24, avail) ∷ (m + 28, freed) ∷ [])
      × (IsTrue ready ↔ ((0 < avail % 2 ^ 32) ⊎ (0 < freed)))

-- the class that serves so many bytes: the least one with room for them and 4, or the next, exactly where the rings and the
-- usage say so, and the masks that were read of the next class's first group. Where these don't matter no word was read
pub record IsClassFor {M P : Type 0} (before after : State M P) (bytes class : ℕ) : Type 0 where
  pub least : ℕ
  pub is_least : IsLeastClass bytes least
  pub came : Came before.seat after.seat
  pub has_group : Bool
  pub has_is : IsTrue has_group ↔ (ring_of before.rings least ≢ [])
  pub ready : Bool
  pub ready_is : GoesUp least has_group (slice_index before.usage least) (slice_index before.usage (least + 1)) true
      → IsReady came.words (ring_of before.rings (least + 1)) ready
  pub unread : ¬ GoesUp least has_group (slice_index before.usage least) (slice_index before.usage (least + 1)) true → came.words ≡ []
  pub up : (class ≡ least + 1) ↔ GoesUp least has_group (slice_index before.usage least) (slice_index before.usage (least + 1)) ready
  pub stays : class ≢ least + 1 → class ≡ least

-- words were read, and else the core is as before: of its seat only what it read and noted of masks has changed
pub record IsLooked {M P : Type 0} (before looked : State M P) : Type 0 where
  pub state : looked ≡ record before { seat = looked.seat }
  pub notes : Notes before.seat looked.seat
