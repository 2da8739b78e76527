-- What holds of all doors once each number was posted and collected.
use Rattle.std.specs.Prelude.{◌≡◌, ℕ, ◌<◌, ◌≤◌, ◌==◌, Bool, true, List, Contains, Option, count_by, filter, flat_map, is_some, length, slice_index_or, sum_by}
use Rattle.std.specs.List.{list_any}
use Rattle.std.specs.List.Sorted.{IsPermutation}
use Rattle.ng_post.specs.declared.boxes.Door.{Door}
use Rattle.ng_post.specs.Doors.{IsNumber, receiver_of, sent_to}
use Rattle.ng_post.specs.Letters.{Pair}

abbrev pub is_of : ℕ → Pair → Bool
is_of number pair = pair.0 == number

-- no number was posted twice
abbrev pub ArePostedOnce : {N : Type 0} → List (Door N) → Type 0
ArePostedOnce doors = (number : ℕ) → count_by (is_of number) (flat_map (λ door. door.sent.items) doors) ≤ 1

-- each number was collected by its receiver
abbrev pub AreCollected : {N : Type 0} → List ℕ → List (Door N) → Type 0
AreCollected {N} receivers doors = (number : ℕ) (d : Door N) → IsNumber receivers number
    → list_any (is_of number) (slice_index_or doors (receiver_of receivers number) d).got.items ≡ true

-- whether the door posted the pair's number
abbrev pub posts : {N : Type 0} → Door N → Pair → Bool
posts door pair = list_any (is_of pair.0) door.sent.items

-- whether a block was sent
abbrev pub is_sent : Pair → Bool
is_sent pair = is_some pair.1

-- each number was handed over: what stands beside it with the receiver stands beside it with the sender. What arrived from
-- each sender came in the order in which it was posted. Each door collected what arrived, each number once. And as many blocks
-- were collected as were posted
pub record AreHandedOver {N : Type 0} (receivers : List ℕ) (doors : List (Door N)) : Type 0 where
  pub same : (s r number : ℕ) (posted collected : Option ℕ) (d : Door N) → s < length doors → r < length doors
      → Contains (slice_index_or doors s d).sent.items (number, posted) → Contains (slice_index_or doors r d).got.items (number, collected)
      → collected ≡ posted
  pub posted : (r : ℕ) (pair : Pair) (d : Door N) → r < length doors → Contains (slice_index_or doors r d).got.items pair
      → (s : ℕ) × (s < length doors) × Contains (slice_index_or doors s d).sent.items pair
  pub order : (s r : ℕ) (d : Door N) → s < length doors → r < length doors
      → filter (posts (slice_index_or doors s d)) (slice_index_or doors r d).arrived.items
      ≡ sent_to receivers r (slice_index_or doors s d).sent.items
  pub each : (r : ℕ) (d : Door N) → r < length doors → IsPermutation (slice_index_or doors r d).arrived.items (slice_index_or doors r d).got.items
  pub once : (r number : ℕ) (d : Door N) → r < length doors → count_by (is_of number) (slice_index_or doors r d).got.items ≤ 1
  pub even : sum_by (λ (door : Door N). count_by is_sent door.sent.items) doors ≡ sum_by (λ (door : Door N). count_by is_sent door.got.items) doors
