-- What ties a door to the boxes that it was opened with.
use Rattle.std.specs.Prelude.{◌≡◌, ℕ, ◌-◌, ◌<◌, ◌≤◌, ◌==◌, ◌++◌, Bool, false, List, [], All, filter, length, map, slice_index_or, vec_len}
use Rattle.std.specs.List.Sorted.{IsPermutation}
use Rattle.crossbeam_queue.specs.Passes.{IsPassOf, Pass, view}
use Rattle.ng_post.specs.declared.boxes.Boxes.{Boxes}
use Rattle.ng_post.specs.declared.boxes.Door.{Door}
use Rattle.ng_post.specs.declared.mail.Letter.{Letter}
use Rattle.ng_post.specs.declared.view.View.{View}
use Rattle.ng_post.specs.Letters.{Note, Pair, pair_of}
use Rattle.ng_post.specs.Box.{leader, reader, sender}

-- the number is that of a hand-off
pub record IsNumber (receivers : List ℕ) (number : ℕ) : Type 0 where
  pub least : 1 ≤ number
  pub most : number ≤ length receivers

-- the log that the number goes to
abbrev pub receiver_of : List ℕ → ℕ → ℕ
receiver_of receivers number = slice_index_or receivers (number - 1) 0

-- the pair goes to the box
abbrev pub goes_to : List ℕ → ℕ → Pair → Bool
goes_to receivers box pair = receiver_of receivers pair.0 == box

-- the pairs that go to the box, in order
abbrev pub sent_to : List ℕ → ℕ → List Pair → List Pair
sent_to receivers box sent = filter (goes_to receivers box) sent

-- these are the passes that lead, of each box one, which has made a sender for each log
pub record AreLeads {N : Type 0} (boxes : Boxes N) (leads : List (Pass (Letter N) View)) : Type 0 where
  pub count : length leads ≡ vec_len boxes.boxes
  pub passes : (b : ℕ) (q : _) (p : _) → b < vec_len boxes.boxes → IsPassOf (slice_index_or boxes.boxes.items b q) (slice_index_or leads b p)
  pub knows : (b : ℕ) (p : _) → b < vec_len boxes.boxes → view (slice_index_or leads b p) ≡ leader (vec_len boxes.boxes) false [] []

-- the door was opened with these boxes: its passes are theirs and know what it posted and what arrived, and what arrived was
-- collected or is kept. The passes that lead are with the first door
pub record IsDoorOf {N : Type 0} (boxes : Boxes N) (door : Door N) : Type 0 where
  pub log : door.log < vec_len boxes.boxes
  pub ways : vec_len door.to ≡ vec_len boxes.boxes
  pub to : (b : ℕ) (q : _) (p : _) → b < vec_len boxes.boxes → IsPassOf (slice_index_or boxes.boxes.items b q) (slice_index_or door.to.items b p)
  pub sends : (b : ℕ) (p : _) → b < vec_len boxes.boxes
      → view (slice_index_or door.to.items b p) ≡ sender door.log (sent_to boxes.receivers.items b door.sent.items)
  pub own : (q : _) → IsPassOf (slice_index_or boxes.boxes.items door.log q) door.own
  pub reads : view door.own ≡ reader (view door.own).got
  pub arrives : map (λ (n : Note). n.1) (view door.own).got ≡ door.arrived.items
  pub kept : IsPermutation door.arrived.items (door.got.items ++ map pair_of door.kept.items)
  pub numbers : All (λ (pair : Pair). IsNumber boxes.receivers.items pair.0) door.sent.items
  pub leads : door.log ≡ 0 → AreLeads boxes door.leads.items

-- these are all the doors that were opened with the boxes, in the order of their logs
pub record AreDoorsOf {N : Type 0} (boxes : Boxes N) (doors : List (Door N)) : Type 0 where
  pub count : length doors ≡ vec_len boxes.boxes
  pub each : (k : ℕ) (d : Door N) → k < length doors → IsDoorOf boxes (slice_index_or doors k d)
  pub logs : (k : ℕ) (d : Door N) → k < length doors → (slice_index_or doors k d).log ≡ k
