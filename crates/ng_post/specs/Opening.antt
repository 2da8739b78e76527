-- Boxes and doors that are being opened. No public clause cites this module.
use Rattle.std.specs.Prelude.{◌≡◌, ℕ, ◌<◌, List, [], length, max, nat_le, slice_index_or, vec_len}
use Rattle.crossbeam_queue.specs.Passes.{IsPassOf, Pass, ruled_capacity, view}
use Rattle.ng_post.specs.declared.boxes.Boxes.{Boxes}
use Rattle.ng_post.specs.declared.boxes.Door.{Door}
use Rattle.ng_post.specs.declared.mail.Letter.{Letter}
use Rattle.ng_post.specs.declared.view.View.{View}
use Rattle.ng_post.specs.Box.{leader, reader, sender}
use Rattle.ng_post.specs.Opened.{IsFresh, received_by}
use Rattle.ng_terms.specs.declared.plan.Plan.{Plan}

-- these are the passes that lead, of each box one: each has made so many senders, and the first boxes have readers
pub record AreLeadsAfter {N : Type 0} (boxes : Boxes N) (senders readers : ℕ) (leads : List (Pass (Letter N) View)) : Type 0 where
  pub count : length leads ≡ vec_len boxes.boxes
  pub passes : (b : ℕ) (q : _) (p : _) → b < vec_len boxes.boxes → IsPassOf (slice_index_or boxes.boxes.items b q) (slice_index_or leads b p)
  pub knows : (b : ℕ) (p : _) → b < vec_len boxes.boxes → view (slice_index_or leads b p) ≡ leader senders (nat_le readers b) [] []

-- an empty box for each log, with room for all letters to it, and the passes that lead
pub record AreNewBoxes {N : Type 0} (plan : Plan) (boxes : Boxes N) (leads : List (Pass (Letter N) View)) : Type 0 where
  pub count : vec_len boxes.boxes ≡ length plan.logs
  pub receivers : boxes.receivers.items ≡ plan.receivers
  pub room : (log : ℕ) (q : _) → log < length plan.logs
      → ruled_capacity (slice_index_or boxes.boxes.items log q) ≡ max (received_by plan.receivers log) 1
  pub leading : AreLeadsAfter boxes 0 0 leads

-- the log's passes to all boxes
pub record AreWays {N : Type 0} (boxes : Boxes N) (log : ℕ) (ways : List (Pass (Letter N) View)) : Type 0 where
  pub count : length ways ≡ vec_len boxes.boxes
  pub passes : (b : ℕ) (q : _) (p : _) → b < vec_len boxes.boxes → IsPassOf (slice_index_or boxes.boxes.items b q) (slice_index_or ways b p)
  pub knows : (b : ℕ) (p : _) → b < vec_len boxes.boxes → view (slice_index_or ways b p) ≡ sender log []

-- the log's door, but for the passes that lead
pub record IsNewDoor {N : Type 0} (boxes : Boxes N) (log : ℕ) (door : Door N) : Type 0 where
  pub log_is : door.log ≡ log
  pub ways : AreWays boxes log door.to.items
  pub own : (q : _) → IsPassOf (slice_index_or boxes.boxes.items log q) door.own
  pub reads : view door.own ≡ reader []

-- a fresh door for each log
pub record AreNewDoors {N : Type 0} (plan : Plan) (boxes : Boxes N) (doors : List (Door N)) : Type 0 where
  pub count : length doors ≡ length plan.logs
  pub each : (log : ℕ) (d : Door N) → log < length plan.logs → IsNewDoor boxes log (slice_index_or doors log d)
  pub fresh : (log : ℕ) (d : Door N) → log < length plan.logs
      → IsFresh (slice_index_or doors log d) (length (slice_index_or plan.logs log [])) (received_by boxes.receivers.items log)
