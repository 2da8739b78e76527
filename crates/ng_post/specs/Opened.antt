-- What `open` gives for a plan.
use Rattle.std.specs.Prelude.{◌≡◌, ℕ, ◌<◌, ◌≤◌, ◌==◌, List, [], count_by, length, max, slice_index_or, vec_capacity}
use Rattle.crossbeam_queue.specs.Passes.{ruled_capacity}
use Rattle.ng_post.specs.declared.boxes.Boxes.{Boxes}
use Rattle.ng_post.specs.declared.boxes.Door.{Door}
use Rattle.ng_post.specs.Doors.{AreDoorsOf}
use Rattle.ng_terms.specs.declared.plan.Plan.{Plan}

-- how many hand-offs the log receives
abbrev pub received_by : List ℕ → ℕ → ℕ
received_by receivers log = count_by (λ receiver. receiver == log) receivers

-- a door before anything was posted or collected, with room to post and to collect for so many ops and to keep so many letters
pub record IsFresh {N : Type 0} (door : Door N) (ops letters : ℕ) : Type 0 where
  pub sent : door.sent.items ≡ []
  pub got : door.got.items ≡ []
  pub arrived : door.arrived.items ≡ []
  pub kept : door.kept.items ≡ []
  pub room_to_post : ops ≤ vec_capacity door.sent
  pub room_to_collect : ops ≤ vec_capacity door.got
  pub room_to_keep : letters ≤ vec_capacity door.kept
  pub room_to_arrive : letters ≤ vec_capacity door.arrived

-- a box and a fresh door for each log of the plan, with room for all hand-offs
pub record AreOpened {N : Type 0} (plan : Plan) (boxes : Boxes N) (doors : List (Door N)) : Type 0 where
  pub count : length doors ≡ length plan.logs
  pub receivers : boxes.receivers.items ≡ plan.receivers
  pub opened : AreDoorsOf boxes doors
  pub fresh : (log : ℕ) (d : Door N) → log < length plan.logs
      → IsFresh (slice_index_or doors log d) (length (slice_index_or plan.logs log [])) (received_by plan.receivers log)
  pub room : (log : ℕ) (q : _) → log < length plan.logs
      → ruled_capacity (slice_index_or boxes.boxes.items log q) ≡ max (received_by plan.receivers log) 1
