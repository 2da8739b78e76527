-- The workers of a plan's logs, one for each.
use Rattle.std.specs.Prelude.{◌≡◌, ℕ, ◌+◌, ◌*◌, ◌<◌, ◌≤◌, List, [], All, length, map, slice_index_or, vec_capacity}
use Rattle.ng_post.specs.declared.boxes.Boxes.{Boxes}
use Rattle.ng_post.specs.declared.boxes.Door.{Door}
use Rattle.ng_post.specs.Doors.{IsDoorOf}
use Rattle.ng_space.specs.Callers.{Caller, fresh_caller}
use Rattle.ng_terms.specs.declared.plan.Op.{Op}
use Rattle.ng_terms.specs.declared.plan.Plan.{Plan}
use Rattle.ng_terms.specs.declared.reply.Mode.{Mode}
use Rattle.ng_terms.specs.declared.reply.Reply.{Reply}
use Rattle.ng_replay.specs.Books.{hand_at}
use Rattle.ng_replay.specs.Works.{AreDone, MayDo}
use Rattle.ng_replay.specs.Room.{HaveRoom}
use Rattle.ng_replay.specs.declared.crew.Crew.{Crew}
use Rattle.ng_replay.specs.declared.crew.Places.{Places}
use Rattle.ng_replay.specs.declared.worker.Worker.{Worker}

-- the hands of a crew's workers, and their doors
abbrev pub hands_of : {N : Type 0} → Crew N → List Caller
hands_of crew = map (λ worker. worker.hand) crew.workers.items

abbrev pub doors_of : {N : Type 0} → Crew N → List (Door N)
doors_of crew = map (λ worker. worker.door) crew.workers.items

-- the worker has no block and no reply yet, and room for those of the ops
pub record HasRoomToWork {N : Type 0} (ops : List Op) (worker : Worker N) : Type 0 where
  pub no_blocks : worker.row.items ≡ []
  pub no_replies : worker.replies.items ≡ []
  pub blocks : length ops ≤ vec_capacity worker.row
  pub replies : length ops ≤ vec_capacity worker.replies

-- nothing that a worker leaves is there yet, and there is room for what so many leave: their hands, doors and replies
pub record HasRoomFor {N : Type 0} (crew : Crew N) (count : ℕ) : Type 0 where
  pub no_hands : crew.hands.items ≡ []
  pub no_doors : crew.doors.items ≡ []
  pub no_replies : crew.replies.items ≡ []
  pub hands : count ≤ vec_capacity crew.hands
  pub doors : count ≤ vec_capacity crew.doors
  pub replies : count ≤ vec_capacity crew.replies

-- a worker for each log, and room for what they leave
pub record IsCrewFor {N : Type 0} (crew : Crew N) (plan : Plan) : Type 0 where
  pub count : length crew.workers.items ≡ length plan.logs
  pub each : (log : ℕ) (w : Worker N) → log < length plan.logs
      → HasRoomToWork (slice_index_or plan.logs log []) (slice_index_or crew.workers.items log w)
  pub ends : HasRoomFor crew (length plan.logs)

-- room for the workers of a plan, and nothing in it
pub record HavePlaces {N : Type 0} (places : Places N) (plan : Plan) : Type 0 where
  pub workers : places.workers.items ≡ []
  pub room : length plan.logs ≤ vec_capacity places.workers
  pub blocks : length places.blocks.items ≡ length plan.logs
  pub no_blocks : All (λ row. row.items ≡ []) places.blocks.items
  pub rows_of_blocks : HaveRoom plan.logs places.blocks.items
  pub rows : length places.rows.items ≡ length plan.logs
  pub no_replies : All (λ row. row.items ≡ []) places.rows.items
  pub rows_of_replies : HaveRoom plan.logs places.rows.items
  pub none : places.replies.items ≡ []
  pub replies : length plan.logs ≤ vec_capacity places.replies

-- a worker may begin with the ops of its log: nothing was done by its hand and its door, and there is room for all
pub record IsReady {N : Type 0} (mode : Mode) (boxes : Boxes N) (cap : ℕ) (ops : List Op) (log : ℕ) (worker : Worker N) : Type 0 where
  pub may : MayDo mode cap boxes.receivers.items ops
  pub hand : worker.hand ≡ fresh_caller (log + 1) (2 * length ops)
  pub door : IsDoorOf boxes worker.door
  pub log_is : worker.door.log ≡ log
  pub none_sent : worker.door.sent.items ≡ []
  pub none_got : worker.door.got.items ≡ []
  pub room_to_post : length ops ≤ vec_capacity worker.door.sent
  pub room_to_collect : length ops ≤ vec_capacity worker.door.got
  pub room : HasRoomToWork ops worker

-- a worker has done the ops of its log
abbrev pub HasDone : {N : Type 0} → Mode → Boxes N → List Op → ℕ → Worker N → Type 0
HasDone mode boxes ops log worker = AreDone mode boxes ops log worker.hand worker.door worker.replies.items

-- all workers of a plan may begin, and all have done their ops
pub record AreReady {N : Type 0} (mode : Mode) (boxes : Boxes N) (cap : ℕ) (plan : Plan) (workers : List (Worker N)) : Type 0 where
  pub count : length workers ≡ length plan.logs
  pub each : (log : ℕ) (w : Worker N) → log < length plan.logs → IsReady mode boxes cap (slice_index_or plan.logs log []) log (slice_index_or workers log w)

pub record HaveDone {N : Type 0} (mode : Mode) (boxes : Boxes N) (plan : Plan) (workers : List (Worker N)) : Type 0 where
  pub count : length workers ≡ length plan.logs
  pub each : (log : ℕ) (w : Worker N) → log < length plan.logs → HasDone mode boxes (slice_index_or plan.logs log []) log (slice_index_or workers log w)

-- the ops of all logs were done: what each log's worker left
pub record AreEnded {N : Type 0} (mode : Mode) (boxes : Boxes N) (plan : Plan) (hands : List Caller) (doors : List (Door N)) (replies : List (List Reply)) : Type 0 where
  pub many_hands : length hands ≡ length plan.logs
  pub many_doors : length doors ≡ length plan.logs
  pub many_replies : length replies ≡ length plan.logs
  pub each : (log : ℕ) (d : Door N) → log < length plan.logs
      → AreDone mode boxes (slice_index_or plan.logs log []) log (hand_at hands log) (slice_index_or doors log d) (slice_index_or replies log [])
