use Rattle.std.proofs.Common.{◌≤◌, length, vec_capacity}
use Rattle.ng_replay.specs.Serial.{AreHeld, places_of}
use Rattle.ng_replay.specs.Works.{AreDoing}
use Rattle.ng_replay.proofs.worker.run_worker.Given as goal

abbrev pub invariant-loop-op : goal.invariant-loop-op
invariant-loop-op g l = record {
  doing : AreDoing l.mode l.boxes l.ops l.op-index l.log l.worker.hand l.worker.door (places_of l.worker.row.items) l.worker.replies.items;
  held : AreHeld l.worker.hand l.worker.row.items;
  room : length l.ops ≤ vec_capacity l.worker.replies;
  room_for_blocks : length l.ops ≤ vec_capacity l.worker.row;
  room_to_post : length l.ops ≤ vec_capacity l.worker.door.sent;
  room_to_collect : length l.ops ≤ vec_capacity l.worker.door.got;
}
