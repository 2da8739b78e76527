use Rattle.std.proofs.Common.{◌≡◌, ◌≤◌, [], All, length, vec_capacity}
use Rattle.ng_replay.specs.Room.{HaveRoom}
use Rattle.ng_replay.proofs.room.blocks_for.Given as goal

abbrev pub invariant-loop-ops : goal.invariant-loop-ops
invariant-loop-ops g l = record {
  count : length l.rows.items ≡ l.ops-index;
  capacity : length l.logs ≤ vec_capacity l.rows;
  empty : All (λ row. row.items ≡ []) l.rows.items;
  room : HaveRoom l.logs l.rows.items;
}
