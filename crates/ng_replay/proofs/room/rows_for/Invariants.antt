use Rattle.std.proofs.Common.{◌≡◌, [], length}
use Rattle.std.specs.Prelude.{All}
use Rattle.ng_replay.specs.Room.{HaveRoom}
use Rattle.ng_replay.proofs.room.rows_for.Given as goal

abbrev pub invariant-loop-ops : goal.invariant-loop-ops
invariant-loop-ops l = record {
  count : length l.rows.items ≡ l.ops-index;
  empty : All (λ row. row.items ≡ []) l.rows.items;
  room : HaveRoom l.logs l.rows.items;
}
