use Rattle.std.proofs.Common.{◌≡◌, ◌≤◌, None, replicate, vec_capacity}
use Rattle.ng_replay.proofs.room.parcels_for.Given as goal

abbrev pub invariant-loop-number : goal.invariant-loop-number
invariant-loop-number g l = record {
  made : l.parcels.items ≡ replicate l._number None;
  room : l.count ≤ vec_capacity l.parcels;
}
