use Rattle.std.proofs.Common.{◌≡◌, ◌+◌, ◌≤◌, ◌++◌, length, map, vec_capacity}
use Rattle.ng_replay.proofs.crew.crew_of.Given as goal

abbrev pub invariant-loop-hands : goal.invariant-loop-hands
invariant-loop-hands g l = record {
  hands : map (λ worker. worker.hand) l.workers.items ++ l.hands.items ≡ l.initial.hands.items;
  doors : map (λ worker. worker.door) l.workers.items ++ l.doors.items ≡ l.initial.doors.items;
  blocks : map (λ worker. worker.row) l.workers.items ++ l.blocks.items ≡ l.initial.blocks.items;
  rows : map (λ worker. worker.replies) l.workers.items ++ l.rows.items ≡ l.initial.rows.items;
  many_doors : length l.doors.items ≡ length l.hands.items;
  many_blocks : length l.blocks.items ≡ length l.hands.items;
  many_rows : length l.rows.items ≡ length l.hands.items;
  room : length l.workers.items + length l.hands.items ≤ vec_capacity l.workers;
  room_for_hands : vec_capacity l.hands ≡ vec_capacity l.initial.hands;
  room_for_doors : vec_capacity l.doors ≡ vec_capacity l.initial.doors;
}

abbrev pub decreases-loop-hands : goal.decreases-loop-hands
decreases-loop-hands g l = length l.hands.items
