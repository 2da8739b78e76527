use Rattle.std.proofs.Common.{◌≡◌, ◌+◌, ◌≤◌, ◌++◌, length, map, vec_capacity}
use Rattle.ng_replay.proofs.threading.end_workers.Given as goal

abbrev pub invariant-loop-workers : goal.invariant-loop-workers
invariant-loop-workers g l = record {
  hands : l.hands.items ++ map (λ worker. worker.hand) l.workers.items ≡ map (λ worker. worker.hand) l.initial.workers.items;
  doors : l.doors.items ++ map (λ worker. worker.door) l.workers.items ≡ map (λ worker. worker.door) l.initial.workers.items;
  replies : l.replies.items ++ map (λ worker. worker.replies.items) l.workers.items ≡ map (λ worker. worker.replies.items) l.initial.workers.items;
  many_doors : length l.doors.items ≡ length l.hands.items;
  many_replies : length l.replies.items ≡ length l.hands.items;
  room : length l.hands.items + length l.workers.items ≤ vec_capacity l.hands;
  room_for_doors : length l.hands.items + length l.workers.items ≤ vec_capacity l.doors;
  room_for_replies : length l.hands.items + length l.workers.items ≤ vec_capacity l.replies;
}

abbrev pub decreases-loop-workers : goal.decreases-loop-workers
decreases-loop-workers g l = length l.workers.items
