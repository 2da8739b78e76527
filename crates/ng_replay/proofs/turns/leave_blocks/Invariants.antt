use Rattle.std.proofs.Common.{◌≡◌, ◌≤◌, length}
use Rattle.ng_replay.proofs.turns.leave_blocks.Given as goal

abbrev pub invariant-loop-row : goal.invariant-loop-row
invariant-loop-row g l = record {
  same : l.hands.items ≡ l.initial.hands.items;
  few : length l.blocks.items ≤ length l.initial.hands.items;
}

abbrev pub decreases-loop-row : goal.decreases-loop-row
decreases-loop-row g l = goal.left-loop-row g l
