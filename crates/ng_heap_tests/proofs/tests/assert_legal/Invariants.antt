use Rattle.std.proofs.Common.{◌≡◌, ◌≤◌, length}
use Rattle.ng_heap_tests.proofs.tests.assert_legal.Given as goal

abbrev pub invariant-loop-entry : goal.invariant-loop-entry
invariant-loop-entry g l = record {
  room : l.live.room ≡ 2000;
  live : length l.live.state.live ≤ l.entry-index;
  used : length l.live.state.used ≤ l.entry-index;
}
