use Rattle.std.proofs.Common.{◌≡◌, ◌≤◌, ◌<◌, ◌*◌, ◌%◌, ℕ, length}
use Rattle.ng_mapper.specs.Runs.{run_end}
use Rattle.ng_mapper.specs.Holes.{whole, IsLowest}
use Rattle.ng_mapper.specs.InOrder.{run_of}
use Rattle.ng_mapper.proofs.hole.lowest_hole.Given as goal

abbrev pub invariant-loop-next : goal.invariant-loop-next
invariant-loop-next l = record {
  aligned : l.at % 4096 ≡ 0;
  above : 4096 ≤ l.at;
  below : l.at ≤ 4096 * l.size;
  before : (k : ℕ) → k < l.next → run_end (run_of l.runs k) ≤ l.at;
  behind : (k : ℕ) → l.next ≤ k → k < length l.runs → l.at ≤ (run_of l.runs k).0;
  lowest : IsLowest (whole l.size) l.runs l.pages l.at;
}
