use Rattle.std.proofs.Common.{◌≡◌, ◌≤◌, ◌<◌, ◌*◌, ℕ, length, take, sum_by}
use Rattle.ng_mapper.specs.InOrder.{run_of}
use Rattle.ng_mapper.proofs.run_list.page_sum.Given as goal

abbrev pub invariant-loop-run : goal.invariant-loop-run
invariant-loop-run l = record {
  sum : l.sum ≡ sum_by (λ run. run.1) (take l.run-index l.runs);
  small : 4096 * l.sum ≤ 4096 * l.size;
  below : (k : ℕ) → l.run-index ≤ k → k < length l.runs → 4096 * l.sum ≤ (run_of l.runs k).0;
}
