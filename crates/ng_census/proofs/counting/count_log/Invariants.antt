use Rattle.std.proofs.Common.{◌≡◌, ◌+◌, take, count_by}
use Rattle.ng_census.specs.Counts.{IsWithin, Raises}
use Rattle.ng_census.proofs.counting.count_log.Given as goal

abbrev pub invariant-loop-op : goal.invariant-loop-op
invariant-loop-op l = record {
  raised : Raises l.initial.counts l.counts (λ test. count_by test (take l.op-index l.ops));
  ops : l.counts.ops ≡ l.initial.counts.ops + l.op-index;
  within : IsWithin l.counts;
}
