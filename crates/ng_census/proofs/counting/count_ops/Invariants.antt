use Rattle.std.proofs.Common.{◌≡◌, take}
use Rattle.ng_census.specs.Census.{ops_with}
use Rattle.ng_census.specs.Counts.{IsWithin, Raises}
use Rattle.ng_census.proofs.counting.count_ops.Given as goal
use Rattle.ng_terms.specs.Calls.{op_count}

abbrev pub invariant-loop-ops : goal.invariant-loop-ops
invariant-loop-ops l = record {
  raised : Raises l.initial.counts l.counts (λ test. ops_with test (take l.ops-index l.logs));
  ops : l.counts.ops ≡ op_count (take l.ops-index l.logs);
  within : IsWithin l.counts;
}
