use Rattle.std.proofs.Common.{◌≡◌, take}
use Rattle.ng_terms.specs.Calls.{op_count}
use Rattle.ng_report.proofs.report.count_ops.Given as goal

abbrev pub invariant-loop-ops : goal.invariant-loop-ops
invariant-loop-ops l = l.count ≡ op_count (take l.ops-index l.logs)
