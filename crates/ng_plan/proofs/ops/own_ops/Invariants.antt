use Rattle.std.proofs.Common.{◌≡◌, ◌<◌, ℕ, length, get_or, None}
use Rattle.ng_terms.specs.declared.plan.Op.{Op}
use Rattle.ng_plan.specs.Plans.{op_of}
use Rattle.ng_plan.proofs.MakerLemmas.{line_at}
use Rattle.ng_plan.proofs.ops.own_ops.Given as goal

-- each line so far has its op
abbrev pub invariant-loop-at : goal.invariant-loop-at
invariant-loop-at l = record {
  long : length l.ops.items ≡ l.at;
  each : (k : ℕ) (op : Op) → k < l.at → get_or l.ops.items k op ≡ op_of (line_at l.lines k) (get_or l.owns k None) None None;
}
