-- Plans of inputs within the limits.
use Rattle.std.proofs.Common.{◌≡◌, ◌≤◌, length, arith, ap, ◌∙◌}
use Rattle.std.proofs.lemmas.List.{length-map}
use Rattle.ng_mtrace.specs.declared.log.Log.{Log}
use Rattle.ng_mtrace.specs.declared.log.Logs.{Logs}
use Rattle.ng_mtrace.specs.Reads.{IsWithinLimits}
use Rattle.ng_plan.specs.Plans.{lines_of, plan_of}
use Rattle.ng_plan.proofs.CountLemmas.{length-plan_of, op_count-plan_of}
use Rattle.ng_terms.specs.declared.plan.Plan.{Plan}
use Rattle.ng_terms.specs.Calls.{op_count}

-- a plan has at most sixteen logs
pub few-logs : (logs : Logs) (plan : Plan) → plan ≡ plan_of (lines_of logs.logs) → IsWithinLimits logs → length plan.logs ≤ 16
few-logs logs plan planned limits =
    let count : length plan.logs ≡ length logs.logs =
    ap (λ (p : Plan). length p.logs) planned ∙ length-plan_of (lines_of logs.logs) ∙ length-map logs.logs (λ (l : Log). l.lines) in
    let few : length logs.logs ≤ 16 = limits.few in
    omega arith

-- and at most a million ops
pub few-ops : (logs : Logs) (plan : Plan) → plan ≡ plan_of (lines_of logs.logs) → IsWithinLimits logs → op_count plan.logs ≤ 1000000
few-ops logs plan planned limits =
    rw (ap (λ (p : Plan). op_count p.logs) planned ∙ op_count-plan_of (lines_of logs.logs)) limits.short
