-- How many logs and ops a plan has: as many as the logs that it plans, and as their lines.
use Rattle.std.proofs.Common.{◌≡◌, ℕ, ◌+◌, suc, List, [], ◌∷◌, length, refl, ap, sym, ◌∙◌}
use Rattle.std.specs.Prelude.{map, sum_by}
use Rattle.ng_mtrace.specs.declared.log.Line.{Line}
use Rattle.std.proofs.lemmas.List.Sums.{sum_by-cons}
use Rattle.ng_terms.specs.declared.plan.Op.{Op}
use Rattle.ng_terms.specs.Calls.{op_count}
use Rattle.ng_plan.specs.Plans.{ops_behind, ops_from, plan_of}
use Rattle.ng_plan.specs.Steps.{steps_of}
use Rattle.ng_plan.specs.Turns.{Turns, turns_of}
use Rattle.ng_plan.proofs.OpLemmas.{length-ops}

length-ops_from : (turns : Turns) (log : ℕ) (logs : List (List Line)) → length (ops_from turns log logs) ≡ length logs
length-ops_from turns log [] = refl
length-ops_from turns log (lines ∷ logs) = ap suc (length-ops_from turns (log + 1) logs)

op_count-ops_from : (turns : Turns) (log : ℕ) (logs : List (List Line)) → op_count (ops_from turns log logs) ≡ sum_by length logs
op_count-ops_from turns log [] = refl
op_count-ops_from turns log (lines ∷ logs) =
    let ops : List Op = ops_behind turns log [] lines in
    sum_by-cons (λ (o : List Op). length o) ops (ops_from turns (log + 1) logs)
    ∙ ap (λ (n : ℕ). n + op_count (ops_from turns (log + 1) logs)) (length-ops turns log [] lines)
    ∙ ap (λ (n : ℕ). length lines + n) (op_count-ops_from turns (log + 1) logs) ∙ sym (sum_by-cons (λ (l : List Line). length l) lines logs)

-- a plan has the logs that it plans
pub length-plan_of : (logs : List (List Line)) → length (plan_of logs).logs ≡ length logs
length-plan_of logs = length-ops_from (turns_of (map steps_of logs)) 0 logs

-- and an op for each of their lines
pub op_count-plan_of : (logs : List (List Line)) → op_count (plan_of logs).logs ≡ sum_by length logs
op_count-plan_of logs = op_count-ops_from (turns_of (map steps_of logs)) 0 logs
