use Rattle.std.proofs.Common.{◌≡◌, [], length, vec_len, ap, ◌∙◌, sym, arith}
use Rattle.std.proofs.lemmas.Bool.{eqb-true}
use Rattle.std.proofs.lemmas.List.{nil_from_length}
use Rattle.ng_mtrace.specs.OpenSections.{logs_after}
use Rattle.ng_mtrace.specs.PartRead.{logs_left, IsReady}
use Rattle.ng_mtrace.specs.declared.part_read.PartRead.{PartRead}
use Rattle.ng_mtrace.proofs.LineParts.{ended_kinds}
use Rattle.ng_mtrace.proofs.ReadSteps.{faults_left-nil}
use Rattle.ng_mtrace.proofs.part_read.PartRead.finish.Goals as goal

logs_are : (r : PartRead) → IsReady r → logs_left r [] ≡ logs_after r.sections []
unfolding logs_left
logs_are r ready = ap (λ kinds. logs_after r.sections kinds) (ended_kinds r.line.items ready.unfed)

pub returns-then-is_empty-clause-faultless : goal.returns-then-is_empty-clause-faultless
returns-then-is_empty-clause-faultless c = faults_left-nil c.args.self c.requires

pub returns-clause-faultless : goal.returns-clause-faultless
returns-clause-faultless c = faults_left-nil c.args.self c.requires

pub returns-then-is_empty-clause-none : goal.returns-then-is_empty-clause-none
returns-then-is_empty-clause-none c =
    let logs = c.into_logs-logs.result in
    let empty : length logs.items ≡ 0 = omega (arith, eqb-true (vec_len logs) 0 (sym c.is_empty.ensures ∙ c.if-is_empty.true)) in
    logs_are c.args.self c.requires ∙ sym c.into_logs-logs.ensures.logs ∙ nil_from_length logs.items empty

pub returns-clause-ok : goal.returns-clause-ok
returns-clause-ok c = c.from_vec.ensures ∙ c.into_logs-logs.ensures.logs ∙ sym (logs_are c.args.self c.requires)
