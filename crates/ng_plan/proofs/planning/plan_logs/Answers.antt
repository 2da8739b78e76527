use Rattle.std.proofs.Common.{◌≡◌, ◌∙◌, ap, arith, length, sym}
use Rattle.std.specs.Prelude.{sum_by}
use Rattle.ng_plan.specs.declared.step.Step.{Step}
use Rattle.ng_plan.specs.Plans.{lines_of}
use Rattle.ng_plan.proofs.FitLemmas.{sum_named}
use Rattle.ng_plan.proofs.StepLemmas.{sum_steps}
use Rattle.ng_plan.proofs.planning.plan_logs.Goals as goal

pub all_turns-requires-clause-short : goal.all_turns-requires-clause-short
all_turns-requires-clause-short c =
    let same : sum_by length c.as_slice-2.result.now ≡ sum_by length (lines_of c.args.logs.now) =
    ap (sum_by (length {A = Step})) c.as_slice-2.ensures.value
    ∙ sym (sum_named c.in_ok-names.names c.in_ok-steps.steps.items)
    ∙ ap (sum_by (length {A = Step})) c.in_ok-steps.ensures.steps
    ∙ sum_steps (lines_of c.args.logs.now) in
    omega (arith, same, c.requires.short)
