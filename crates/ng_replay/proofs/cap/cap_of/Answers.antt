use Rattle.std.proofs.Common.{ℕ, List, [], ◌∷◌, ◌++◌, length, slice_index_or, take, sym, ap, ◌∙◌, subst, arith}
use Rattle.std.proofs.lemmas.List.{take_all}
use Rattle.ng_replay.specs.Serving.{IsCapOf}
use Rattle.ng_terms.specs.declared.plan.Op.{Op}
use Rattle.ng_replay.specs.Caps.{IsCapIn}
use Rattle.ng_replay.proofs.CapLemmas.{capped_more, take_more, with_logs}
use Rattle.ng_replay.proofs.cap.cap_of.Goals as goal

pub loop-ops-preserved : goal.loop-ops-preserved
loop-ops-preserved c =
    let plan = c.args.plan.now in
    let item = slice_index_or plan.logs c.loop-ops.ops-index c.ops-item.result in (
      subst (λ (logs : List (List Op)). IsCapOf c.larger-cap.result (with_logs plan logs) c.args.mode) (sym (take_more plan.logs c.loop-ops.ops-index c.ops-item.result (omega (arith, c.loop-ops-test.true, ap length c.as_slice-ops-items.ensures))))
          (subst (λ (n : ℕ). IsCapOf n (with_logs plan (take c.loop-ops.ops-index plan.logs ++ item ∷ [])) c.args.mode) (sym c.larger-cap.ensures) (capped_more plan c.args.mode (take c.loop-ops.ops-index plan.logs) item c.loop-ops.cap c.cap_of_log.result c.loop-ops.invariant.0
          (subst (λ (ops : List Op). IsCapIn c.args.mode ops c.cap_of_log.result) (c.as_slice.ensures ∙ c.ops-item.is ∙ ap (λ (logs : List (List Op)). slice_index_or logs c.loop-ops.ops-index c.ops-item.result) c.as_slice-ops-items.ensures) c.cap_of_log.ensures.cap) c.cap_of_log.ensures.small)),
      omega (arith, c.loop-ops.invariant.1, c.cap_of_log.ensures.small, c.larger-cap.ensures),
    )

pub returns-clause-cap : goal.returns-clause-cap
returns-clause-cap c =
    let plan = c.args.plan.now in
    subst (λ (logs : List (List Op)). IsCapOf c.loop-ops.cap (with_logs plan logs) c.args.mode) (take_all c.loop-ops.ops-index plan.logs (omega (arith, c.loop-ops-test.false, ap length c.as_slice-ops-items.ensures))) c.loop-ops.invariant.0
