use Rattle.std.proofs.Common.{◌≡◌, ◌∙◌, ◌++◌, ◌∷◌, [], ℕ, List, Option, ap, get_or, sym, take}
use Rattle.ng_mtrace.specs.declared.log.Log.{Log}
use Rattle.ng_terms.specs.declared.plan.Op.{Op}
use Rattle.ng_plan.specs.Plans.{lines_of, ops_from, ops_of}
use Rattle.ng_plan.specs.Steps.{owns_of}
use Rattle.ng_plan.proofs.LogLemmas.{mapped_at, ops_more}
use Rattle.ng_plan.proofs.planning.all_ops.Goals as goal

pub log_ops-requires : goal.log_ops-requires
log_ops-requires c =
    let log : Log = c.index-logs-at.result in
    let here : c.as_slice.result.now ≡ (get_or c.args.logs.now c.loop-at.at log).lines = c.as_slice.ensures ∙ ap (λ (l : Log). l.lines) c.index-logs-at.is in
    c.as_slice-in-loop-at.ensures
    ∙ c.index-owns-at.is
    ∙ ap (λ (all : List (List (Option ℕ))). get_or all c.loop-at.at c.index-owns-at.result) c.requires.owns
    ∙ mapped_at owns_of c.args.logs.now c.loop-at.at log c.index-owns-at.result c.loop-at-test.true
    ∙ sym (ap owns_of here)

pub loop-at-preserved : goal.loop-at-preserved
loop-at-preserved c = λ names turns are.
    let log : Log = c.index-logs-at.result in
    let here : c.as_slice.result.now ≡ (get_or c.args.logs.now c.loop-at.at log).lines = c.as_slice.ensures ∙ ap (λ (l : Log). l.lines) c.index-logs-at.is in
    c.in_ok-push.ensures.ok
    ∙ ap (λ (all : List (List Op)). all ++ c.in_ok-ops.ops ∷ []) (c.loop-at.invariant names turns are)
    ∙ ap (λ (last : List Op). ops_from turns 0 (take c.loop-at.at (lines_of c.args.logs.now)) ++ last ∷ []) (c.in_ok-ops.ensures names turns are ∙ ap (ops_of turns c.loop-at.at) here)
    ∙ sym (ops_more turns c.args.logs.now c.loop-at.at log c.loop-at-test.true)
