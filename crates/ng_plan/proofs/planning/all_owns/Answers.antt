use Rattle.std.proofs.Common.{◌≡◌, ◌≤◌, ◌∙◌, ◌++◌, ◌∷◌, [], ℕ, List, Option, ap, arith, get_or, length, map, rules, sym, take}
use Rattle.std.specs.Prelude.{sum_by}
use Rattle.ng_mtrace.specs.declared.log.Log.{Log}
use Rattle.ng_plan.specs.Plans.{lines_of}
use Rattle.ng_plan.specs.Steps.{owns_of}
use Rattle.ng_plan.proofs.LogLemmas.{lines-le, mapped_more}
use Rattle.ng_plan.proofs.planning.all_owns.Goals as goal

pub owns-requires-clause-few : goal.owns-requires-clause-few
owns-requires-clause-few c =
    let log : Log = c.log-item.result in
    let here : c.as_slice.result.now ≡ (get_or c.args.logs.now c.loop-log.log-index log).lines = c.as_slice.ensures ∙ ap (λ (l : Log). l.lines) c.log-item.is in
    let few : length (get_or c.args.logs.now c.loop-log.log-index log).lines ≤ sum_by length (lines_of c.args.logs.now) = lines-le c.args.logs.now c.loop-log.log-index log c.loop-log-test.true in
    omega (arith, ap length here, few, c.requires.short)

pub loop-log-preserved : goal.loop-log-preserved
loop-log-preserved c =
    let log : Log = c.log-item.result in
    let here : c.as_slice.result.now ≡ (get_or c.args.logs.now c.loop-log.log-index log).lines = c.as_slice.ensures ∙ ap (λ (l : Log). l.lines) c.log-item.is in
    let pushed : c.push.new.self.items ≡ c.loop-log.all.items ++ c.from_vec.result ∷ [] = search (rules, c.in_ok-push.ensures.items) in
    pushed
    ∙ ap (λ (all : List (List (Option ℕ))). all ++ c.from_vec.result ∷ []) c.loop-log.invariant
    ∙ ap (λ (last : List (Option ℕ)). map owns_of (take c.loop-log.log-index (lines_of c.args.logs.now)) ++ last ∷ []) (c.from_vec.ensures ∙ c.in_ok-owns.ensures ∙ ap owns_of here)
    ∙ sym (mapped_more owns_of c.args.logs.now c.loop-log.log-index log c.loop-log-test.true)
