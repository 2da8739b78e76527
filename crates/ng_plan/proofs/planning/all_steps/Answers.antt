use Rattle.std.proofs.Common.{◌≡◌, ◌≤◌, ◌∙◌, ◌++◌, ◌∷◌, [], ℕ, List, Option, ap, arith, get_or, length, map, rules, subst, sym, take}
use Rattle.std.specs.Prelude.{All, sum_by}
use Rattle.std.proofs.lemmas.List.{map-append}
use Rattle.std.proofs.lemmas.List.Elements.{All-push}
use Rattle.ng_mtrace.specs.declared.log.Log.{Log}
use Rattle.ng_plan.specs.declared.step.Step.{Step}
use Rattle.ng_plan.specs.Plans.{lines_of}
use Rattle.ng_plan.specs.Steps.{owns_of, steps_of}
use Rattle.ng_plan.specs.Tables.{IsNumbered, named}
use Rattle.ng_plan.proofs.LogLemmas.{lines-le, mapped_at, mapped_more}
use Rattle.ng_plan.proofs.planning.all_steps.Goals as goal

pub steps-requires-clause-few : goal.steps-requires-clause-few
steps-requires-clause-few c =
    let log : Log = c.index-logs-at.result in
    let here : c.as_slice.result.now ≡ (get_or c.args.logs.now c.loop-at.at log).lines = c.as_slice.ensures ∙ ap (λ (l : Log). l.lines) c.index-logs-at.is in
    let few : length (get_or c.args.logs.now c.loop-at.at log).lines ≤ sum_by length (lines_of c.args.logs.now) = lines-le c.args.logs.now c.loop-at.at log c.loop-at-test.true in
    omega (arith, ap length here, few, c.requires.short)

pub steps-requires-clause-owns : goal.steps-requires-clause-owns
steps-requires-clause-owns c =
    let log : Log = c.index-logs-at.result in
    let here : c.as_slice.result.now ≡ (get_or c.args.logs.now c.loop-at.at log).lines = c.as_slice.ensures ∙ ap (λ (l : Log). l.lines) c.index-logs-at.is in
    c.as_slice-in-loop-at.ensures
    ∙ c.index-owns-at.is
    ∙ ap (λ (all : List (List (Option ℕ))). get_or all c.loop-at.at c.index-owns-at.result) c.requires.owns
    ∙ mapped_at owns_of c.args.logs.now c.loop-at.at log c.index-owns-at.result c.loop-at-test.true
    ∙ sym (ap owns_of here)

pub loop-at-preserved : goal.loop-at-preserved
loop-at-preserved c =
    let log : Log = c.index-logs-at.result in
    let here : c.as_slice.result.now ≡ (get_or c.args.logs.now c.loop-at.at log).lines = c.as_slice.ensures ∙ ap (λ (l : Log). l.lines) c.index-logs-at.is in
    let pushed : c.push.new.self.items ≡ c.loop-at.all.items ++ c.from_vec.result ∷ [] = search (rules, c.in_ok-push.ensures.items) in
    let last : map (named c.args.names.now) c.from_vec.result ≡ steps_of (get_or c.args.logs.now c.loop-at.at log).lines = ap (map (named c.args.names.now)) c.from_vec.ensures ∙ c.in_ok-steps.ensures.steps ∙ ap steps_of here in
    record {
      steps = ap (map (map (named c.args.names.now))) pushed
          ∙ map-append (map (named c.args.names.now)) c.loop-at.all.items (c.from_vec.result ∷ [])
          ∙ ap (λ (all : List (List Step)). all ++ map (named c.args.names.now) c.from_vec.result ∷ []) c.loop-at.invariant.steps
          ∙ ap (λ (steps : List Step). map steps_of (take c.loop-at.at (lines_of c.args.logs.now)) ++ steps ∷ []) last
          ∙ sym (mapped_more steps_of c.args.logs.now c.loop-at.at log c.loop-at-test.true);
      numbers = subst (All (All (IsNumbered (length c.args.names.now)))) (sym pushed) (All-push (All (IsNumbered (length c.args.names.now))) c.loop-at.all.items c.from_vec.result c.loop-at.invariant.numbers (subst (All (IsNumbered (length c.args.names.now))) (sym c.from_vec.ensures) c.in_ok-steps.ensures.numbers));
    }
