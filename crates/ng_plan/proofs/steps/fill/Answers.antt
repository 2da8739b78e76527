use Rattle.std.proofs.Common.{◌≡◌, ◌+◌, ◌-◌, ◌<◌, ◌≤◌, ◌∙◌, ℕ, List, [], Option, None, get_or, ap, arith, length, take, drop}
use Rattle.std.proofs.lemmas.List.Elements.{All-set}
use Rattle.std.proofs.lemmas.List.{drop_more}
use Rattle.ng_mtrace.specs.declared.log.Line.TheVariants.{Make}
use Rattle.ng_plan.specs.Tables.{AreEnding, IsNumbered}
use Rattle.ng_plan.proofs.StepLemmas.{length-owns, own_at, told_back}
use Rattle.ng_plan.proofs.steps.fill.Goals as goal

pub bounds-owns-rest : goal.bounds-owns-rest
bounds-owns-rest c =
    let long : length c.args.owns.now ≡ length c.args.lines.now = ap length c.requires.owns ∙ length-owns _ c.args.lines.now in
    let within : c.loop-rest.rest ≤ length c.args.lines.now = c.loop-rest.invariant.within in
    omega arith

pub loop-rest-preserved : goal.loop-rest-preserved
loop-rest-preserved c =
    let at : ℕ = c.loop-rest.rest - 1 in
    let next : at + 1 ≡ c.loop-rest.rest = omega arith in
    let within : at < length c.args.lines.now = omega (arith, c.loop-rest.invariant.within) in
    let inside : at < length c.loop-rest.steps = omega (arith, c.loop-rest.auto.steps, c.requires.long) in
    let ending : AreEnding c.args.names.now c.loop-rest.ending (drop (at + 1) c.args.lines.now) = rw next c.loop-rest.invariant.ending in
    record {
      within = omega arith;
      told = told_back c.args.names.now c.args.lines.now c.loop-rest.steps at c.back_step.result within inside (c.back_step.ensures.step (take at c.args.lines.now) (drop (at + 1) c.args.lines.now) ending (ap (λ (os : List (Option ℕ)). get_or os at None) c.requires.owns ∙ own_at [] c.args.lines.now at within)) (rw next c.loop-rest.invariant.told);
      numbers = All-set (IsNumbered (length c.args.names.now)) c.loop-rest.steps at c.back_step.result c.back_step.ensures.numbers c.loop-rest.invariant.numbers;
      ending = rw (drop_more c.args.lines.now at (Make 0 0) within) (c.back_step.ensures.ending (drop (at + 1) c.args.lines.now) ending);
    }
