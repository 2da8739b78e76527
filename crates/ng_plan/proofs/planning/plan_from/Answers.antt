use Rattle.std.proofs.Common.{◌≡◌, ◌≤◌, ◌∙◌, List, ap, length, map, take}
use Rattle.std.proofs.lemmas.List.{take_all}
use Rattle.ng_plan.specs.declared.step.Place.{Place}
use Rattle.ng_plan.specs.Plans.{lines_of}
use Rattle.ng_plan.proofs.LogLemmas.{plan_is, receivers_are}
use Rattle.ng_plan.proofs.planning.plan_from.Goals as goal

pub returns : goal.returns
returns c = λ names turns are.
    let takers : List Place = c.deref-taker-items.result.now in
    let end : length takers ≤ c.loop-taker.taker-index = c.loop-taker-test.false in
    let whole : take c.loop-taker.taker-index takers ≡ takers = take_all c.loop-taker.taker-index takers end in
    plan_is turns (lines_of c.args.logs.now) c.in_ok-ops.ops c.from_vec.result c.from_vec-2.result (c.in_ok-ops.ensures names turns are)
    (c.from_vec.ensures ∙ c.into_order.ensures ∙ are.order)
    (c.from_vec-2.ensures ∙ c.loop-taker.invariant ∙ ap (map (λ (place : Place). place.log)) whole ∙ receivers_are turns takers (c.deref-taker-items.ensures.value ∙ are.takers))
