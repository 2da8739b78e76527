use Rattle.std.proofs.Common.{arith, ◌≡◌, ◌≤◌, ⊎_elim, inl, subst}
use Rattle.std.proofs.lemmas.Bool.{both_ways, cases_lt}
use Rattle.ng_shelf.specs.Shape.{IsStop}
use Rattle.ng_shelf.proofs.ShapeLemmas.{raised_unique}
use Rattle.ng_shelf.proofs.shape.raised.Goals as goal

pub loop-index-preserved : goal.loop-index-preserved
loop-index-preserved c =
    let here : ¬ IsStop c.args.class c.args.last c.loop-index.index = λ stop. ⊎_elim
    (λ (last : c.loop-index.index ≡ c.args.last). omega arith)
    (λ crosses. both_ways c.crosses_pages.result c.if-not-crosses_pages.true (c.crosses_pages.ensures.1 crosses))
    stop in
    record {
      above = omega (arith, c.loop-index.invariant.above);
      within = omega arith;
      least = λ lower above below. ⊎_elim
          (λ further. c.loop-index.invariant.least lower above further)
          (λ (rest : c.loop-index.index ≤ lower). let same : c.loop-index.index ≡ lower = omega arith in subst (λ k. ¬ IsStop c.args.class c.args.last k) same here)
          (cases_lt lower c.loop-index.index);
    }

pub returns-after-loop-index-clause-only : goal.returns-after-loop-index-clause-only
returns-after-loop-index-clause-only c =
    let same : c.loop-index.index ≡ c.args.last = omega (arith, c.loop-index.invariant.within) in
    raised_unique
    c.args.class
    c.args.active
    c.args.last
    c.loop-index.index
    (record { above = c.loop-index.invariant.above; stop = inl same; least = c.loop-index.invariant.least })
