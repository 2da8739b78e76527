use Rattle.std.proofs.Common.{◌≡◌, ◌<◌, ◌≤◌, ◌-◌, ◌/◌, List, Some, None, length, get_or, sym, ap, ◌∙◌, subst, ⊎_elim, arith}
use Rattle.std.proofs.Math.ListN.{set}
use Rattle.std.proofs.lemmas.Bool.{cases_lt}
use Rattle.std.specs.Prelude.{swap_remove}
use Rattle.ng_space.specs.Blocks.{BlockToken}
use Rattle.ng_drill.specs.Desks.{IsIndexed}
use Rattle.ng_drill.proofs.IndexLemmas.{indexed_with_last, indexed_without_last, length-swap_remove}
use Rattle.ng_drill.proofs.desk.Desk.forget.Goals as goal

pub returns-in-Some-clause-index : goal.returns-in-Some-clause-index
returns-in-Some-clause-index g c = λ before d here held index.
    let now : c.deref.result.now ≡ swap_remove before c.args.place d = c.deref.ensures.value ∙ held in
    let there = c.in-Some.ensures.lookup.3.0 in
    let long = length-swap_remove before c.args.place d in
    let same = ap (λ (xs : List BlockToken). length xs) now in
    let last : c.args.place < length before - 1 = omega (arith, there, long, same) in
    subst (λ (xs : List BlockToken). IsIndexed xs (set (set c.args.self.now.places.items (c.args.at / 16) None) (c.at.result / 16) (Some c.args.place))) (sym held)
    (indexed_with_last before c.args.self.now.places.items c.args.at c.args.place d index here (c.at.result / 16) last
    (λ e. ap (λ (xs : List BlockToken). (get_or xs c.args.place e).at / 16) (sym now) ∙ ap (λ (b : BlockToken). b.at / 16) (sym (c.in-Some.ensures.lookup.3.1 e)) ∙ ap (λ a. a / 16) (sym c.at.ensures.at)))

pub returns-in_default-clause-index : goal.returns-in_default-clause-index
returns-in_default-clause-index g c = λ before d here held index.
    let now : c.deref.result.now ≡ swap_remove before c.args.place d = c.deref.ensures.value ∙ held in
    let long = length-swap_remove before c.args.place d in
    let same = ap (λ (xs : List BlockToken). length xs) now in
    let out : length c.deref.result.now ≤ c.args.place = ⊎_elim (λ (lt : c.args.place < length c.deref.result.now). let no = c.in_default.ensures.lookup.2 lt in absurd (cc)) (λ le. le)
    (cases_lt c.args.place (length c.deref.result.now)) in
    let within = here.0 in
    subst (λ (xs : List BlockToken). IsIndexed xs (set c.args.self.now.places.items (c.args.at / 16) None)) (sym held)
    (indexed_without_last before c.args.self.now.places.items c.args.at c.args.place d index here (omega (arith, out, long, same, within)))
