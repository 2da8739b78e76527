use Rattle.std.proofs.Common.{Some, true, sym, ap, refl, ◌∙◌}
use Rattle.std.proofs.lemmas.Bool.{both_ways}
use Rattle.std.specs.List.{slice_get}
use Rattle.ng_lists.proofs.rings.Rings.first.Goals as goal
use Rattle.ng_lists.proofs.ReadLemmas.{found_first, found_none, not_empty}

pub returns-then-from-class-clause-first : goal.returns-then-from-class-clause-first
returns-then-from-class-clause-first c =
    ap Some c.address_of.ensures ∙ sym (found_first c.self.invariant c.self.view_is c.requires.class c.index-head.ensures c.index.ensures (sym c.from.ensures ∙ c.if-from-class.true))

pub returns-then-from-class-clause-none : goal.returns-then-from-class-clause-none
returns-then-from-class-clause-none c =
    let first = found_first c.self.invariant c.self.view_is c.requires.class c.index-head.ensures c.index.ensures (sym c.from.ensures ∙ c.if-from-class.true) in
    (λ never. absurd (both_ways true never refl), λ empty. absurd (not_empty _ _ first empty))

pub returns-else-from-class-clause-first : goal.returns-else-from-class-clause-first
returns-else-from-class-clause-first c =
    ap (λ xs. slice_get xs 0) (sym (found_none c.self.invariant c.self.view_is c.requires.class c.index-head.ensures c.index.ensures (λ same. c.if-from-class.false (c.from.ensures ∙ same))))

pub returns-else-from-class-clause-none : goal.returns-else-from-class-clause-none
returns-else-from-class-clause-none c =
    (λ _. found_none c.self.invariant c.self.view_is c.requires.class c.index-head.ensures c.index.ensures (λ same. c.if-from-class.false (c.from.ensures ∙ same)), λ _. refl)
