use Rattle.std.proofs.Common.{Some, ap, sym, ◌∙◌}
use Rattle.std.specs.List.{slice_get}
use Rattle.ng_shelf.proofs.ShownLemmas.{first_link, rest_shown, split_shown}
use Rattle.ng_shelf.proofs.TakeLemmas.{taken_queue}
use Rattle.ng_shelf.proofs.free_metas.FreeMetas.take.Goals as goal

pub invariant_of-self : goal.invariant_of-self
invariant_of-self c =
    let link = first_link c.self.invariant c.self.view_is c.index-next.ensures in
    rw link (taken_queue c.self.invariant (λ none. c.if-next-eq0.false (link ∙ none)))

pub returns-clause-first : goal.returns-clause-first
returns-clause-first c =
    ap Some c.address_of.ensures ∙ ap (λ xs. slice_get xs 0) (sym (split_shown c.self.invariant c.self.view_is c.index-next.ensures c.if-next-eq0.false))

pub returns-clause-rest : goal.returns-clause-rest
returns-clause-rest c = rest_shown c.self.invariant c.self.view_is c.index-next.ensures c.if-next-eq0.false
