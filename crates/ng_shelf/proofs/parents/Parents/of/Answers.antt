use Rattle.std.proofs.Common.{Some, ap, sym, ◌∙◌}
use Rattle.ng_shelf.proofs.CarrierLemmas.{found_parent, meta_low}
use Rattle.ng_shelf.proofs.parents.Parents.of.Goals as goal

pub index_of-child-requires-clause-low : goal.index_of-child-requires-clause-low
index_of-child-requires-clause-low c = meta_low c.self.invariant c.self.view_is c.requires.place

pub returns : goal.returns
returns c =
    let found = found_parent c.self.invariant c.self.view_is c.requires.place c.index_of-child.ensures c.index.ensures c.index-2.ensures c.requires.set in
    found ∙ ap (λ address. Some (address, c.index-2.result.now)) (sym c.address_of.ensures) ∙ ap (λ slot. Some (c.address_of.result, slot)) (sym c.from.ensures)
