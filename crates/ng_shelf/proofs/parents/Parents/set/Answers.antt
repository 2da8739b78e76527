use Rattle.ng_shelf.proofs.CarrierLemmas.{meta_low, set_here, set_others}
use Rattle.ng_shelf.proofs.parents.Parents.set.Goals as goal

pub index_of-child-requires-clause-low : goal.index_of-child-requires-clause-low
index_of-child-requires-clause-low c = meta_low c.self.invariant c.self.view_is c.requires.place

pub index_of-requires-clause-low : goal.index_of-requires-clause-low
index_of-requires-clause-low c = meta_low c.self.invariant c.self.view_is c.requires.parent

pub returns-clause-set : goal.returns-clause-set
returns-clause-set c =
    set_here c.self.invariant c.self.view_is c.requires.place c.index_of-child.ensures c.args.index c.requires.parent c.index_of.ensures

pub returns-clause-others : goal.returns-clause-others
returns-clause-others c =
    set_others c.self.invariant c.self.view_is c.requires.place c.index_of-child.ensures c.args.index c.requires.parent c.index_of.ensures
