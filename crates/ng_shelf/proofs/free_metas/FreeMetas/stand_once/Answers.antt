use Rattle.ng_shelf.proofs.free_metas.FreeMetas.stand_once.Goals as goal
use Rattle.ng_shelf.proofs.ShownLemmas.{all_once, all_places}

pub returns-clause-places : goal.returns-clause-places
returns-clause-places c = all_places c.self.invariant c.self.view_is

pub returns-clause-once : goal.returns-clause-once
returns-clause-once c = all_once c.self.invariant c.self.view_is
