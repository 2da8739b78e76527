use Rattle.ng_lists.proofs.rings.Rings.stand_once.Goals as goal
use Rattle.ng_lists.proofs.ShownLemmas.{all_apart, all_once, all_places, length_rings}

pub returns-clause-classes : goal.returns-clause-classes
returns-clause-classes c = length_rings c.self.invariant c.self.view_is

pub returns-clause-places : goal.returns-clause-places
returns-clause-places c = all_places c.self.invariant c.self.view_is

pub returns-clause-once : goal.returns-clause-once
returns-clause-once c = all_once c.self.invariant c.self.view_is

pub returns-clause-apart : goal.returns-clause-apart
returns-clause-apart c = all_apart c.self.invariant c.self.view_is
