use Rattle.ng_mask.proofs.PopCounts.{has_popped}
use Rattle.ng_mask.proofs.tests.finds_none.Goals as goal

pub returns-clause-hand : goal.returns-clause-hand
returns-clause-hand g c = has_popped _ _ _ _ _ c.pop.ensures.number c.pop.ensures.cause
