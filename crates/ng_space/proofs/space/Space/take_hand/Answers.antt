use Rattle.ng_rule.proofs.hand.Passing.{merge_hand}
use Rattle.ng_space.proofs.space.Space.take_hand.Goals as goal

pub take_in-requires-clause-allowed : goal.take_in-requires-clause-allowed
take_in-requires-clause-allowed g c = let is = c.hand.invariant in merge_hand _ _ c.requires.leads is.follows is.whole is.deskless
