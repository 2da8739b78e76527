use Rattle.ng_rule.proofs.hand.Open.{hands_out}
use Rattle.ng_space.proofs.space.Space.next_hand.Goals as goal

pub split_off-seat-requires-clause-allowed : goal.split_off-seat-requires-clause-allowed
split_off-seat-requires-clause-allowed g c = λ ws vs kept at. hands_out _ ws vs _ _ kept at c.requires.leads
