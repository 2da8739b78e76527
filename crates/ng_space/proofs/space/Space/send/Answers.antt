use Rattle.ng_space.proofs.Passed.{may_cut}
use Rattle.ng_space.proofs.space.Space.send.Goals as goal

pub split_off-requires-clause-allowed : goal.split_off-requires-clause-allowed
split_off-requires-clause-allowed g c = may_cut _ _ _ _ _ c.requires.cut
