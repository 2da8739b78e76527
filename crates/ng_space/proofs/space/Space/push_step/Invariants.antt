use Rattle.ng_rule.proofs.hand.Moves.{Pushing}
use Rattle.ng_space.proofs.space.Space.push_step.Given as goal

abbrev pub ghosts-exchange_told : goal.ghosts-exchange_told
ghosts-exchange_told g a = record { told = Pushing a._meta a._index a.old }
