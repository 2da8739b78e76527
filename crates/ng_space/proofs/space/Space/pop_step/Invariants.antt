use Rattle.ng_rule.proofs.hand.Moves.{Popping}
use Rattle.ng_space.proofs.space.Space.pop_step.Given as goal

abbrev pub ghosts-exchange_told : goal.ghosts-exchange_told
ghosts-exchange_told g a = record { told = Popping a._meta a.old a._index }
