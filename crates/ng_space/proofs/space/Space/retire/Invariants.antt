use Rattle.ng_view.specs.Groups.{Retires}
use Rattle.ng_space.proofs.space.Space.retire.Given as goal

abbrev pub ghosts-store_told : goal.ghosts-store_told
ghosts-store_told g a = record { told = λ before found after. Retires before a._meta after }
