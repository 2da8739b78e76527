use Rattle.ng_view.specs.Fetches.{EmptiesAvail}
use Rattle.ng_space.proofs.space.Space.empty_avail.Given as goal

abbrev pub ghosts-and_told : goal.ghosts-and_told
ghosts-and_told g a = record { told = λ before found after. EmptiesAvail before a._meta found after }
