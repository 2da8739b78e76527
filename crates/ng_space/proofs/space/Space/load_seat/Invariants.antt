use Rattle.ng_view.specs.Loads.{Loads, TellsGroups}
use Rattle.ng_space.specs.Placed.{AreOfGroups}
use Rattle.ng_space.proofs.space.Space.load_seat.Given as goal

abbrev pub ghosts-load_told : goal.ghosts-load_told
ghosts-load_told g a = record { told = λ before found after. Loads before a.addr found after × TellsGroups before a.addr found × AreOfGroups before }
