use Rattle.ng_view.specs.Steps.{spent}
use Rattle.ng_space.proofs.space.Space.pass_slot.Given as goal

-- an empty seat is split off
abbrev pub ghosts-split_off : goal.ghosts-split_off
ghosts-split_off g a = record { both = spent; left = a.seat.now.me.0; right = spent }
