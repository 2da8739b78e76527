use Rattle.ng_view.specs.Steps.{spent, taken_in}
use Rattle.ng_space.proofs.space.Space.join_parcel.Given as goal

-- the parcel's slot comes in
abbrev pub ghosts-take_in : goal.ghosts-take_in
ghosts-take_in g a = record {
  both = taken_in a.seat.now.me.0 a.other.me.0;
  left = spent;
  right = spent;
}
