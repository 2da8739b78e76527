use Rattle.ng_view.specs.Steps.{spent, hosting}
use Rattle.ng_space.proofs.space.Space.take_hand.Given as goal

abbrev pub ghosts-take_in : goal.ghosts-take_in
ghosts-take_in g a = record {
  both = hosting a.seat.now.me.0 a.other.me.0;
  left = spent;
  right = spent;
}
