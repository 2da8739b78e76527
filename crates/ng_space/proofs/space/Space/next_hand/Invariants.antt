use Rattle.ng_view.specs.Steps.{spent, next_hand, fresh_hand}
use Rattle.ng_space.proofs.space.Space.next_hand.Given as goal

abbrev pub ghosts-split_off : goal.ghosts-split_off
ghosts-split_off g a = record {
  both = spent;
  left = next_hand a.seat.now.me.0;
  right = fresh_hand a.seat.now.me.0.desk.next;
}
