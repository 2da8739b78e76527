use Rattle.ng_view.specs.Lists.{find}
use Rattle.ng_view.specs.Steps.{hosting, pushed}
use Rattle.ng_space.specs.Passed.{with_slot}
use Rattle.ng_space.proofs.space.Space.slot_to_hand.Given as goal

-- the slot goes out with the hand
abbrev pub ghosts-pass_slot : goal.ghosts-pass_slot
ghosts-pass_slot g a = record {
  both = hosting a.lock.now.me.0 a.own.now.me.0;
  left = pushed a.lock.now.me.0 a._meta a._index;
  right = with_slot a.own.now.me.0 (find a._meta a._index a.lock.now.me.0.held);
}
