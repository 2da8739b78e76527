use Rattle.ng_view.specs.Lists.{find}
use Rattle.ng_view.specs.Steps.{spent, split_off}
use Rattle.ng_space.specs.Parcels.{sent_with}
use Rattle.ng_space.proofs.space.Space.split_parcel.Given as goal

-- the slot of that meta and index goes off
abbrev pub ghosts-send : goal.ghosts-send
ghosts-send g a = record {
  both = spent;
  left = split_off a.seat.now.me.0 a._meta a._index;
  right = sent_with (find a._meta a._index a.seat.now.me.0.held);
}
