use Rattle.std.proofs.Common.{◌-◌}
use Rattle.ng_group.proofs.works.Works.+seat_slot.Given as goal

abbrev pub decreases-seat_slot : goal.decreases-seat_slot
decreases-seat_slot g l = 48 - l.class
