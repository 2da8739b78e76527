use Rattle.std.proofs.Common.{◌-◌}
use Rattle.ng_group.proofs.works.Works.+seat_return.Given as goal

abbrev pub decreases-seat_return : goal.decreases-seat_return
decreases-seat_return g l = 64 - l.group.now.class
