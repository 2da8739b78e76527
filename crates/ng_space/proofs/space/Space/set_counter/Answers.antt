use Rattle.std.proofs.Common.{arith}
use Rattle.ng_rule.proofs.lock.LockNotes.{counter_may}
use Rattle.ng_space.proofs.Annotated.{counter_stays}
use Rattle.ng_space.proofs.space.Space.set_counter.Goals as goal

pub store_told-requires-clause-may : goal.store_told-requires-clause-may
store_told-requires-clause-may g c =
    counter_may _ _ _ c.seat.invariant.leads c.from.result (let same = c.from.ensures in let f = c.ranges.value.fits in omega arith)

pub invariant_of-seat : goal.invariant_of-seat
invariant_of-seat g c = counter_stays _ _ _ _ _ c.seat.invariant c.store_told.ensures.table c.store_told.ensures.slots c.from.result c.store_told.ensures.told
