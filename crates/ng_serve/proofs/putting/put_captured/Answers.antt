use Rattle.ng_serve.proofs.Puts.{may_put_freed, may_stock_avail, puts_captured, served_avail, slot_left}
use Rattle.ng_serve.proofs.putting.put_captured.Goals as goal

pub put_bits-requires-clause-may : goal.put_bits-requires-clause-may
put_bits-requires-clause-may g c = may_put_freed c.args.seat.now c.args.seat.now c.args.seat.now c.args.meta _ _ c.args.index c.requires.served c.requires.bare c.requires.captured

pub stock-requires : goal.stock-requires
stock-requires g c = record { may = (may_stock_avail c.args.seat.now _ c.args.seat.now c.args.meta _ _ c.args.index c.requires.served c.requires.bare c.requires.captured c.put_bits.ensures) }

pub put_slot-requires-clause-served : goal.put_slot-requires-clause-served
put_slot-requires-clause-served g c = served_avail _ _ _ c.args.meta _ _ c.args.index c.requires.served c.requires.bare c.requires.captured c.put_bits.ensures c.stock.ensures.none c.stock.ensures.stocked

pub put_slot-requires-clause-slot : goal.put_slot-requires-clause-slot
put_slot-requires-clause-slot g c = slot_left _ _ _ c.args.meta _ _ c.args.index c.requires.served c.requires.bare c.requires.captured c.put_bits.ensures c.stock.ensures.none c.stock.ensures.stocked

pub returns : goal.returns
returns g c = puts_captured _ _ _ c.args.meta _ _ c.args.index c.requires.served c.requires.bare c.requires.captured c.put_bits.ensures c.stock.ensures.none c.stock.ensures.stocked _ c.put_slot.ensures
