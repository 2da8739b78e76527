use Rattle.ng_serve.proofs.Puts.{may_put_slot, puts_slot}
use Rattle.ng_serve.proofs.putting.put_slot.Goals as goal

pub put_bits-requires-clause-may : goal.put_bits-requires-clause-may
put_bits-requires-clause-may g c = λ some. may_put_slot _ c.args.meta c.args.index c.requires.served c.requires.slot

pub returns : goal.returns
returns g c = puts_slot _ _ c.args.meta c.args.index c.requires.slot c.put_bits.ensures
