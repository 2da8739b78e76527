use Rattle.ng_serve.proofs.Puts.{puts_bits, puts_none, some_bits}
use Rattle.ng_serve.proofs.putting.put_bits.Goals as goal

pub push_parent-requires : goal.push_parent-requires
push_parent-requires g c = record { slots = (c.requires.may (some_bits c.args.bits c.if-bits-ne0.true)) }

pub returns-then-bits-ne0 : goal.returns-then-bits-ne0
returns-then-bits-ne0 g c = puts_bits _ _ c.args.meta c.args.bits _ c.if-bits-ne0.true c.push_parent.ensures

pub returns-else-bits-ne0 : goal.returns-else-bits-ne0
returns-else-bits-ne0 g c = puts_none _ c.args.meta c.args.bits c.if-bits-ne0.false
