use Rattle.std.proofs.Common.{ap, arith}
use Rattle.ng_space.specs.Tokens.{Token}
use Rattle.ng_space.proofs.slot.Slot.header.Goals as goal

pub overflow_cast-offset : goal.overflow_cast-offset
overflow_cast-offset g c =
    let below = c.self.invariant.below in let pages = c.self.invariant.addressed in
    let end = ap (λ (slot : Token). slot.end) c.self.view_is in let within = c.requires.within in record { fits = omega arith }
