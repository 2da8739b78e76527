use Rattle.std.proofs.Common.{arith}
use Rattle.ng_serve.proofs.Looks.{freed_fits, reads_masks}
use Rattle.ng_serve.proofs.choosing.freed_mask.Goals as goal

pub overflow_cast-result : goal.overflow_cast-result
overflow_cast-result g c =
    let small = freed_fits _ _ c.load_seat-2.new.seat c.args.meta _ _ c.requires.live c.load_seat.ensures.view c.load_seat.ensures.told c.load_seat-2.ensures.view c.load_seat-2.ensures.told in
    omega arith

pub returns : goal.returns
returns g c = reads_masks _ _ _ c.args.meta _ _ c.requires.live c.load_seat.ensures.view c.load_seat.ensures.told c.load_seat-2.ensures.view c.load_seat-2.ensures.told c.requires.bare
