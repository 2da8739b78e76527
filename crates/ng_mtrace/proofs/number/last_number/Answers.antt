use Rattle.std.proofs.Common.{arith}
use Rattle.ng_mtrace.proofs.DigitsFromEnd.{EndsInNumber-of}
use Rattle.ng_mtrace.proofs.number.last_number.Goals as goal

pub returns : goal.returns
returns c =
    let read = c.last_digits-start.ensures in
    EndsInNumber-of c.last_digits-start.result.0 c.args.text.now c.in_ok-before.before.now c.last_digits-start.result.1 read (omega (arith, read.within)) c.in_ok-before.ensures
