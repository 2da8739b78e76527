use Rattle.std.proofs.Common.{arith}
use Rattle.ng_mtrace.proofs.Digits.{digits_at}
use Rattle.ng_mtrace.proofs.number.digit.Goals as goal

pub returns-then-value-lt16-clause-value : goal.returns-then-value-lt16-clause-value
returns-then-value-lt16-clause-value c = omega (arith, digits_at c.args.byte c.from.result c.ranges.byte.fits c.from.ensures)

pub returns-else-value-lt16-clause-value : goal.returns-else-value-lt16-clause-value
returns-else-value-lt16-clause-value c = omega (arith, digits_at c.args.byte c.from.result c.ranges.byte.fits c.from.ensures)
