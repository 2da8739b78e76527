use Rattle.std.proofs.Common.{arith, rules}
use Rattle.ng_report.proofs.HexLemmas.{digits-begin, next-digit, whole-number, below-next, none-left}
use Rattle.ng_report.proofs.hex.hex_digits.Goals as goal

pub loop-step-init : goal.loop-step-init
loop-step-init c = record { so_far = digits-begin c.args.n c.args.buffer.now (search rules); some = λ h. absurd (omega arith); small = c.ranges.n.fits }

pub loop-step-preserved : goal.loop-step-preserved
loop-step-preserved c = record {
  so_far = next-digit _ _ _ _ _ (search rules) c.loop-step-test.true c.glyph.ensures c.if-rest-eq0.false c.loop-step.invariant.so_far;
  some = λ _. let more = c.if-rest-eq0.false in omega arith;
  small = below-next _ _ c.loop-step-test.true c.loop-step.invariant.small;
}

pub returns-then-rest-eq0-clause-digits : goal.returns-then-rest-eq0-clause-digits
returns-then-rest-eq0-clause-digits c = whole-number _ _ _ _ _ (search rules) c.loop-step-test.true c.glyph.ensures c.if-rest-eq0.true c.loop-step.invariant.so_far

pub unreachable-requires : goal.unreachable-requires
unreachable-requires c = none-left c.loop-step.step c.loop-step.rest c.loop-step-test.false c.loop-step.auto.step-end c.loop-step.invariant.small (c.loop-step.invariant.some (let h = c.loop-step-test.false in omega arith))
