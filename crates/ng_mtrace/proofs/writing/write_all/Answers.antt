use Rattle.std.proofs.Common.{arith}
use Rattle.ng_mtrace.proofs.StreamLemmas.{added-next}
use Rattle.ng_mtrace.proofs.writing.write_all.Goals as goal

pub loop-at-preserved : goal.loop-at-preserved
loop-at-preserved g c = record {
  within = omega (arith, c.in_ok-count.ensures.within);
  written = added-next _ _ _ c.args.bytes.now c.loop-at.at c.in_ok-count.count c.loop-at.invariant.written c.in_ok-count.ensures.bytes;
  later = omega (arith, c.in_ok-count.ensures.cause.later);
}
