use Rattle.std.proofs.Common.{arith}
use Rattle.ng_plan.proofs.KnownLemmas.{known_more}
use Rattle.ng_plan.proofs.names.mention_all.Goals as goal

pub loop-line-preserved : goal.loop-line-preserved
loop-line-preserved c = record {
  known = known_more c.loop-line.names.items c.mention.new.names.items c.args.lines.now c.loop-line.line-index _ c.mention.ensures.kept c.loop-line.invariant.known c.loop-line-test.true c.in_ok-mention.ensures.known;
  few = omega (arith, c.mention.ensures.few, c.loop-line.invariant.few);
  kept = λ name held. c.mention.ensures.kept name (c.loop-line.invariant.kept name held);
}

pub returns-in_err-mention-clause-kept : goal.returns-in_err-mention-clause-kept
returns-in_err-mention-clause-kept c = λ name held. c.mention.ensures.kept name (c.loop-line.invariant.kept name held)
