use Rattle.std.proofs.Common.{◌∙◌, []}
use Rattle.std.proofs.lemmas.List.{get_or_read}
use Rattle.ng_plan.proofs.FitLemmas.{still_fits}
use Rattle.ng_plan.proofs.RoundLemmas.{round_step}
use Rattle.ng_plan.proofs.rounds.round.Goals as goal

pub loop-log-preserved : goal.loop-log-preserved
loop-log-preserved c = record {
  fits = still_fits c.loop-log.schedule c.turn.new.self c.args.logs.now c.in_ok-turn.ensures.logs c.in_ok-turn.ensures.queues c.loop-log.invariant.fits;
  turns = λ names turns are.
      rw (round_step names c.args.logs.now c.loop-log.log turns c.as_slice.result.now c.loop-log-test.true (c.as_slice.ensures ∙ get_or_read c.args.logs.now c.loop-log.log c.index-logs-log.result c.loop-log-test.true c.index-logs-log.is []))
      (c.in_ok-turn.ensures.turns names _ (c.loop-log.invariant.turns names turns are));
}
