use Rattle.std.proofs.Common.{◌≡◌, ◌≤◌, ◌+◌, ◌*◌, ◌∙◌, ap, arith, get_or, length, subst, take, vec_len}
use Rattle.std.specs.Prelude.{All, sum_by}
use Rattle.ng_mtrace.specs.declared.log.Log.{Log}
use Rattle.ng_plan.specs.Plans.{lines_of}
use Rattle.ng_plan.specs.Tables.{IsKnown}
use Rattle.ng_plan.proofs.LogLemmas.{lines_more, logs_known}
use Rattle.ng_plan.proofs.planning.names_of.Goals as goal

pub loop-log-preserved : goal.loop-log-preserved
loop-log-preserved c =
    let log : Log = c.log-item.result in
    let here : c.as_slice.result.now ≡ (get_or c.args.logs.now c.loop-log.log-index log).lines = c.as_slice.ensures ∙ ap (λ (l : Log). l.lines) c.log-item.is in
    let more : vec_len c.mention_all.new.names ≤ vec_len c.loop-log.names + 2 * length c.as_slice.result.now = c.mention_all.ensures.few in
    let so_far : vec_len c.loop-log.names ≤ 2 * sum_by length (take c.loop-log.log-index (lines_of c.args.logs.now)) = c.loop-log.invariant.few in
    let long : length c.as_slice.result.now ≡ length (get_or c.args.logs.now c.loop-log.log-index log).lines = ap length here in
    record {
      known = logs_known c.loop-log.names.items c.mention_all.new.names.items c.args.logs.now c.loop-log.log-index log c.mention_all.ensures.kept c.loop-log.invariant.known c.loop-log-test.true (subst (All (IsKnown c.mention_all.new.names.items)) here c.in_ok-mention_all.ensures.known);
      few = rw (lines_more c.args.logs.now c.loop-log.log-index log c.loop-log-test.true) (omega arith);
    }
