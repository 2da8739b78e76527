use Rattle.std.proofs.Common.{◌≡◌, ◌++◌, [], if◌then◌else◌, arith}
use Rattle.ng_terms.specs.Reports.{call_lines}
use Rattle.ng_report.proofs.ReportLemmas.{reply_count-is, calls-shown, calls-hidden, report-is}
use Rattle.ng_report.proofs.report.render.Goals as goal
use Rattle.ng_report.proofs.report.render.Goals.{then-calls_shown, else-calls_shown}

pub count_replies-requires : goal.count_replies-requires
count_replies-requires c = omega (arith, reply_count-is c.args.plan.now.logs c.args.replies.now c.requires.answered, c.requires.ops)

pub returns-clause-items : goal.returns-clause-items
returns-clause-items c =
    let calls : c.if-calls_shown.text.items
    ≡ c.args.text.now.items ++ (if c.args.calls_shown then call_lines c.args.mode c.as_slice-logs.result.now c.args.replies.now else []) =
    elim c.if-calls_shown.branch [
      | then-calls_shown w ↦ calls-shown _ _ _ _ w.if-calls_shown.true (rw w.text-is w.put_calls.ensures.items)
      | else-calls_shown w ↦ calls-hidden _ (call_lines c.args.mode c.as_slice-logs.result.now c.args.replies.now) _ _ w.if-calls_shown.false (rw w.text-is)
    ] in
    report-is c.args.plan.now c.args.mode c.args.calls_shown c.args.replies.now c.args.pages c.count_replies.result
    c.as_slice-logs.result.now _ _ _ c.as_slice-logs.ensures c.requires.answered c.count_replies.ensures calls c.put_summary.ensures.items
