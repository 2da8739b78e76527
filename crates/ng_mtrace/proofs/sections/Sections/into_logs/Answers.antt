use Rattle.std.proofs.Common.{[], ◌∙◌}
use Rattle.ng_mtrace.proofs.SectionSteps.{at_end, only_done}
use Rattle.ng_mtrace.proofs.sections.Sections.into_logs.Goals as goal

pub returns-clause-logs : goal.returns-clause-logs
returns-clause-logs c =
    let s = c.args.self in
    let n = c.close.new.self in
    only_done n.done.items n.active n.entries.items n.pending c.close.ensures.closed ∙ c.close.ensures.logs [] ∙ at_end s.done.items s.active s.entries.items s.pending
