use Rattle.std.proofs.Common.{◌∙◌}
use Rattle.ng_mtrace.proofs.SectionSteps.{begun_from}
use Rattle.ng_mtrace.proofs.sections.Sections.begin.Goals as goal

pub returns-clause-logs : goal.returns-clause-logs
returns-clause-logs c = λ kinds.
    let s = c.close.new.self in
    let e = c.close.ensures in
    begun_from s.done.items s.active s.entries.items s.pending kinds e.closed (e.roomy.idle e.closed) e.pending ∙ e.start kinds
