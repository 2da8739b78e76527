use Rattle.std.proofs.Common.{refl}
use Rattle.ng_mtrace.specs.OpenSections.{logs_with}
use Rattle.ng_mtrace.proofs.sections.Sections.new.Goals as goal

pub returns-clause-logs : goal.returns-clause-logs
unfolding logs_with
returns-clause-logs c = λ kinds. rw c.in_ok-done.ensures.items refl
