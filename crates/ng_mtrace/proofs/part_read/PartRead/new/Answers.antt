use Rattle.std.proofs.Common.{[], map}
use Rattle.ng_mtrace.specs.Faults.{first_fault}
use Rattle.ng_mtrace.specs.Kinds.{kind_of}
use Rattle.ng_mtrace.specs.PartRead.{faults_left, logs_left}
use Rattle.ng_mtrace.specs.Sections.{whole_of, logs_of}
use Rattle.ng_mtrace.specs.Text.{parts_of}
use Rattle.ng_mtrace.proofs.LineFaults.{faults_from-behind}
use Rattle.ng_mtrace.proofs.part_read.PartRead.new.Goals as goal

pub returns-clause-faults : goal.returns-clause-faults
unfolding faults_left first_fault
returns-clause-faults c = λ text.
    let e = c.in_ok-sections.ensures in
    rw (c.in_ok-line.ensures.items) (rw (e.none) (rw (e.closed) (faults_from-behind [] (parts_of text))))

pub returns-clause-logs : goal.returns-clause-logs
unfolding logs_left logs_of
returns-clause-logs c = λ text.
    rw (c.in_ok-line.ensures.items) (c.in_ok-sections.ensures.logs (map kind_of (whole_of (parts_of text))))
