use Rattle.ng_mtrace.specs.OpenSections.{count_of}
use Rattle.ng_mtrace.proofs.SectionSteps.{passed_at, not_start, still_open, no_fault, same_count}
use Rattle.ng_mtrace.proofs.sections.Sections.add.Goals as goal

pub returns-in_default-2-clause-logs : goal.returns-in_default-2-clause-logs
returns-in_default-2-clause-logs c = λ kinds.
    let s = c.args.self.now in
    passed_at s.done.items s.active s.entries.items s.pending c.args.kind kinds c.if-self.false (not_start c.args.kind c.in_default.not-Start)

pub returns-in_default-2-clause-inside : goal.returns-in_default-2-clause-inside
returns-in_default-2-clause-inside c = still_open c.args.self.now.active c.args.kind c.in_default.not-Start c.in_default.not-Stop

pub returns-in_default-2-clause-count : goal.returns-in_default-2-clause-count
returns-in_default-2-clause-count c = same_count (count_of c.args.self.now) c.args.kind (not_start c.args.kind c.in_default.not-Start)

pub returns-in_default-2-clause-fine : goal.returns-in_default-2-clause-fine
returns-in_default-2-clause-fine c = no_fault (count_of c.args.self.now) c.args.self.now.active c.args.kind c.if-self.false (not_start c.args.kind c.in_default.not-Start)
