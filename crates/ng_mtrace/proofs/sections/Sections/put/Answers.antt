use Rattle.std.proofs.Common.{◌∙◌, ◌++◌, sym, ap}
use Rattle.std.proofs.lemmas.List.{append-nil}
use Rattle.ng_mtrace.proofs.SectionSteps.{added_to}
use Rattle.ng_mtrace.proofs.sections.Sections.put.Goals as goal

pub returns-in_default-next_line-clause-logs : goal.returns-in_default-next_line-clause-logs
returns-in_default-next_line-clause-logs c = λ kinds.
    let s = c.args.self.now in
    added_to s.done.items s.active s.entries.items s.entries.items s.pending c.next_line.new.pending c.args.kind kinds c.requires.inside c.requires.inner
    (sym (ap (λ more. s.entries.items ++ more) (sym c.in_default-next_line.ensures.given) ∙ append-nil s.entries.items))
    c.next_line.ensures.pending

pub returns-in-Ok-clause-logs : goal.returns-in-Ok-clause-logs
returns-in-Ok-clause-logs c = λ kinds.
    let s = c.args.self.now in
    added_to s.done.items s.active s.entries.items c.push.new.self.items s.pending c.next_line.new.pending c.args.kind kinds c.requires.inside c.requires.inner
    (c.in-Ok.ensures.items ∙ ap (λ more. s.entries.items ++ more) c.in-Some.ensures.given)
    c.next_line.ensures.pending
