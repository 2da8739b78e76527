use Rattle.std.proofs.Common.{◌≡◌, ℕ, ◌+◌, ◌<◌, List, ◌++◌, true, length, map, ap, ◌∙◌, sym, append_assoc}
use Rattle.ng_mtrace.specs.Faults.{is_beyond}
use Rattle.ng_mtrace.specs.Kinds.{kind_of}
use Rattle.ng_mtrace.specs.OpenSections.{logs_after, count_of}
use Rattle.ng_mtrace.specs.PartRead.{faults_from, faults_left, logs_left}
use Rattle.ng_mtrace.specs.Sections.{whole_of}
use Rattle.ng_mtrace.specs.Text.{parts_of}
use Rattle.ng_mtrace.proofs.Digits.{some_if}
use Rattle.ng_mtrace.proofs.LineParts.{beyond_kept}
use Rattle.ng_mtrace.proofs.part_read.PartRead.keep.Goals as goal

pub returns-then-is_beyond-clause-err : goal.returns-then-is_beyond-clause-err
unfolding faults_left
returns-then-is_beyond-clause-err c = λ rest.
    let r = c.args.self.now in
    let part : List ℕ = c.args.part.now in
    let some : 0 < length part = some_if (length part) (sym c.is_empty.ensures ∙ c.if-is_empty.false) in
    let beyond : is_beyond (r.number + 1) (r.line.items ++ part) ≡ true = sym c.is_beyond.ensures ∙ c.if-is_beyond.true in
    beyond_kept r.number (count_of r.sections) r.sections.active r.line.items part rest c.requires.ready.unfed c.requires.unfed some beyond

pub returns-clause-faults : goal.returns-clause-faults
unfolding faults_left
returns-clause-faults c = λ rest.
    let r = c.args.self.now in
    let grown : c.extend_from_slice.new.self.items ≡ r.line.items ++ c.args.part.now = rw c.unwrap.ensures at c.extend_from_slice.ensures.items in
    ap (λ text. faults_from r.number (count_of r.sections) r.sections.active (parts_of text)) (ap (λ line. line ++ rest) grown ∙ append_assoc r.line.items c.args.part.now rest)

pub returns-clause-logs : goal.returns-clause-logs
unfolding logs_left
returns-clause-logs c = λ rest.
    let r = c.args.self.now in
    let grown : c.extend_from_slice.new.self.items ≡ r.line.items ++ c.args.part.now = rw c.unwrap.ensures at c.extend_from_slice.ensures.items in
    ap (λ text. logs_after r.sections (map kind_of (whole_of (parts_of text)))) (ap (λ line. line ++ rest) grown ∙ append_assoc r.line.items c.args.part.now rest)
