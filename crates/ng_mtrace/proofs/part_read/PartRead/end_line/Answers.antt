use Rattle.std.proofs.Common.{◌≡◌, ℕ, ◌+◌, List, ◌∷◌, ◌++◌, true, false, map, None, Some, ap, ◌∙◌, sym, refl}
use Rattle.ng_mtrace.specs.Faults.{is_beyond, open_then}
use Rattle.ng_mtrace.specs.Kinds.{kind_of, is_start}
use Rattle.ng_mtrace.specs.OpenSections.{logs_after, count_of, kind_fault, one_if}
use Rattle.ng_mtrace.specs.PartRead.{faults_from, faults_left, logs_left}
use Rattle.ng_mtrace.specs.Sections.{whole_of}
use Rattle.ng_mtrace.specs.Text.{parts_of}
use Rattle.ng_mtrace.specs.declared.sections.KindFault.TheVariants.{Host}
use Rattle.ng_mtrace.proofs.LineParts.{parts_of-joined, beyond_fed, fed_kinds}
use Rattle.ng_mtrace.proofs.LineFaults.{fine_fed, faulty_fed, other_cause}
use Rattle.ng_mtrace.proofs.part_read.PartRead.end_line.Goals as goal

pub returns-then-is_beyond-clause-err : goal.returns-then-is_beyond-clause-err
unfolding faults_left
returns-then-is_beyond-clause-err c = λ real rest.
    let r = c.args.self.now in
    let part : List ℕ = c.args.part.now in
    let beyond : is_beyond (r.number + 1) (r.line.items ++ part) ≡ true = sym c.is_beyond.ensures ∙ c.if-is_beyond.true in
    ap (faults_from r.number (count_of r.sections) r.sections.active) (parts_of-joined r.line.items part rest c.requires.ready.unfed c.requires.unfed)
    ∙ beyond_fed r.number (count_of r.sections) r.sections.active (r.line.items ++ part) rest beyond

pub returns-in-Ok-clause-faults : goal.returns-in-Ok-clause-faults
unfolding faults_left
returns-in-Ok-clause-faults c = λ rest.
    let r = c.args.self.now in
    let n = c.add.new.self in
    let part : List ℕ = c.args.part.now in
    let line : List ℕ = r.line.items ++ part in
    let kind = c.last_kind-kind.ensures.kind in
    let within : is_beyond (r.number + 1) line ≡ false = sym c.is_beyond.ensures ∙ c.if-is_beyond.false in
    let count : count_of n ≡ count_of r.sections + one_if (is_start (kind_of line)) = rw kind at c.in-Ok.ensures.count in
    let inside : n.active ≡ open_then r.sections.active (kind_of line) = rw kind at c.in-Ok.ensures.inside in
    let fine : kind_fault (count_of r.sections) r.sections.active (kind_of line) ≡ None = rw kind at c.in-Ok.ensures.fine in
    fine_fed r.number (r.number + 1) (count_of r.sections) (count_of n) r.sections.active n.active line c.last_kind-kind.new.line.items rest c.last_kind-kind.ensures.empty refl count inside within fine
    ∙ ap (faults_from r.number (count_of r.sections) r.sections.active) (sym (parts_of-joined r.line.items part rest c.requires.ready.unfed c.requires.unfed))

pub returns-in-Ok-clause-logs : goal.returns-in-Ok-clause-logs
unfolding logs_left
returns-in-Ok-clause-logs c = λ rest.
    let r = c.args.self.now in
    let part : List ℕ = c.args.part.now in
    let line : List ℕ = r.line.items ++ part in
    let fresh : List ℕ = c.last_kind-kind.new.line.items in
    c.in-Ok.ensures.logs (map kind_of (whole_of (parts_of (fresh ++ rest))))
    ∙ ap (λ kind. logs_after r.sections (kind ∷ map kind_of (whole_of (parts_of (fresh ++ rest))))) c.last_kind-kind.ensures.kind
    ∙ ap (logs_after r.sections) (sym (fed_kinds line fresh rest c.last_kind-kind.ensures.empty))
    ∙ ap (λ parts. logs_after r.sections (map kind_of (whole_of parts))) (sym (parts_of-joined r.line.items part rest c.requires.ready.unfed c.requires.unfed))

pub returns-in-Err-clause-err : goal.returns-in-Err-clause-err
unfolding faults_left
returns-in-Err-clause-err c = λ real rest.
    let r = c.args.self.now in
    let part : List ℕ = c.args.part.now in
    let line : List ℕ = r.line.items ++ part in
    let why = c.in-Err.why in
    let within : is_beyond (r.number + 1) line ≡ false = sym c.is_beyond.ensures ∙ c.if-is_beyond.false in
    let other : why ≡ Host → ⊥ = other_cause (r.number + 1) why (λ host. real (c.fault_at.ensures ∙ host)) in
    let faulty : kind_fault (count_of r.sections) r.sections.active (kind_of line) ≡ Some why = rw c.last_kind-kind.ensures.kind at (c.in-Err.ensures.err other) in
    ap (faults_from r.number (count_of r.sections) r.sections.active) (parts_of-joined r.line.items part rest c.requires.ready.unfed c.requires.unfed)
    ∙ faulty_fed r.number (count_of r.sections) r.sections.active line rest why within faulty
    ∙ ap Some (sym c.fault_at.ensures)
