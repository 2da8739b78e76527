use Rattle.std.proofs.Common.{◌≡◌, ℕ, ◌+◌, ◌<◌, List, ◌++◌, true, length, ap, ◌∙◌, sym, append_assoc}
use Rattle.ng_mtrace.specs.Faults.{is_beyond}
use Rattle.ng_mtrace.specs.Text.{parts_of}
use Rattle.ng_script.specs.PartScript.{faults_from, faults_left, script_left, script_with}
use Rattle.ng_script.specs.Scripts.{forms_of}
use Rattle.ng_mtrace.proofs.Digits.{some_if}
use Rattle.ng_script.proofs.PartLemmas.{beyond_kept}
use Rattle.ng_script.proofs.part_script.PartScript.keep.Goals as goal

pub returns-then-is_beyond-clause-err : goal.returns-then-is_beyond-clause-err
unfolding faults_left
returns-then-is_beyond-clause-err c = λ rest.
    let r = c.args.self.now in
    let part : List ℕ = c.args.part.now in
    let some : 0 < length part = some_if (length part) (sym c.is_empty.ensures ∙ c.if-is_empty.false) in
    let beyond : is_beyond (r.number + 1) (r.line.items ++ part) ≡ true = sym c.is_beyond.ensures ∙ c.if-is_beyond.true in
    beyond_kept r.number r.names r.line.items part rest c.requires.ready.unfed c.requires.unfed some beyond

pub returns-clause-faults : goal.returns-clause-faults
unfolding faults_left
returns-clause-faults c = λ rest.
    let r = c.args.self.now in
    let grown : c.extend_from_slice.new.self.items ≡ r.line.items ++ c.args.part.now = rw c.unwrap.ensures at c.extend_from_slice.ensures.items in
    ap (λ text. faults_from r.number r.names (parts_of text)) (ap (λ line. line ++ rest) grown ∙ append_assoc r.line.items c.args.part.now rest)

pub returns-clause-script : goal.returns-clause-script
unfolding script_left
returns-clause-script c = λ rest.
    let r = c.args.self.now in
    let grown : c.extend_from_slice.new.self.items ≡ r.line.items ++ c.args.part.now = rw c.unwrap.ensures at c.extend_from_slice.ensures.items in
    ap (λ text. script_with r.names r.commands.items (forms_of text)) (ap (λ line. line ++ rest) grown ∙ append_assoc r.line.items c.args.part.now rest)
