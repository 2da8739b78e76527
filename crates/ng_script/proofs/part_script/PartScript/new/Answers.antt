use Rattle.ng_script.specs.Faults.{first_fault}
use Rattle.ng_script.specs.PartScript.{faults_left, script_left}
use Rattle.ng_script.specs.Scripts.{script_of, forms_of}
use Rattle.ng_mtrace.specs.Text.{parts_of}
use Rattle.ng_script.proofs.PartLemmas.{faults_from-start, script_with-start}
use Rattle.ng_script.proofs.part_script.PartScript.new.Goals as goal

pub returns-clause-faults : goal.returns-clause-faults
unfolding faults_left first_fault
returns-clause-faults c = λ text. rw (c.in_ok-line.ensures.items) (rw (c.new.ensures) (faults_from-start (parts_of text)))

pub returns-clause-script : goal.returns-clause-script
unfolding script_left script_of
returns-clause-script c = λ text. rw (c.in_ok-line.ensures.items) (rw (c.new.ensures, c.new-2.ensures.items) (script_with-start (forms_of text)))
