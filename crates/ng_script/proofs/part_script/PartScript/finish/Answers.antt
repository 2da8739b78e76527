use Rattle.std.proofs.Common.{◌≡◌, [], length, ap, ◌∙◌, sym}
use Rattle.ng_script.specs.PartScript.{script_left, script_with, IsReady}
use Rattle.ng_script.specs.declared.part_script.PartScript.{PartScript}
use Rattle.ng_script.specs.declared.script.Script.{Script}
use Rattle.ng_script.proofs.PartLemmas.{ended_forms, script_with-nil}
use Rattle.ng_script.proofs.ReadLemmas.{faults_left-nil}
use Rattle.ng_script.proofs.part_script.PartScript.finish.Goals as goal

script_is : (r : PartScript) → IsReady r → ◌≡◌ {A = Script} (script_left r []) (record { commands = r.commands.items; names = length r.names })
unfolding script_left
script_is r ready = ap (λ forms. script_with r.names r.commands.items forms) (ended_forms r.line.items ready.unfed) ∙ script_with-nil r.names r.commands.items

pub returns-clause-faultless : goal.returns-clause-faultless
returns-clause-faultless c = faults_left-nil c.args.self c.requires

pub returns-clause-script : goal.returns-clause-script
returns-clause-script c = rw (c.from_vec.ensures, c.len.ensures) (sym (script_is c.args.self c.requires))
