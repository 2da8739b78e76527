use Rattle.std.proofs.Common.{◌≡◌, ℕ, ◌+◌, List, ◌++◌, ◌==◌, true, false, Some, refl, ap, ◌∙◌, sym, arith, rules}
use Rattle.std.proofs.lemmas.List.Elements.{All-nil}
use Rattle.ng_mtrace.specs.Faults.{is_beyond}
use Rattle.ng_mtrace.proofs.LineParts.{parts_of-joined}
use Rattle.ng_script.specs.Forms.{Form, form_of}
use Rattle.ng_script.specs.PartScript.{fault_at, faults_from, faults_left, script_left, script_with}
use Rattle.ng_script.specs.Scripts.{forms_of}
use Rattle.ng_script.specs.declared.line.LineFault.{LineFault}
use Rattle.ng_script.specs.declared.line.LineFault.TheVariants.{Bad, Host}
use Rattle.ng_script.proofs.PartLemmas.{beyond_fed, fed_forms, fine_fed, faulty_fed, script_fed, within-few, commands-grow, names-few, named-pushed, only_bad, other_cause}
use Rattle.ng_script.proofs.part_script.PartScript.end_line.Goals as goal

pub returns-then-is_beyond-clause-err : goal.returns-then-is_beyond-clause-err
unfolding faults_left
returns-then-is_beyond-clause-err c = λ real rest.
    let r = c.args.self.now in
    let part : List ℕ = c.args.part.now in
    let beyond : is_beyond (r.number + 1) (r.line.items ++ part) ≡ true = sym c.is_beyond.ensures ∙ c.if-is_beyond.true in
    ap (faults_from r.number r.names) (parts_of-joined r.line.items part rest c.requires.ready.unfed c.requires.unfed)
    ∙ beyond_fed r.number r.names (r.line.items ++ part) rest beyond

pub returns-in-Ok-add-clause-ready : goal.returns-in-Ok-add-clause-ready
returns-in-Ok-add-clause-ready c =
    let r = c.args.self.now in
    let part : List ℕ = c.args.part.now in
    let form : Form = form_of (r.line.items ++ part) in
    let ready = c.requires.ready in
    let within : is_beyond (r.number + 1) (r.line.items ++ part) ≡ false = sym c.is_beyond.ensures ∙ c.if-is_beyond.false in
    let taken = c.in-Ok.ensures.ok in
    record {
      few = within-few (r.number + 1) (r.line.items ++ part) within;
      room = omega (arith, c.last_line.ensures.capacity, ready.room);
      short = search rules;
      unfed = rw c.last_line.ensures.empty (All-nil (λ byte. (byte == 10) ≡ false));
      full = λ _. c.last_line.ensures.empty;
      commands = omega (arith, commands-grow r.commands.items c.add.new.commands.items c.in-Ok.command c.in-Ok-add.ensures, ready.commands);
      names = names-few r.names c.last_line.new.names form r.number taken.names ready.names;
      named = named-pushed r.names c.last_line.new.names form r.commands.items c.add.new.commands.items c.in-Ok.command taken.names taken.command_is c.in-Ok-add.ensures ready.named;
    }

pub returns-in-Ok-add-clause-faults : goal.returns-in-Ok-add-clause-faults
unfolding faults_left
returns-in-Ok-add-clause-faults c = λ rest.
    let r = c.args.self.now in
    let part : List ℕ = c.args.part.now in
    let within : is_beyond (r.number + 1) (r.line.items ++ part) ≡ false = sym c.is_beyond.ensures ∙ c.if-is_beyond.false in
    let taken = c.in-Ok.ensures.ok in
    fine_fed r.number (r.number + 1) r.names c.last_line.new.names (r.line.items ++ part) c.last_line.new.line.items rest c.last_line.ensures.empty refl taken.names within taken.fine
    ∙ ap (faults_from r.number r.names) (sym (parts_of-joined r.line.items part rest c.requires.ready.unfed c.requires.unfed))

pub returns-in-Ok-add-clause-script : goal.returns-in-Ok-add-clause-script
unfolding script_left
returns-in-Ok-add-clause-script c = λ rest.
    let r = c.args.self.now in
    let part : List ℕ = c.args.part.now in
    let fresh : List ℕ = c.last_line.new.line.items in
    let taken = c.in-Ok.ensures.ok in
    script_fed r.names c.last_line.new.names r.commands.items c.add.new.commands.items c.in-Ok.command (form_of (r.line.items ++ part)) (forms_of (fresh ++ rest)) taken.names taken.fine taken.command_is c.in-Ok-add.ensures
    ∙ ap (script_with r.names r.commands.items) (sym (fed_forms r.line.items part fresh rest c.last_line.ensures.empty c.requires.ready.unfed c.requires.unfed))

pub returns-in-Err-clause-err : goal.returns-in-Err-clause-err
unfolding faults_left
returns-in-Err-clause-err c = λ real rest.
    let r = c.args.self.now in
    let part : List ℕ = c.args.part.now in
    let why = c.in-Err.why in
    let within : is_beyond (r.number + 1) (r.line.items ++ part) ≡ false = sym c.is_beyond.ensures ∙ c.if-is_beyond.false in
    let bad : why ≡ Bad = only_bad (r.number + 1) why (λ host. real (c.fault_at.ensures ∙ host)) in
    let other : why ≡ Host → ⊥ = other_cause (r.number + 1) why (λ host. real (c.fault_at.ensures ∙ host)) in
    ap (faults_from r.number r.names) (parts_of-joined r.line.items part rest c.requires.ready.unfed c.requires.unfed)
    ∙ faulty_fed r.number r.names (r.line.items ++ part) rest within (c.in-Err.ensures.err other)
    ∙ ap (λ (cause : LineFault). Some (fault_at (r.number + 1) cause)) (sym bad)
    ∙ ap Some (sym c.fault_at.ensures)
