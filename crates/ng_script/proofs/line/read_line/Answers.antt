use Rattle.std.specs.Prelude.{IfOk, IfErr}
use Rattle.std.proofs.Common.{◌≡◌, true, [], sym, subst}
use Rattle.ng_script.specs.Faults.{is_bad}
use Rattle.ng_script.specs.Forms.{Form, short_form}
use Rattle.ng_script.specs.Lines.{IsTaken}
use Rattle.ng_script.specs.declared.line.LineFault.TheVariants.{Host}
use Rattle.ng_script.proofs.FormLemmas.{taken_blank, form_of-from, one_token, two_tokens, three_tokens, four_tokens, bad_if, bad_uses, taken_uses, short_use, then_token}
use Rattle.ng_script.proofs.line.read_line.Goals as goal

pub returns-in_default-clause-ok : goal.returns-in_default-clause-ok
returns-in_default-clause-ok c = taken_blank c.args.names.now _ (form_of-from c.args.line.now [] c.in_default.ensures.none)

pub returns-in_default-last_token-clause-err : goal.returns-in_default-last_token-clause-err
returns-in_default-last_token-clause-err c = λ _.
    bad_if c.args.names.now _ (one_token c.args.line.now c.in-Some.last.now (then_token c.in-Some.last.now c.in-Some.ensures.some c.in_default-last_token.ensures.none))

pub returns-in_default-short_command-clause-err : goal.returns-in_default-short_command-clause-err
returns-in_default-short_command-clause-err c = λ _.
    let last = c.in-Some.last.now in
    let second = c.in-Some-last_token.second.now in
    bad_uses c.args.names.now (short_form second last) _
    (two_tokens c.args.line.now last second (then_token last c.in-Some.ensures.some (then_token second c.in-Some-last_token.ensures.some c.in_default-last_token-2.ensures.none)))
    (short_use second last) c.in_default-short_command.ensures

pub returns-in_default-last_token-2-clause-ok : goal.returns-in_default-last_token-2-clause-ok
returns-in_default-last_token-2-clause-ok c =
    let last = c.in-Some.last.now in
    let second = c.in-Some-last_token.second.now in
    taken_uses c.args.names.now (short_form second last) _ c.in-Some-short_command.command
    (two_tokens c.args.line.now last second (then_token last c.in-Some.ensures.some (then_token second c.in-Some-last_token.ensures.some c.in_default-last_token-2.ensures.none)))
    (short_use second last) c.in-Some-short_command.ensures

pub returns-in-Some-last_token-3-clause-err : goal.returns-in-Some-last_token-3-clause-err
returns-in-Some-last_token-3-clause-err c = λ _.
    let last = c.in-Some.last.now in
    let second = c.in-Some-last_token.second.now in
    let first = c.in-Some-last_token-2.first.now in
    bad_if c.args.names.now _
    (four_tokens c.args.line.now last second first _ _ (then_token last c.in-Some.ensures.some (then_token second c.in-Some-last_token.ensures.some (then_token first c.in-Some-last_token-2.ensures.some c.in-Some-last_token-3.ensures.some))))

pub returns-clause-ok : goal.returns-clause-ok
returns-clause-ok c =
    let last = c.in-Some.last.now in
    let second = c.in-Some-last_token.second.now in
    let first = c.in-Some-last_token-2.first.now in
    subst (λ (form : Form). IfOk c.long_command.result (λ command. IsTaken c.args.names.now form c.long_command.new.names command))
    (sym (three_tokens c.args.line.now last second first (then_token last c.in-Some.ensures.some (then_token second c.in-Some-last_token.ensures.some (then_token first c.in-Some-last_token-2.ensures.some c.in_default-last_token-3.ensures.none)))))
    c.long_command.ensures.ok

pub returns-clause-err : goal.returns-clause-err
returns-clause-err c =
    let last = c.in-Some.last.now in
    let second = c.in-Some-last_token.second.now in
    let first = c.in-Some-last_token-2.first.now in
    subst (λ (form : Form). IfErr c.long_command.result (λ fault. (fault ≡ Host → ⊥) → is_bad c.args.names.now form ≡ true))
    (sym (three_tokens c.args.line.now last second first (then_token last c.in-Some.ensures.some (then_token second c.in-Some-last_token.ensures.some (then_token first c.in-Some-last_token-2.ensures.some c.in_default-last_token-3.ensures.none)))))
    c.long_command.ensures.err
