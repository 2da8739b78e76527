use Rattle.std.proofs.Common.{sym, ◌∙◌}
use Rattle.ng_script.specs.Forms.{write_form}
use Rattle.ng_script.proofs.FormLemmas.{bad_uses, taken_uses, write_use, long_form-w}
use Rattle.ng_script.proofs.line.long_command.Goals as goal

pub returns-in_default-clause-err : goal.returns-in_default-clause-err
returns-in_default-clause-err c = λ _.
    bad_uses c.args.names.now (write_form c.args.place.now c.args.number.now) _
    (long_form-w c.args.word.now c.args.place.now c.args.number.now (sym c.is_word.ensures.value ∙ c.if-is_word.false) (sym c.is_word-2.ensures.value ∙ c.if-is_word-2.true))
    (write_use c.args.place.now c.args.number.now) c.in_default.ensures

pub returns-then-is_word-2-clause-ok : goal.returns-then-is_word-2-clause-ok
returns-then-is_word-2-clause-ok c =
    taken_uses c.args.names.now (write_form c.args.place.now c.args.number.now) _ c.in-Some.command
    (long_form-w c.args.word.now c.args.place.now c.args.number.now (sym c.is_word.ensures.value ∙ c.if-is_word.false) (sym c.is_word-2.ensures.value ∙ c.if-is_word-2.true))
    (write_use c.args.place.now c.args.number.now) c.in-Some.ensures
