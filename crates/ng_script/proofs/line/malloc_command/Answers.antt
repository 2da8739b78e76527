use Rattle.std.proofs.Common.{sym, ◌∙◌}
use Rattle.ng_script.proofs.FormLemmas.{taken_malloc, malloc_form-is}
use Rattle.ng_script.proofs.line.malloc_command.Goals as goal

pub returns-in-Ok-clause-ok : goal.returns-in-Ok-clause-ok
returns-in-Ok-clause-ok c =
    taken_malloc c.args.names.now c.enter.new.self _ c.args.name.now c.in-Some.size c.in-Ok.name
    (malloc_form-is c.args.name.now c.args.size.now c.in-Some.size (sym c.is_name.ensures ∙ c.if-not-is_name.false) (sym c.in-Some.ensures)) c.in-Ok.ensures.names c.in-Ok.ensures.number
