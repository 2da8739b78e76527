use Rattle.std.proofs.Common.{sym}
use Rattle.ng_mtrace.proofs.Parts.{is_without-none, is_without-before, text-round, parts_at-none, parts_at-cut}
use Rattle.ng_mtrace.proofs.text.cut_at.Goals as goal

pub returns-in_default-clause-none : goal.returns-in_default-clause-none
returns-in_default-clause-none c = parts_at-none c.args.cut c.args.text.now (sym c.in_default.ensures)

pub returns-in_default-clause-absent : goal.returns-in_default-clause-absent
returns-in_default-clause-absent c = is_without-none c.args.cut c.args.text.now (sym c.in_default.ensures)

pub returns-clause-some : goal.returns-clause-some
returns-clause-some c = parts_at-cut c.args.cut c.args.text.now c.in-Some.at (sym c.in-Some.ensures)

pub returns-clause-first : goal.returns-clause-first
returns-clause-first c = is_without-before c.args.cut c.args.text.now c.in-Some.at (sym c.in-Some.ensures)

pub returns-clause-whole : goal.returns-clause-whole
returns-clause-whole c = text-round c.args.cut c.args.text.now c.in-Some.at (sym c.in-Some.ensures)
