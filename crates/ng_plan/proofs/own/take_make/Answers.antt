use Rattle.std.proofs.Common.{sym}
use Rattle.ng_plan.proofs.TableLemmas.{makes_at}
use Rattle.ng_plan.proofs.own.take_make.Goals as goal

pub returns-in-Some-clause-makers : goal.returns-in-Some-clause-makers
returns-in-Some-clause-makers c = λ before count table.
    rw (← count) (makes_at c.args.names.now c.args.makers.now before c.args.line.now c.number-at.result c.in-Some.name c.requires.rising c.requires.same c.number-at.ensures.within c.number-at.ensures.name (sym c.in-Some.ensures) table)
