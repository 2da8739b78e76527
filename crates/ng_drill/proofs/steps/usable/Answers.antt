use Rattle.std.proofs.Common.{refl}
use Rattle.std.specs.Prelude.{Ok, Err}
use Rattle.ng_drill.proofs.StepLemmas.{measure_block, measured_damage}
use Rattle.ng_drill.proofs.steps.usable.Goals as goal

pub returns-in-Ok-clause-steps : goal.returns-in-Ok-clause-steps
returns-in-Ok-clause-steps g c =
    measure_block g.N.Name.facts.start.pages c.args.name c.in-Some.place c.index.result.now c.args.hand.now c.usable_size.new.hand c.args.desk.now (Ok c.in-Ok.len) _ c.in-Some.ensures c.requires.desk.index c.index.ensures
    c.in-Ok.ensures.book.number c.in-Ok.ensures.leaves c.in-Ok.ensures.judged refl

pub returns-in-Err-clause-steps : goal.returns-in-Err-clause-steps
returns-in-Err-clause-steps g c =
    measure_block g.N.Name.facts.start.pages c.args.name c.in-Some.place c.index.result.now c.args.hand.now c.usable_size.new.hand c.args.desk.now (Err c.in-Err.damage) _ c.in-Some.ensures c.requires.desk.index c.index.ensures
    c.in-Err.ensures.book.number c.in-Err.ensures.leaves c.in-Err.ensures.judged (measured_damage c.in-Err.damage)
