use Rattle.std.proofs.Common.{arith}
use Rattle.ng_drill.proofs.StepLemmas.{write_absent, write_block}
use Rattle.ng_drill.proofs.steps.write.Goals as goal

pub returns-in_default-clause-steps : goal.returns-in_default-clause-steps
returns-in_default-clause-steps g c = write_absent g.N.Name.facts.start.pages c.args.name c.args.offset c.args.byte c.args.hand.now c.args.desk.now c.in_default.ensures

pub returns-clause-steps : goal.returns-clause-steps
returns-clause-steps g c =
    let gap = c.gap.ensures in let more = c.if-gap-offset.false in
    write_block g.N.Name.facts.start.pages c.args.name c.args.offset c.args.byte c.in-Some.place c.index-block.result.now c.args.hand.now c.scribble.new.hand c.args.desk.now c.in-Some.ensures c.requires.desk.index c.index-block.ensures
    c.scribble.ensures.book.number (omega (arith, gap, more)) c.scribble.ensures.has c.scribble.ensures.written c.scribble.ensures.bytes c.scribble.ensures.others
