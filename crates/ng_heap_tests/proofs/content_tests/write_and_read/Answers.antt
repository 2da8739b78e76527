use Rattle.ng_frame.proofs.Tokens.{block_stays}
use Rattle.ng_heap_tests.proofs.TestLemmas.{may_still}
use Rattle.ng_heap_tests.proofs.content_tests.write_and_read.Goals as goal

pub returns-clause-block : goal.returns-clause-block
returns-clause-block g c =
    let block = c.args.block.now in
    block_stays c.write-2.new.hand c.read.new.hand c.read.ensures.book.number block (c.read.ensures.leaves.all.slots block.slot.meta block.slot.index)
    c.write-2.ensures.has

pub returns-clause-closes : goal.returns-clause-closes
returns-clause-closes g c = λ seat may.
    may_still c.write-2.new.hand c.read.new.hand seat c.read.ensures.book.number c.read.ensures.leaves.rest
    (may_still c.write.new.hand c.write-2.new.hand seat c.write-2.ensures.book.number c.write-2.ensures.leaves.rest
    (may_still c.args.hand.now c.write.new.hand seat c.write.ensures.book.number c.write.ensures.leaves.rest may))
