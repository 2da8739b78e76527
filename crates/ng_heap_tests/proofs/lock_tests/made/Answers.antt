use Rattle.ng_frame.proofs.Tokens.{block_stays}
use Rattle.ng_heap_tests.proofs.lock_tests.made.Goals as goal

pub returns-clause-blocks : goal.returns-clause-blocks
returns-clause-blocks g c = λ other has.
    let given = c.malloc.ensures in
    block_stays c.args.hand.now c.malloc.new.hand given.entered.number other (given.slots other.slot.meta other.slot.index) has
