use Rattle.ng_frame.proofs.Tokens.{block_kept}
use Rattle.ng_heap_tests.proofs.lock_tests.freed.Goals as goal

pub returns-clause-others : goal.returns-clause-others
returns-clause-others g c = λ other apart has.
    let freed = c.free.ensures in
    block_kept c.args.hand.now c.free.new.hand c.args.block.slot freed.entered.number freed.leaves.others other apart has
