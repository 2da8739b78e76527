use Rattle.ng_heap_tests.proofs.AtTestLemmas.{own_went}
use Rattle.ng_heap_tests.proofs.beside_tests.asked.Goals as goal

pub returns-in-Ok-clause-own : goal.returns-in-Ok-clause-own
returns-in-Ok-clause-own g c =
    let freed = c.in-Ok.ensures.cause in
    own_went c.args.hand.now c.free_at.new.hand c.args.held.now.items c.free_at.new.held.items c.args.addr freed.block freed.takes
    c.free_at.ensures.entered.number freed.leaves.others c.requires.own
