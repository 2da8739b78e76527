use Rattle.ng_space_tests.proofs.Writing.{ready, serves}
use Rattle.ng_space_tests.proofs.pair_tests.use_slot.Goals as goal

pub give-block-requires-clause-serves : goal.give-block-requires-clause-serves
give-block-requires-clause-serves g c =
    let r = c.requires in serves c.args.hand.now c.store_own.new.hand c.store_own-2.new.hand c.args.slot r.slot c.store_own.ensures.view c.store_own-2.ensures.view r.start r.end r.room r.serves

pub give-block-requires-clause-ready : goal.give-block-requires-clause-ready
give-block-requires-clause-ready g c =
    let r = c.requires in ready c.args.hand.now c.store_own.new.hand c.store_own-2.new.hand c.args.slot r.slot c.store_own.ensures.view c.store_own-2.ensures.view r.start r.end r.room
