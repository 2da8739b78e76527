use Rattle.ng_frame.proofs.Frames.{cleared_leaves, cleared_own, cleared_zero, cleared_zeros}
use Rattle.ng_frame.proofs.trailer.clear_byte.Goals as goal

pub returns-clause-zero : goal.returns-clause-zero
returns-clause-zero g c = cleared_zero c.args.hand.now c.load-word.new.hand c.store_own.new.hand c.args.slot.now c.requires.slot c.args.at c.load-word.result c.without_byte-cell.result c.load-word.ensures.view c.store_own.ensures.view (c.load-word.ensures.slots c.args.slot.now c.requires.slot) c.without_byte-cell.ensures.zero

pub returns-clause-zeros : goal.returns-clause-zeros
returns-clause-zeros g c = cleared_zeros c.args.hand.now c.load-word.new.hand c.store_own.new.hand c.args.slot.now c.requires.slot c.args.at c.load-word.result c.without_byte-cell.result c.load-word.ensures.view c.store_own.ensures.view (c.load-word.ensures.slots c.args.slot.now c.requires.slot)
    g.N.Name.facts.start c.load-word.ensures.told c.without_byte-cell.ensures.zero c.without_byte-cell.ensures.others

pub returns-clause-own : goal.returns-clause-own
returns-clause-own g c = cleared_own c.args.hand.now c.load-word.new.hand c.store_own.new.hand c.args.slot.now c.requires.slot c.args.at c.load-word.result c.without_byte-cell.result c.load-word.ensures.view c.store_own.ensures.view (c.load-word.ensures.slots c.args.slot.now c.requires.slot)

pub returns-clause-leaves : goal.returns-clause-leaves
returns-clause-leaves g c = cleared_leaves c.args.hand.now c.load-word.new.hand c.store_own.new.hand c.args.slot.now c.requires.slot c.args.at c.load-word.result c.without_byte-cell.result c.load-word.ensures.view c.store_own.ensures.view (c.load-word.ensures.slots c.args.slot.now c.requires.slot)
