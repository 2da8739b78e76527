use Rattle.std.proofs.Common.{arith}
use Rattle.ng_frame.proofs.Tails.{cut_leaves, cut_others, cut_own, cut_zero}
use Rattle.ng_frame.proofs.resizing.clear_byte_behind.Goals as goal

pub store_in-requires-clause-from : goal.store_in-requires-clause-from
store_in-requires-clause-from g c = let whole = c.requires.begins in let from = c.requires.from in omega (arith, whole, from)

pub returns-clause-zero : goal.returns-clause-zero
returns-clause-zero g c =
    cut_zero c.args.hand.now c.load-word.new.hand c.store_in.new.hand c.args.block.now c.requires.block c.args.at c.load-word.result c.without_byte-cell.result c.load-word.ensures.view c.store_in.ensures.view
    c.without_byte-cell.ensures.zero

pub returns-clause-others : goal.returns-clause-others
returns-clause-others g c =
    cut_others c.args.hand.now c.load-word.new.hand c.store_in.new.hand c.args.block.now c.requires.block c.args.at c.load-word.result c.without_byte-cell.result c.load-word.ensures.view c.store_in.ensures.view
    g.N.Name.facts.start c.load-word.ensures.told c.without_byte-cell.ensures.others

pub returns-clause-own : goal.returns-clause-own
returns-clause-own g c =
    cut_own c.args.hand.now c.load-word.new.hand c.store_in.new.hand c.args.block.now c.requires.block c.args.at c.load-word.result c.without_byte-cell.result c.load-word.ensures.view c.store_in.ensures.view

pub returns-clause-leaves : goal.returns-clause-leaves
returns-clause-leaves g c =
    cut_leaves c.args.hand.now c.load-word.new.hand c.store_in.new.hand c.args.block.now c.requires.block c.args.at c.load-word.result c.without_byte-cell.result c.load-word.ensures.view c.store_in.ensures.view
