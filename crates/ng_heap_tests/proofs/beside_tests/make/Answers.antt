use Rattle.std.proofs.Common.{List, sym, subst}
use Rattle.ng_space.specs.Blocks.{BlockToken}
use Rattle.ng_frame.proofs.Tokens.{block_stays}
use Rattle.ng_heap_tests.specs.Tests.{AreOwn}
use Rattle.ng_heap_tests.proofs.AtTestLemmas.{own_came}
use Rattle.ng_heap_tests.proofs.beside_tests.make.Goals as goal

pub returns-clause-own : goal.returns-clause-own
returns-clause-own g c =
    let malloc = c.malloc in
    let made = c.in-Ok.ensures.made in
    subst (λ (held : List BlockToken). AreOwn malloc.new.hand held) (sym c.push_reserved.ensures.items)
    (own_came c.args.hand.now malloc.new.hand c.args.held.now.items c.in-Ok.block
    (λ other has. block_stays c.args.hand.now malloc.new.hand malloc.ensures.entered.number other (malloc.ensures.slots other.slot.meta other.slot.index) has)
    made.fresh made.framed.has c.requires.own)
