use Rattle.std.proofs.Common.{sym, subst}
use Rattle.ng_space.specs.Blocks.{BlockToken, HasBlock}
use Rattle.ng_group.proofs.TestLemmas.{apart_flips}
use Rattle.ng_heap_tests.proofs.lock_tests.second_of_three.Goals as goal

pub freed-requires-clause-block : goal.freed-requires-clause-block
freed-requires-clause-block g c =
    let first : BlockToken = c.made-first.result in
    subst (λ hand. HasBlock hand first) (sym c.leave.ensures)
    (c.made-third.ensures.blocks first (c.made-second.ensures.blocks first c.made-first.ensures.block))

pub returns-clause-block : goal.returns-clause-block
returns-clause-block g c =
    let first : BlockToken = c.made-first.result in
    let second : BlockToken = c.made-second.result in
    let apart = apart_flips first.slot second.slot (c.made-second.ensures.fresh.blocks first c.made-first.ensures.block) in
    c.freed.ensures.others second apart
    (subst (λ hand. HasBlock hand second) (sym c.leave.ensures) (c.made-third.ensures.blocks second c.made-second.ensures.block))
