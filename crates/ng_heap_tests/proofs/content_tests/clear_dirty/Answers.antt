use Rattle.std.proofs.Common.{◌∙◌, sym, subst}
use Rattle.ng_space.specs.Blocks.{BlockToken}
use Rattle.ng_space.specs.Callers.{Caller}
use Rattle.ng_heap_tests.specs.Tests.{MayClose}
use Rattle.ng_heap_tests.proofs.content_tests.clear_dirty.Goals as goal

pub given-second-requires-clause-closes : goal.given-second-requires-clause-closes
given-second-requires-clause-closes g c = c.write_and_read.ensures.closes c.given-first.new.core.seat c.given-first.ensures.closes

pub frees_first-requires-clause-block : goal.frees_first-requires-clause-block
frees_first-requires-clause-block g c =
    let first : BlockToken = c.given-first.result in
    let has = c.given-third.ensures.blocks first (c.given-second.ensures.blocks first c.write_and_read.ensures.block) in
    c.given-fifth.ensures.blocks first (c.given-fourth.ensures.blocks first has)

pub end-requires-clause-closes : goal.end-requires-clause-closes
end-requires-clause-closes g c =
    let left = c.leave-4.ensures ∙ c.leave-3.ensures ∙ c.leave-2.ensures ∙ c.leave.ensures in
    subst (λ (hand : Caller). MayClose c.zeros_come.new.core.seat hand) (sym left) c.zeros_come.ensures.closes
