use Rattle.std.proofs.Common.{◌∙◌, sym, subst}
use Rattle.ng_space.specs.Blocks.{BlockToken}
use Rattle.ng_space.specs.Callers.{Caller}
use Rattle.ng_group.proofs.TestLemmas.{apart_flips}
use Rattle.ng_heap_tests.specs.Tests.{MayClose}
use Rattle.ng_heap_tests.proofs.tests.free_three.Goals as goal

pub frees_first-requires-clause-block : goal.frees_first-requires-clause-block
frees_first-requires-clause-block g c =
    let first : BlockToken = c.given-first.result in
    let has = c.given-third.ensures.blocks first (c.given-second.ensures.blocks first c.given-first.ensures.block) in
    c.given-fifth.ensures.blocks first (c.given-fourth.ensures.blocks first has)

pub frees_first-requires-2-clause-block : goal.frees_first-requires-2-clause-block
frees_first-requires-2-clause-block g c =
    let first : BlockToken = c.given-first.result in
    let second : BlockToken = c.given-second.result in
    let has = c.given-fourth.ensures.blocks second (c.given-third.ensures.blocks second c.given-second.ensures.block) in
    let apart = apart_flips first.slot second.slot (c.given-second.ensures.fresh.blocks first c.given-first.ensures.block) in
    c.given-sixth.ensures.blocks second (c.frees_first.ensures.others second apart (c.given-fifth.ensures.blocks second has))

pub frees_at_once-requires : goal.frees_at_once-requires
frees_at_once-requires g c =
    let first : BlockToken = c.given-first.result in
    let second : BlockToken = c.given-second.result in
    let third : BlockToken = c.given-third.result in
    let has = c.given-fifth.ensures.blocks third (c.given-fourth.ensures.blocks third c.given-third.ensures.block) in
    let has_first = c.given-second.ensures.blocks first c.given-first.ensures.block in
    let of_first = apart_flips first.slot third.slot (c.given-third.ensures.fresh.blocks first has_first) in
    let of_second = apart_flips second.slot third.slot (c.given-third.ensures.fresh.blocks second c.given-second.ensures.block) in
    let still = c.given-sixth.ensures.blocks third (c.frees_first.ensures.others third of_first has) in
    record { block = c.frees_first-2.ensures.others third of_second still }

pub end-requires-clause-closes : goal.end-requires-clause-closes
end-requires-clause-closes g c =
    let left = c.leave-3.ensures ∙ c.leave-2.ensures ∙ c.leave.ensures in
    let may = c.frees_at_once.ensures.closes c.frees_first-2.new.core.seat c.frees_first-2.ensures.closes in
    subst (λ (hand : Caller). MayClose c.frees_first-2.new.core.seat hand) (sym left) may
