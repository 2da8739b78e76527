use Rattle.std.proofs.Common.{◌≡◌, subst}
use Rattle.ng_space.specs.Leaving.{KeepsOthers}
use Rattle.ng_frame.proofs.Tokens.{block_kept}
use Rattle.ng_space.specs.Callers.{Caller}
use Rattle.ng_space.specs.Tokens.{Token}
use Rattle.ng_heap.proofs.FreeLemmas.{left_is}
use Rattle.ng_heap_tests.proofs.tests.frees_first.Goals as goal

pub returns-clause-others : goal.returns-clause-others
returns-clause-others g c = λ other apart has.
    let slot : Token = c.args.block.slot in
    let mid : Caller = c.free_unlocked.new.hand in
    let new : Caller = c.settle_in.new.hand in
    let freed = c.free_unlocked.ensures in
    let settled = c.settle_in.ensures in
    let first = c.in-Ok-Left-default-First in
    let is = left_is first.field-0 first.slot first.field-0-1 (λ left. left ≡ slot) first.field-0-is first.ensures.left in
    let still = block_kept c.args.hand.now mid slot freed.entered.number freed.leaves.others other apart has in
    block_kept mid new slot settled.book.number (subst (λ (s : Token). KeepsOthers s mid.view new.view) is settled.leaves.others) other apart still
