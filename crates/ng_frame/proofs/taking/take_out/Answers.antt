use Rattle.std.proofs.Common.{◌≡◌, ◌∙◌}
use Rattle.ng_space.specs.Blocks.{BlockToken, HasBlock}
use Rattle.ng_space.specs.Callers.{Caller}
use Rattle.ng_space.specs.Leaving.{LeavesAll}
use Rattle.ng_space.proofs.LeavingFrames.{all_leaves, leaves_all_then, leaves_entered, leaves_killed, leaves_then}
use Rattle.ng_frame.proofs.Tokens.{block_stays}
use Rattle.ng_frame.proofs.taking.take_out.Given.{Over}
use Rattle.ng_frame.proofs.taking.take_out.Goals as goal

still : (old mid : Caller) (block : BlockToken) → mid.number ≡ old.number → LeavesAll old.view mid.view → HasBlock old block → HasBlock mid block
still old mid block number leaves = block_stays old mid number block (leaves.all.slots block.slot.meta block.slot.index)

pub kill-requires-clause-block : goal.kill-requires-clause-block
kill-requires-clause-block g c =
    let find = c.find_damage in
    still c.args.hand.now find.new.hand c.args.block find.ensures.book.number find.ensures.leaves c.requires.block

-- ---- a refusal
refused : (g : Over) (c : goal.After-enter g) → LeavesAll c.args.hand.now.view c.enter.new.hand.view
refused g c =
    let find = c.find_damage in
    leaves_all_then c.args.hand.now.view find.new.hand.view c.enter.new.hand.view find.ensures.leaves
    (leaves_entered find.new.hand.view c.enter.new.hand.view _ _ c.enter.ensures.view)

pub returns-in-Some-clause-kept : goal.returns-in-Some-clause-kept
returns-in-Some-clause-kept g c = refused g c

pub returns-in-Some-clause-still : goal.returns-in-Some-clause-still
returns-in-Some-clause-still g c =
    still c.args.hand.now c.enter.new.hand c.args.block (c.enter.ensures.number ∙ c.find_damage.ensures.book.number) (refused g c) c.requires.block

pub returns-in-Some-clause-leaves : goal.returns-in-Some-clause-leaves
returns-in-Some-clause-leaves g c = all_leaves c.args.block.slot c.args.hand.now.view c.enter.new.hand.view (refused g c)

-- ---- the block is taken
pub returns-in-None-clause-leaves : goal.returns-in-None-clause-leaves
returns-in-None-clause-leaves g c =
    let find = c.find_damage in
    let block = c.args.block in
    let has = still c.args.hand.now find.new.hand block find.ensures.book.number find.ensures.leaves c.requires.block in
    leaves_then block.slot c.args.hand.now.view find.new.hand.view c.kill.new.hand.view
    (all_leaves block.slot c.args.hand.now.view find.new.hand.view find.ensures.leaves)
    (leaves_killed find.new.hand c.kill.new.hand block _ has c.kill.ensures.view)
