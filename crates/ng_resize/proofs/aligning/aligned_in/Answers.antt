use Rattle.ng_space.specs.Leaving.{LeavesAll}
use Rattle.ng_space.proofs.LeavingFrames.{leaves_entered}
use Rattle.ng_resize.proofs.aligning.aligned_in.Goals as goal

pub returns-then-not-is_alignment-clause-kept : goal.returns-then-not-is_alignment-clause-kept
returns-then-not-is_alignment-clause-kept g c = leaves_entered c.args.hand.now.view c.enter.new.hand.view _ _ c.enter.ensures.view

pub returns-then-not-is_alignment-clause-slots : goal.returns-then-not-is_alignment-clause-slots
returns-then-not-is_alignment-clause-slots g c =
    let leaves : LeavesAll c.args.hand.now.view c.enter.new.hand.view = leaves_entered c.args.hand.now.view c.enter.new.hand.view _ _ c.enter.ensures.view in
    leaves.all.slots
