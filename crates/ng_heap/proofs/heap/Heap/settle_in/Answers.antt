use Rattle.ng_space.proofs.LeavingSlots.{pushed_leaves}
use Rattle.ng_heap.proofs.heap.Heap.settle_in.Goals as goal

pub returns-clause-leaves : goal.returns-clause-leaves
returns-clause-leaves g c = pushed_leaves c.args.slot c.args.hand.now.view c.return_slot.new.hand.view c.return_slot.ensures.view
