use Rattle.ng_heap.specs.Keeps.{sent_one}
use Rattle.ng_space.proofs.LeavingSlots.{pushed_leaves}
use Rattle.ng_heap.proofs.heap.Heap.send.Goals as goal

pub returns-clause-leaves : goal.returns-clause-leaves
returns-clause-leaves g c = pushed_leaves c.args.block.slot (sent_one c.args.hand.now.view) c.split_parcel.new.hand.view c.split_parcel.ensures.view
