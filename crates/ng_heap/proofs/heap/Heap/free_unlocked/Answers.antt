use Rattle.std.proofs.Common.{subst}
use Rattle.ng_space.specs.Leaving.{Leaves}
use Rattle.ng_space.specs.Tokens.{Token}
use Rattle.ng_space.proofs.LeavingFrames.{leaves_then}
use Rattle.ng_mask.proofs.Leaving.{push_others}
use Rattle.ng_heap.proofs.heap.Heap.free_unlocked.Given.{Over}
use Rattle.ng_heap.proofs.heap.Heap.free_unlocked.Goals as goal
use Rattle.ng_heap.proofs.heap.Heap.free_unlocked.Goals.{After-push}

leaves : (g : Over) (c : After-push g) → Leaves c.args.block.slot c.args.hand.now.view c.push.new.hand.view
leaves g c =
    let own = c.args.block.slot in
    let old = c.args.hand.now.view in
    let mid = c.take_out.new.hand.view in
    let new = c.push.new.hand.view in
    let pushes : Leaves c.in_ok-slot.slot mid new = push_others c.in_ok-slot.slot mid new c.push.result c.push.ensures.leaves in
    leaves_then own old mid new c.take_out.ensures.leaves (subst (λ (s : Token). Leaves s mid new) c.in_ok-slot.ensures.slot pushes)

pub returns-in-Done-clause-leaves : goal.returns-in-Done-clause-leaves
returns-in-Done-clause-leaves g c = leaves g c.before

pub returns-in-Left-clause-leaves : goal.returns-in-Left-clause-leaves
returns-in-Left-clause-leaves g c = leaves g c.before
