use Rattle.std.proofs.Common.{◌∙◌}
use Rattle.ng_space.specs.Leaving.{KeepsOthers}
use Rattle.ng_frame.proofs.Tokens.{framed_stays}
use Rattle.ng_space.proofs.Leaving.{loaded_all}
use Rattle.ng_heap.specs.Keeps.{IsFresh}
use Rattle.ng_heap.proofs.SendLemmas.{Receives, came_fresh, came_leaves, came_others}
use Rattle.ng_heap.proofs.StayLemmas.{fresh_slots}
use Rattle.ng_heap.proofs.heap.Heap.receive.Given.{Over}
use Rattle.ng_heap.proofs.heap.Heap.receive.Goals as goal

receives : (g : Over) (c : goal.After-load g) → Receives c.args.hand.now c.join_parcel-block.new.hand c.load.new.hand c.args.parcel
receives g c = record {
  of = c.join_parcel-block.ensures.one;
  joins = c.join_parcel-block.ensures.view;
  word = c.load.result;
  loads = c.load.ensures.view;
  once = c.load.ensures.once;
  number = c.load.ensures.number ∙ c.join_parcel-block.ensures.number;
}

fresh : (g : Over) (c : goal.After-load g) → IsFresh c.args.hand.now c.join_parcel-block.result.slot
fresh g c =
    let join = c.join_parcel-block in
    came_fresh c.args.hand.now join.new.hand c.load.new.hand c.args.parcel (receives g c) join.result _ join.ensures.block

others : (g : Over) (c : goal.After-load g) → KeepsOthers c.join_parcel-block.result.slot c.args.hand.now.view c.load.new.hand.view
others g c =
    let join = c.join_parcel-block in
    came_others c.args.hand.now join.new.hand c.load.new.hand c.args.parcel (receives g c) join.result _ join.ensures.block

pub returns-clause-framed : goal.returns-clause-framed
returns-clause-framed g c =
    let join = c.join_parcel-block in
    let slot = join.result.slot in
    let kept = loaded_all join.new.hand.view c.load.new.hand.view 0 c.load.result c.load.ensures.view in
    framed_stays join.new.hand c.load.new.hand c.load.ensures.number join.result (kept.slots slot.meta slot.index) join.ensures.has

pub returns-clause-fresh : goal.returns-clause-fresh
returns-clause-fresh g c = fresh g c

pub returns-clause-leaves : goal.returns-clause-leaves
returns-clause-leaves g c =
    let join = c.join_parcel-block in
    came_leaves c.args.hand.now join.new.hand c.load.new.hand c.args.parcel (receives g c) join.result _ join.ensures.block join.ensures.has

pub returns-clause-slots : goal.returns-clause-slots
returns-clause-slots g c = fresh_slots c.args.hand.now c.join_parcel-block.result.slot (fresh g c) c.load.new.hand.view (others g c)
