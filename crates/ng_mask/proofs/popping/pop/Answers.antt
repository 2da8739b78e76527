use Rattle.ng_space.proofs.LeavingFrames.{all_leaves, leaves_then}
use Rattle.ng_mask.proofs.Leaving.{pop_loads, pop_loses}
use Rattle.ng_mask.proofs.popping.pop.Goals as goal

pub returns-then-tag-class-clause-leaves : goal.returns-then-tag-class-clause-leaves
returns-then-tag-class-clause-leaves g c =
    pop_loads c.args.meta c.args.class c.loop-lost.lost c.load-seen.result _ c.loop-lost.hand.view _ c.loop-lost.invariant.0 c.load-seen.ensures.view

pub returns-then-mask_of-eq0-clause-leaves : goal.returns-then-mask_of-eq0-clause-leaves
returns-then-mask_of-eq0-clause-leaves g c =
    pop_loads c.args.meta c.args.class c.loop-lost.lost c.load-seen.result _ c.loop-lost.hand.view _ c.loop-lost.invariant.0 c.load-seen.ensures.view

pub returns-in-Ok-clause-leaves : goal.returns-in-Ok-clause-leaves
returns-in-Ok-clause-leaves g c =
    let seen = c.load-seen.new.hand.view in
    leaves_then c.in-Ok.slot c.args.hand.now.view seen c.pop_step.new.hand.view
    (all_leaves c.in-Ok.slot c.args.hand.now.view seen (pop_loads c.args.meta c.args.class c.loop-lost.lost c.load-seen.result _ c.loop-lost.hand.view _ c.loop-lost.invariant.0 c.load-seen.ensures.view))
    c.in-Ok.ensures.leaves

pub returns-clause-leaves : goal.returns-clause-leaves
returns-clause-leaves g c = pop_loses c.args.meta c.args.class c.loop-lost.lost _ _ c.loop-lost.invariant.0
