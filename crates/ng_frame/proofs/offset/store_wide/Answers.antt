use Rattle.std.proofs.Common.{◌<◌, ◌≤◌, ⊎_elim, arith}
use Rattle.ng_space.proofs.LeavingFrames.{all_leaves, leaves_itself, leaves_stored}
use Rattle.ng_space.proofs.Leaving.{stays_stored}
use Rattle.ng_frame.proofs.Frames.{never_wide, stored_knows, widened}
use Rattle.ng_frame.proofs.offset.store_wide.Goals as goal

pub returns-then-offset-ge65536-clause-wide : goal.returns-then-offset-ge65536-clause-wide
returns-then-offset-ge65536-clause-wide g c =
    widened c.store_own.new.hand c.args.slot.now c.start.result c.args.at c.start.ensures c.requires.narrow c.requires.from c.requires.roomy c.if-offset-ge65536.true
    (stored_knows c.args.hand.now c.store_own.new.hand c.args.slot.now c.requires.slot.held c.requires.slot.found _ _ c.store_own.ensures.view)

pub returns-then-offset-ge65536-clause-own : goal.returns-then-offset-ge65536-clause-own
returns-then-offset-ge65536-clause-own g c = λ h found. (let k = stays_stored c.args.hand.now.view c.store_own.new.hand.view c.args.slot.now.meta c.args.slot.now.index _ _ c.store_own.ensures.view h found in (
  k.0,
  k.1,
  record {
    place = k.2.place;
    block = k.2.block;
    cells = λ a x outside s. k.2.cells a x (λ e. let start = c.start.ensures in let far = c.if-offset-ge65536.true in ⊎_elim (λ (low : a < c.args.slot.now.start). omega (arith, e, low, start, far)) (λ (high : c.args.at ≤ a). omega (arith, e, high, far)) outside) s;
  },
))

pub returns-then-offset-ge65536-clause-leaves : goal.returns-then-offset-ge65536-clause-leaves
returns-then-offset-ge65536-clause-leaves g c =
    leaves_stored c.args.hand.now c.store_own.new.hand c.args.slot.now _ _ c.requires.slot c.store_own.ensures.view

pub returns-else-offset-ge65536-clause-wide : goal.returns-else-offset-ge65536-clause-wide
returns-else-offset-ge65536-clause-wide g c = λ h found far. absurd (never_wide c.args.slot.now c.start.result c.args.at c.start.ensures c.requires.narrow c.requires.from c.requires.roomy c.if-offset-ge65536.false far)

pub returns-else-offset-ge65536-clause-leaves : goal.returns-else-offset-ge65536-clause-leaves
returns-else-offset-ge65536-clause-leaves g c = all_leaves c.args.slot.now c.args.hand.now.view c.args.hand.now.view (leaves_itself c.args.hand.now.view)
