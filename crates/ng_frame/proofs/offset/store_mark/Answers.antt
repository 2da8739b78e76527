use Rattle.std.proofs.Common.{◌+◌, ◌-◌, ◌*◌, ◌/◌, ◌%◌, ap, arith}
use Rattle.ng_space.proofs.LeavingFrames.{all_leaves, leaves_itself, leaves_stored}
use Rattle.ng_frame.proofs.Frames.{marked}
use Rattle.ng_space.proofs.Leaving.{stays_stored}
use Rattle.ng_frame.proofs.offset.store_mark.Goals as goal

pub returns-then-at-start-clause-shift : goal.returns-then-at-start-clause-shift
returns-then-at-start-clause-shift g c = marked c.args.hand.now c.store_own.new.hand c.args.slot.now c.requires.slot.held c.requires.slot.found _ _ c.store_own.ensures.view c.args.at c.requires.slot.place c.requires.whole (ap (λ s. s - 4) c.start-start.ensures) (ap (λ s. 57344 + (c.args.at - s) / 16 % 65536 * 65536) c.start-start.ensures)

pub returns-then-at-start-clause-own : goal.returns-then-at-start-clause-own
returns-then-at-start-clause-own g c = λ h found. (let k = stays_stored c.args.hand.now.view c.store_own.new.hand.view c.args.slot.now.meta c.args.slot.now.index _ _ c.store_own.ensures.view h found in (
  k.0,
  k.1,
  record {
    place = k.2.place;
    block = k.2.block;
    cells = λ a x le s. k.2.cells a x (λ e. let start = c.start-start.ensures in let front = c.requires.whole.front in omega (arith, e, le, start, front)) s;
  },
))

pub returns-then-at-start-clause-leaves : goal.returns-then-at-start-clause-leaves
returns-then-at-start-clause-leaves g c =
    leaves_stored c.args.hand.now c.store_own.new.hand c.args.slot.now _ _ c.requires.slot c.store_own.ensures.view

pub returns-else-at-start-clause-leaves : goal.returns-else-at-start-clause-leaves
returns-else-at-start-clause-leaves g c = all_leaves c.args.slot.now c.args.hand.now.view c.args.hand.now.view (leaves_itself c.args.hand.now.view)
