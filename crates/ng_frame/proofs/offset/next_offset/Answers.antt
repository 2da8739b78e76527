use Rattle.std.proofs.Common.{ℕ, ◌-◌, ◌/◌, ap, ◌∙◌, arith}
use Rattle.ng_view.specs.Steps.{loaded}
use Rattle.ng_space.proofs.LeavingFrames.{leaves_loaded}
use Rattle.ng_header.specs.Cycle.{cycle_of}
use Rattle.ng_frame.proofs.Slots.{cycle_of-small, front_is, narrow, whole}
use Rattle.ng_frame.proofs.offset.next_offset.Goals as goal

pub returns-clause-cycles : goal.returns-clause-cycles
returns-clause-cycles g c =
    let slot = c.args.slot.now in
    let x : ℕ = c.load.result in
    let is = whole g.N.Name.facts.start c.args.hand.now slot c.requires.slot c.load.ensures.placed in record {
      word = x;
      view = c.load.ensures.view ∙ ap (λ a. loaded c.args.hand.now.view a x) (front_is slot c.start.result c.start.ensures is);
      offset_is = c.cycle.ensures.value ∙ (λ k. cycle_of (c.kept_field.ensures.value k) ((c.room.ensures k - 4 - c.args.n) / 16) c.args.counter);
    }

pub returns-clause-near : goal.returns-clause-near
returns-clause-near g c =
    let slot = c.args.slot.now in
    let o = c.cycle.ensures.within in let room = c.room.ensures in let fits = c.requires.fits in
    let low = cycle_of-small c.kept_field.result ((c.room.result - 4 - c.args.n) / 16) c.args.counter in
    let is = c.cycle.ensures.value in record {
      whole = whole g.N.Name.facts.start c.args.hand.now slot c.requires.slot c.load.ensures.placed;
      within = omega (arith, o, room, fits);
      small = omega (arith, low, is);
      narrow = narrow g.N.Name.facts.start c.args.hand.now slot _ c.load.result c.requires.slot c.load.ensures.told;
    }

pub returns-clause-leaves : goal.returns-clause-leaves
returns-clause-leaves g c = leaves_loaded c.args.hand.now.view c.load.new.hand.view _ c.load.result c.load.ensures.view
