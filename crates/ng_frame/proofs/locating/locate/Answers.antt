use Rattle.std.proofs.Common.{◌≡◌, ◌+◌, ◌*◌, ◌∙◌, arith}
use Rattle.ng_space.specs.Leaving.{LeavesAll}
use Rattle.ng_space.proofs.LeavingFrames.{leaves_all_then, leaves_loaded}
use Rattle.ng_frame.proofs.Lengths.{block_whole}
use Rattle.ng_frame.proofs.Locations.{flags_fit, located, location_class, location_kind, location_pages, location_start}
use Rattle.ng_frame.proofs.locating.locate.Given.{Over}
use Rattle.ng_frame.proofs.locating.locate.Goals as goal
use Rattle.ng_frame.proofs.locating.locate.Goals.{After-stride-stride}

-- the two loads
leaves : (g : Over) (c : goal.After-load-flags g) → LeavesAll c.args.hand.now.view c.load-flags.new.hand.view
leaves g c =
    let zero = c.args.hand.now.view in let one = c.load-base.new.hand.view in let two = c.load-flags.new.hand.view in
    leaves_all_then zero one two (leaves_loaded zero one _ c.load-base.result c.load-base.ensures.view) (leaves_loaded one two _ c.load-flags.result c.load-flags.ensures.view)

pub overflow_cast-flags : goal.overflow_cast-flags
overflow_cast-flags g c = record {
  fits = flags_fit g.N.Name.facts.start c.args.hand.now c.load-base.new.hand c.args.block.now c.requires.block c.meta-meta.result c.index-index.result c.load-base.result c.load-flags.result
      c.meta-meta.ensures.meta c.index-index.ensures.index c.load-base.ensures.view c.load-base.ensures.told c.load-flags.ensures.told c.load-base.ensures.placed;
}

pub stride-stride-requires-clause-class : goal.stride-stride-requires-clause-class
stride-stride-requires-clause-class g c =
    location_class g.N.Name.facts.start c.args.hand.now c.load-base.new.hand c.args.block.now c.requires.block c.meta-meta.result c.index-index.result c.load-base.result c.load-flags.result
    c.meta-meta.ensures.meta c.index-index.ensures.index c.load-base.ensures.view c.load-base.ensures.told c.load-flags.ensures.told c.load-base.ensures.placed
    c.fields_of-fields.result c.fields_of-fields.ensures.fields

pub stride-stride-requires-clause-maplen : goal.stride-stride-requires-clause-maplen
stride-stride-requires-clause-maplen g c =
    location_pages g.N.Name.facts.start c.args.hand.now c.load-base.new.hand c.args.block.now c.requires.block c.meta-meta.result c.index-index.result c.load-base.result c.load-flags.result
    c.meta-meta.ensures.meta c.index-index.ensures.index c.load-base.ensures.view c.load-base.ensures.told c.load-flags.ensures.told c.load-base.ensures.placed
    c.fields_of-fields.result c.fields_of-fields.ensures.fields

pub overflow_cast-result : goal.overflow_cast-result
overflow_cast-result g c =
    let few = location_pages g.N.Name.facts.start c.args.hand.now c.load-base.new.hand c.args.block.now c.requires.block c.meta-meta.result c.index-index.result c.load-base.result c.load-flags.result
    c.meta-meta.ensures.meta c.index-index.ensures.index c.load-base.ensures.view c.load-base.ensures.told c.load-flags.ensures.told c.load-base.ensures.placed
    c.fields_of-fields.result c.fields_of-fields.ensures.fields in
    record { fits = omega (arith, few) }

-- the slot begins where its block does, or before it
begins : (g : Over) (c : After-stride-stride g) → c.load-base.result + 16 + c.stride-stride.result * c.index-index.result ≡ c.args.block.now.slot.start
begins g c =
    location_start g.N.Name.facts.start c.args.hand.now c.load-base.new.hand c.args.block.now c.requires.block c.meta-meta.result c.index-index.result c.load-base.result c.load-flags.result
    c.meta-meta.ensures.meta c.index-index.ensures.index c.load-base.ensures.view c.load-base.ensures.told c.load-flags.ensures.told c.load-base.ensures.placed
    c.fields_of-fields.result c.fields_of-fields.ensures.fields c.stride-stride.result c.stride-stride.ensures.value

pub overflow_add-base : goal.overflow_add-base
overflow_add-base g c = let start = begins g c.before in let from = c.at-at.ensures.from in let fits = c.at-at.type_inv in record { fits = omega (arith, start, from, fits) }

pub slot_start-requires : goal.slot_start-requires
slot_start-requires g c = let start = begins g c.before in let from = c.at-at.ensures.from in let fits = c.at-at.type_inv in omega (arith, start, from, fits)

pub returns-clause-located : goal.returns-clause-located
returns-clause-located g c =
    located g.N.Name.facts.start c.args.hand.now c.load-base.new.hand c.args.block.now c.requires.block c.meta-meta.result c.index-index.result c.load-base.result c.load-flags.result
    c.meta-meta.ensures.meta c.index-index.ensures.index c.load-base.ensures.view c.load-base.ensures.told c.load-flags.ensures.told c.load-base.ensures.placed
    c.fields_of-fields.result c.fields_of-fields.ensures.fields c.load-flags.new.hand c.slot_start.result (leaves g c.before.before.before.before.before) (c.slot_start.ensures ∙ begins g c.before.before)

pub returns-clause-kind : goal.returns-clause-kind
returns-clause-kind g c =
    location_kind g.N.Name.facts.start c.args.hand.now c.load-base.new.hand c.args.block.now c.requires.block c.meta-meta.result c.index-index.result c.load-base.result c.load-flags.result
    c.meta-meta.ensures.meta c.index-index.ensures.index c.load-base.ensures.view c.load-base.ensures.told c.load-flags.ensures.told c.load-base.ensures.placed
    c.fields_of-fields.result c.fields_of-fields.ensures.fields

pub returns-clause-whole : goal.returns-clause-whole
returns-clause-whole g c = block_whole g.N.Name.facts.start c.args.hand.now c.args.block.now c.requires.block c.load-base.ensures.placed

pub returns-clause-leaves : goal.returns-clause-leaves
returns-clause-leaves g c = leaves g c.before.before.before.before.before
