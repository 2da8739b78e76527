use Rattle.std.proofs.Common.{◌≡◌, ℕ, ◌<◌, refl, sym, ap, subst, ◌∙◌, arith}
use Rattle.ng_policy.specs.Ask.{IsCount}
use Rattle.ng_policy.specs.declared.ask.Ask.{Ask}
use Rattle.ng_ledger.specs.Rings.{IsBare}
use Rattle.ng_view.specs.Lists.{Among}
use Rattle.ng_view.specs.declared.view.View.{View}
use Rattle.ng_group.specs.Building.{IsAsk}
use Rattle.ng_group.specs.States.{State}
use Rattle.ng_group.proofs.AskingLemmas.{area_cause, area_leaves, gets_served, none_inside, only_inside}
use Rattle.ng_group.proofs.BuildingLemmas.{on_err}
use Rattle.ng_group.proofs.LoneSeatLemmas.{stock_at}
use Rattle.ng_group.proofs.RecursionLemmas.{absent_at}
use Rattle.ng_group.proofs.SeatSlotLemmas.{HasFound, HasMeta, bare_after, below_less, below_of, meta_found, meta_over, meta_put, meta_then, most_few, page_below, page_on, shape_few}
use Rattle.ng_group.proofs.SeatWantLemmas.{WasAsked, is_large, is_small, mapped_builds, mapped_cause, mapped_leaves, nested_builds, nested_cause, nested_leaves}
use Rattle.ng_group.proofs.UntouchedLemmas.{untouched_same, untouched_since}
use Rattle.ng_group.proofs.WorkingLemmas.{only_below}
use Rattle.ng_group.proofs.works.Works.+seat_slot.Given.{Over}
use Rattle.ng_group.proofs.works.Works.+seat_slot.Goals as goal
use Rattle.ng_group.proofs.works.Works.+seat_slot.Goals.{After-seat_slot, In-Err, In_ok-meta}

-- the core whose parts are used one by one
abbrev opened : (g : Over) (t : ℕ) (c : In_ok-meta g t) → State g.row.M.Denot g.row.P.Denot
opened g t c = record {
  seat = c.self.inside.seat;
  rings = c.self.inside.rings;
  stock = c.self.inside.stock;
  parents = c.self.inside.parents;
  usage = c.self.inside.usage;
  bounces = c.self.inside.bounce;
  counter = c.self.inside.counter;
  mapper = c.self.inside.mapper;
  rules = c.self.inside.rules;
}

-- a meta was found
found : (g : Over) (t : ℕ) (c : In_ok-meta g t)
    → HasFound g.N.Name.facts.start g.M.Mapper.span g.M.Mapper.runs g.M.Mapper.refused c.args.class c.in_ok-meta.meta c.args.self.now
    (record (opened g t c) { seat = c.find_meta.new.seat; stock = c.find_meta.new.stock; mapper = c.find_meta.new.mapper })
found g t c =
    meta_found g.N.Name.facts.start g.M.Mapper.span g.M.Mapper.runs g.M.Mapper.refused c.find_meta.new.mapper
    c.self.view_is c.requires.class c.requires.idle c.in_default.ensures.only c.in_default.ensures.none c.in_default.ensures.working
    c.in_ok-meta.ensures.mapper c.in_ok-meta.ensures.stock c.in_ok-meta.ensures.ok c.in_ok-meta.ensures.calm

-- what the rules were asked of its group
asked : (g : Over) (t : ℕ) (c : In_ok-meta g t) {ask : Ask} {count : ℕ} → IsAsk c.self.inside.usage c.self.inside.bounce c.args.class ask
    → g.P.Rules.count_gives c.self.inside.rules ask count → IsCount ask.class count
    → WasAsked g.N.Name.facts.start g.M.Mapper.runs g.P.Rules.count_gives c.args.class c.args.self.now (opened g t c)
    c.in_ok-meta.meta c.find_meta.new.seat c.find_meta.new.stock c.find_meta.new.mapper ask count
asked g t c asks answer allowed = record {
  only = only_inside c.args.class c.args.self.now (opened g t c) c.serve_ring.new.self c.self.view_is c.in_default.ensures.only;
  none = none_inside c.args.class c.args.self.now (opened g t c) c.serve_ring.new.self c.self.view_is c.in_default.ensures.none;
  finds = c.in_ok-meta.ensures.ok;
  asks = asks;
  answer = answer;
  allowed = allowed;
}

-- a run for it was refused, and the meta is still in hand
run_refused : (g : Over) (t : ℕ) (c : In-Err g t)
    → HasMeta g.N.Name.facts.start g.M.Mapper.span g.M.Mapper.runs g.M.Mapper.refused c.args.class c.in_ok-meta.meta c.args.self.now c.build_mapped.new.self
run_refused g t c =
    let there = meta_found g.N.Name.facts.start g.M.Mapper.span g.M.Mapper.runs g.M.Mapper.refused c.find_meta.new.mapper
    c.self.view_is c.requires.class c.requires.idle c.in_default.ensures.only c.in_default.ensures.none c.in_default.ensures.working
    c.in_ok-meta.ensures.mapper c.in_ok-meta.ensures.stock c.in_ok-meta.ensures.ok c.in_ok-meta.ensures.calm in
    meta_then there.has
    c.build_mapped.new.self
    c.in-Err.ensures.working
    c.in-Err.ensures.on
    c.in-Err.ensures.kept
    (below_of c.ask-ask.ensures.asks.class_is c.in-Err.ensures.below)

-- so it is after the call for a slot that carries the group
seated : (g : Over) (t : ℕ) (c : After-seat_slot g t)
    → HasMeta g.N.Name.facts.start g.M.Mapper.span g.M.Mapper.runs g.M.Mapper.refused c.args.class c.in_ok-meta.meta c.args.self.now c.seat_slot.new.self
seated g t c =
    let there = meta_found g.N.Name.facts.start g.M.Mapper.span g.M.Mapper.runs g.M.Mapper.refused c.find_meta.new.mapper
    c.self.view_is c.requires.class c.requires.idle c.in_default.ensures.only c.in_default.ensures.none c.in_default.ensures.working
    c.in_ok-meta.ensures.mapper c.in_ok-meta.ensures.stock c.in_ok-meta.ensures.ok c.in_ok-meta.ensures.calm in
    meta_then there.has
    c.seat_slot.new.self
    c.seat_slot.ensures.working
    c.seat_slot.ensures.on
    c.seat_slot.ensures.hand
    (below_less c.slot_for_group-carried.ensures.above c.seat_slot.ensures.below)

-- a meta was found: nothing was stored in a slot, and no group came
stores_found : (g : Over) (t : ℕ) (c : In_ok-meta g t) → c.find_meta.new.seat.stores ≡ c.args.self.now.seat.stores
stores_found g t c =
    ap (λ (v : View). v.stores) c.in_ok-meta.ensures.ok.view.view
    ∙ ap (λ (v : View). v.stores) (only_inside c.args.class c.args.self.now (opened g t c) c.serve_ring.new.self c.self.view_is c.in_default.ensures.only).view

groups_found : (g : Over) (t : ℕ) (c : In_ok-meta g t) → c.find_meta.new.seat.desk.groups ≡ c.args.self.now.seat.desk.groups
groups_found g t c =
    ap (λ (v : View). v.desk.groups) c.in_ok-meta.ensures.ok.view.view
    ∙ ap (λ (v : View). v.desk.groups) (only_inside c.args.class c.args.self.now (opened g t c) c.serve_ring.new.self c.self.view_is c.in_default.ensures.only).view

pub returns-in-Some-clause-untouched : goal.returns-in-Some-clause-untouched
returns-in-Some-clause-untouched g t c =
    untouched_same _ _ c.args.self.now.seat c.serve_ring.new.self.seat (ap (λ (v : View). v.stores) c.in-Some.ensures.only.view)

pub returns-in-Ok-clause-untouched : goal.returns-in-Ok-clause-untouched
returns-in-Ok-clause-untouched g t c =
    untouched_same c.in_ok-meta.meta 0 c.args.self.now.seat c.build_mapped.new.self.seat (c.in-Ok.ensures.stores ∙ stores_found g t (goal.at.returns-in-Ok-clause-untouched g t c).In_ok-meta)

pub returns-in-Ok-seat_slot-clause-untouched : goal.returns-in-Ok-seat_slot-clause-untouched
returns-in-Ok-seat_slot-clause-untouched g t c =
    let at = (goal.at.returns-in-Ok-seat_slot-clause-untouched g t c).In_ok-meta in
    c.build_nested.ensures.untouched c.args.self.now.seat
    (λ k there. c.in_ok-meta.ensures.ok.free.unborn k (subst (Among k) (sym (groups_found g t at)) there))
    (untouched_since _ _ c.args.self.now.seat c.find_meta.new.seat c.seat_slot.new.self.seat (stores_found g t at) (groups_found g t at) c.in-Ok-seat_slot.ensures.untouched)

pub returns-in-Some-clause-below : goal.returns-in-Some-clause-below
returns-in-Some-clause-below g t c =
    only_below c.args.class c.args.self.now c.serve_ring.new.self c.requires.class c.in-Some.ensures.only

pub returns-in-Some-clause-builds : goal.returns-in-Some-clause-builds
returns-in-Some-clause-builds g t c =
    gets_served (g.P.Rules.count_gives c.args.self.now.rules) c.args.self.now c.serve_ring.new.self c.args.class c.args.bytes c.in-Some.ensures.only c.in-Some.ensures.source

pub find_meta-requires-clause-stock : goal.find_meta-requires-clause-stock
find_meta-requires-clause-stock g t c =
    stock_at g.N.Name.facts.start g.M.Mapper.span g.M.Mapper.runs g.M.Mapper.refused c.self.view_is c.in_default.ensures.working

pub returns-in_err-meta-clause-on : goal.returns-in_err-meta-clause-on
returns-in_err-meta-clause-on g t c =
    page_on g.N.Name.facts.start g.M.Mapper.span g.M.Mapper.runs g.M.Mapper.refused c.find_meta.new.mapper
    c.self.view_is c.requires.class c.requires.idle c.in_default.ensures.only c.in_default.ensures.none c.in_default.ensures.working
    c.in_err-meta.ensures.mapper c.in_err-meta.ensures.stock c.in_err-meta.ensures.err

pub returns-in_err-meta-clause-below : goal.returns-in_err-meta-clause-below
returns-in_err-meta-clause-below g t c =
    page_below g.N.Name.facts.start g.M.Mapper.span g.M.Mapper.runs g.M.Mapper.refused c.find_meta.new.mapper
    c.self.view_is c.requires.class c.requires.idle c.in_default.ensures.only c.in_default.ensures.none c.in_default.ensures.working
    c.in_err-meta.ensures.mapper c.in_err-meta.ensures.stock c.in_err-meta.ensures.err

pub returns-in_err-meta-clause-cause : goal.returns-in_err-meta-clause-cause
returns-in_err-meta-clause-cause g t c =
    on_err c.from_residual.result
    (area_cause c.args.class c.args.self.now _
    (only_inside c.args.class c.args.self.now _ c.serve_ring.new.self c.self.view_is c.in_default.ensures.only)
    (g.M.Mapper.refused c.self.inside.mapper) (g.M.Mapper.refused c.find_meta.new.mapper) _
    c.find_meta.new.seat c.find_meta.new.stock c.find_meta.new.mapper c.in_err-meta.ensures.err
    (none_inside c.args.class c.args.self.now _ c.serve_ring.new.self c.self.view_is c.in_default.ensures.none)
    (g.P.Rules.count_gives c.args.self.now.rules) c.args.bytes (g.M.Mapper.refused c.find_meta.new.mapper).last refl c.in_err-meta.ensures.none)

pub returns-in_err-meta-clause-leaves : goal.returns-in_err-meta-clause-leaves
returns-in_err-meta-clause-leaves g t c =
    on_err c.from_residual.result
    (area_leaves c.args.class c.args.self.now _
    (only_inside c.args.class c.args.self.now _ c.serve_ring.new.self c.self.view_is c.in_default.ensures.only)
    (g.M.Mapper.refused c.self.inside.mapper) (g.M.Mapper.refused c.find_meta.new.mapper) _
    c.find_meta.new.seat c.find_meta.new.stock c.find_meta.new.mapper c.in_err-meta.ensures.err
    (none_inside c.args.class c.args.self.now _ c.serve_ring.new.self c.self.view_is c.in_default.ensures.none))

pub ask-ask-requires-clause-working : goal.ask-ask-requires-clause-working
ask-ask-requires-clause-working g t c =
    (found g t (goal.at.ask-ask-requires-clause-working g t c).In_ok-meta).has.working

pub build_mapped-requires-clause-working : goal.build_mapped-requires-clause-working
build_mapped-requires-clause-working g t c =
    (found g t (goal.at.build_mapped-requires-clause-working g t c).In_ok-meta).has.working

pub build_mapped-requires-clause-bare : goal.build_mapped-requires-clause-bare
build_mapped-requires-clause-bare g t c =
    subst (λ (k : ℕ). IsBare c.find_meta.new.seat.desk.zero_avail c.self.inside.rings k)
    (sym c.ask-ask.ensures.asks.class_is)
    (found g t (goal.at.build_mapped-requires-clause-bare g t c).In_ok-meta).bare

pub returns-in-Ok-clause-hand : goal.returns-in-Ok-clause-hand
returns-in-Ok-clause-hand g t c =
    (meta_over (found g t (goal.at.returns-in-Ok-clause-hand g t c).In_ok-meta).has c.build_mapped.new.self
    c.in-Ok.ensures.working c.in-Ok.ensures.on c.in-Ok.ensures.hand (below_of c.ask-ask.ensures.asks.class_is c.in-Ok.ensures.below)).hand

pub returns-in-Ok-clause-below : goal.returns-in-Ok-clause-below
returns-in-Ok-clause-below g t c =
    (meta_over (found g t (goal.at.returns-in-Ok-clause-below g t c).In_ok-meta).has c.build_mapped.new.self
    c.in-Ok.ensures.working c.in-Ok.ensures.on c.in-Ok.ensures.hand (below_of c.ask-ask.ensures.asks.class_is c.in-Ok.ensures.below)).below

pub returns-in-Ok-clause-builds : goal.returns-in-Ok-clause-builds
returns-in-Ok-clause-builds g t c =
    mapped_builds (asked g t (goal.at.returns-in-Ok-clause-builds g t c).In_ok-meta
    c.ask-ask.ensures.asks c.count-count.ensures.answer c.count-count.ensures.allowed) c.args.bytes
    (is_large c.is_nested_size.result c.is_nested_size.ensures c.if-not-is_nested_size.true)
    c.build_mapped.new.self c.in-Ok.ensures.on c.in-Ok.ensures.built c.in-Ok.ensures.run c.in-Ok.ensures.counted c.build_mapped.ensures.bounces

pub returns-in-Err-clause-working : goal.returns-in-Err-clause-working
returns-in-Err-clause-working g t c =
    (meta_put (run_refused g t (goal.at.returns-in-Err-clause-working g t c).In-Err)
    c.self-then-not-is_nested_size.view_is c.put.ensures.appended).working

pub returns-in-Err-clause-on : goal.returns-in-Err-clause-on
returns-in-Err-clause-on g t c =
    (meta_put (run_refused g t (goal.at.returns-in-Err-clause-on g t c).In-Err)
    c.self-then-not-is_nested_size.view_is c.put.ensures.appended).on

pub returns-in-Err-clause-hand : goal.returns-in-Err-clause-hand
returns-in-Err-clause-hand g t c =
    (meta_put (run_refused g t (goal.at.returns-in-Err-clause-hand g t c).In-Err)
    c.self-then-not-is_nested_size.view_is c.put.ensures.appended).hand

pub returns-in-Err-clause-below : goal.returns-in-Err-clause-below
returns-in-Err-clause-below g t c =
    (meta_put (run_refused g t (goal.at.returns-in-Err-clause-below g t c).In-Err)
    c.self-then-not-is_nested_size.view_is c.put.ensures.appended).below

pub returns-in-Err-clause-cause : goal.returns-in-Err-clause-cause
returns-in-Err-clause-cause g t c =
    mapped_cause (asked g t (goal.at.returns-in-Err-clause-cause g t c).In_ok-meta
    c.ask-ask.ensures.asks c.count-count.ensures.answer c.count-count.ensures.allowed) c.args.bytes
    c.build_mapped.new.self c.self-then-not-is_nested_size.view_is c.put.new.self
    (is_large c.is_nested_size.result c.is_nested_size.ensures c.if-not-is_nested_size.true)
    c.in-Err.ensures.left c.build_mapped.ensures.bounces g.M.Mapper.refused c.in-Err.ensures.asked

pub returns-in-Err-clause-leaves : goal.returns-in-Err-clause-leaves
returns-in-Err-clause-leaves g t c =
    mapped_leaves (asked g t (goal.at.returns-in-Err-clause-leaves g t c).In_ok-meta
    c.ask-ask.ensures.asks c.count-count.ensures.answer c.count-count.ensures.allowed) c.args.bytes
    c.build_mapped.new.self c.self-then-not-is_nested_size.view_is c.put.new.self
    (is_large c.is_nested_size.result c.is_nested_size.ensures c.if-not-is_nested_size.true)
    c.in-Err.ensures.left

pub returns-in-Err-clause-most : goal.returns-in-Err-clause-most
returns-in-Err-clause-most g t c =
    most_few _ _ _ _
    (found g t (goal.at.returns-in-Err-clause-most g t c).In_ok-meta).calm.most
    (ap (λ (s : State g.row.M.Denot g.row.P.Denot). (g.M.Mapper.refused s.mapper).most) c.self-then-not-is_nested_size.view_is ∙ c.in-Err.ensures.most)
    (shape_few _ c.args.class c.args.bytes c.count-count.result c.ask-ask.ensures.asks.class_is c.requires.class c.requires.bytes c.count-count.ensures.allowed)

pub seat_slot-requires : goal.seat_slot-requires
seat_slot-requires g t c κs within =
    let there = found g t (goal.at.seat_slot-requires g t c).In_ok-meta in
    let slot = c.slot_for_group-carried.ensures in
    let above : c.args.class < c.slot_for_group-carried.result.class = slot.above in
    let known : c.slot_for_group-carried.result.class < 48 = slot.known in (
      omega (arith, above, known, c.decreases),
      (within.0, (within.1.0, (within.1.1, (slot.known, (slot.fits, (there.has.working, there.idle)))))),
    )

pub build_nested-requires-clause-meta : goal.build_nested-requires-clause-meta
build_nested-requires-clause-meta g t c =
    (seated g t (goal.at.build_nested-requires-clause-meta g t c).After-seat_slot).brings.has

pub build_nested-requires-clause-bare : goal.build_nested-requires-clause-bare
build_nested-requires-clause-bare g t c =
    bare_after c.slot_for_group-carried.ensures.above c.seat_slot.ensures.below
    (found g t (goal.at.build_nested-requires-clause-bare g t c).In_ok-meta).bare

pub put-requires-in-Err-seat_slot-clause-absent : goal.put-requires-in-Err-seat_slot-clause-absent
put-requires-in-Err-seat_slot-clause-absent g t c =
    absent_at g.N.Name.facts.start g.M.Mapper.span g.M.Mapper.runs g.M.Mapper.refused c.in_ok-meta.meta c.self-in-Err-seat_slot.view_is
    (seated g t (goal.at.put-requires-in-Err-seat_slot-clause-absent g t c).After-seat_slot).brings.has

pub returns-in-Ok-seat_slot-clause-hand : goal.returns-in-Ok-seat_slot-clause-hand
returns-in-Ok-seat_slot-clause-hand g t c =
    (meta_over (seated g t (goal.at.returns-in-Ok-seat_slot-clause-hand g t c).After-seat_slot) c.build_nested.new.self
    c.build_nested.ensures.working c.build_nested.ensures.on c.build_nested.ensures.hand c.build_nested.ensures.below).hand

pub returns-in-Ok-seat_slot-clause-below : goal.returns-in-Ok-seat_slot-clause-below
returns-in-Ok-seat_slot-clause-below g t c =
    (meta_over (seated g t (goal.at.returns-in-Ok-seat_slot-clause-below g t c).After-seat_slot) c.build_nested.new.self
    c.build_nested.ensures.working c.build_nested.ensures.on c.build_nested.ensures.hand c.build_nested.ensures.below).below

pub returns-in-Ok-seat_slot-clause-builds : goal.returns-in-Ok-seat_slot-clause-builds
returns-in-Ok-seat_slot-clause-builds g t c =
    nested_builds (asked g t (goal.at.returns-in-Ok-seat_slot-clause-builds g t c).In_ok-meta
    c.ask-ask.ensures.asks c.count-count.ensures.answer c.count-count.ensures.allowed) c.args.bytes
    (is_small c.is_nested_size.result c.is_nested_size.ensures c.if-not-is_nested_size.false)
    c.slot_for_group-carried.result.class c.slot_for_group-carried.result.bytes c.slot_for_group-carried.ensures.bytes c.slot_for_group-carried.ensures.least c.requires.class
    c.seat_slot.new.self c.build_nested.new.self c.in-Ok-seat_slot.ensures.builds
    c.build_nested.ensures.on c.build_nested.ensures.built c.build_nested.ensures.runs c.build_nested.ensures.counter c.build_nested.ensures.bounces

pub returns-in-Err-seat_slot-clause-working : goal.returns-in-Err-seat_slot-clause-working
returns-in-Err-seat_slot-clause-working g t c =
    (meta_put (seated g t (goal.at.returns-in-Err-seat_slot-clause-working g t c).After-seat_slot)
    c.self-in-Err-seat_slot.view_is c.put-in-Err-seat_slot.ensures.appended).working

pub returns-in-Err-seat_slot-clause-on : goal.returns-in-Err-seat_slot-clause-on
returns-in-Err-seat_slot-clause-on g t c =
    (meta_put (seated g t (goal.at.returns-in-Err-seat_slot-clause-on g t c).After-seat_slot)
    c.self-in-Err-seat_slot.view_is c.put-in-Err-seat_slot.ensures.appended).on

pub returns-in-Err-seat_slot-clause-hand : goal.returns-in-Err-seat_slot-clause-hand
returns-in-Err-seat_slot-clause-hand g t c =
    (meta_put (seated g t (goal.at.returns-in-Err-seat_slot-clause-hand g t c).After-seat_slot)
    c.self-in-Err-seat_slot.view_is c.put-in-Err-seat_slot.ensures.appended).hand

pub returns-in-Err-seat_slot-clause-below : goal.returns-in-Err-seat_slot-clause-below
returns-in-Err-seat_slot-clause-below g t c =
    (meta_put (seated g t (goal.at.returns-in-Err-seat_slot-clause-below g t c).After-seat_slot)
    c.self-in-Err-seat_slot.view_is c.put-in-Err-seat_slot.ensures.appended).below

pub returns-in-Err-seat_slot-clause-cause : goal.returns-in-Err-seat_slot-clause-cause
returns-in-Err-seat_slot-clause-cause g t c =
    nested_cause (asked g t (goal.at.returns-in-Err-seat_slot-clause-cause g t c).In_ok-meta
    c.ask-ask.ensures.asks c.count-count.ensures.answer c.count-count.ensures.allowed) c.args.bytes
    c.seat_slot.new.self c.self-in-Err-seat_slot.view_is c.put-in-Err-seat_slot.new.self
    (is_small c.is_nested_size.result c.is_nested_size.ensures c.if-not-is_nested_size.false)
    c.slot_for_group-carried.result.class c.slot_for_group-carried.result.bytes c.slot_for_group-carried.ensures.bytes c.slot_for_group-carried.ensures.least
    g.M.Mapper.refused c.in-Err-seat_slot.ensures.cause

pub returns-in-Err-seat_slot-clause-leaves : goal.returns-in-Err-seat_slot-clause-leaves
returns-in-Err-seat_slot-clause-leaves g t c =
    nested_leaves (asked g t (goal.at.returns-in-Err-seat_slot-clause-leaves g t c).In_ok-meta
    c.ask-ask.ensures.asks c.count-count.ensures.answer c.count-count.ensures.allowed) c.args.bytes
    c.seat_slot.new.self c.self-in-Err-seat_slot.view_is c.put-in-Err-seat_slot.new.self
    (is_small c.is_nested_size.result c.is_nested_size.ensures c.if-not-is_nested_size.false)
    c.slot_for_group-carried.result.class c.slot_for_group-carried.result.bytes c.slot_for_group-carried.ensures.bytes c.slot_for_group-carried.ensures.least
    _ c.in-Err-seat_slot.ensures.cause c.in-Err-seat_slot.ensures.leaves c.requires.class c.slot_for_group-carried.ensures.above c.seat_slot.ensures.below
