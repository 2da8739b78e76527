use Rattle.std.proofs.Common.{◌≡◌, ◌+◌, ◌-◌, ◌*◌, ◌%◌, ◌≤◌, ◌∷◌, sym, ap, subst, ◌∙◌, inl, refl, arith}
use Rattle.ng_ledger.specs.Standing.{Ledger}
use Rattle.ng_view.specs.declared.view.Group.{Group}
use Rattle.ng_group.specs.Serving.{HasServed}
use Rattle.ng_group.specs.States.{IsWorking, State, ledger_of}
use Rattle.ng_group.specs.Steps.{GoesOn, HandsOver, LeavesBelow}
use Rattle.ng_group.proofs.BuildingLemmas.{few_used, roomy}
use Rattle.ng_group.proofs.MappingLemmas.{absent}
use Rattle.ng_group.proofs.NestingLemmas.{ComesInSlot, MayNest, below_nested, carrier_few, excuses_nested, found_class, found_low, found_paged, groups_nested, hand_nested, has_carrier, may_nest, meta_read, motion_nested, nests_nested, on_nested, runs_nested, served_nested, slot_begins, slot_group, slot_inside, slot_low, slot_whole, untouched_nested, working_nested}
use Rattle.ng_group.specs.Untouched.{IsUntouched}
use Rattle.ng_group.proofs.works.Works.build_nested.Given.{Over}
use Rattle.ng_group.proofs.works.Works.build_nested.Goals as goal

pub overflow_add-carrier : goal.overflow_add-carrier
overflow_add-carrier g c =
    let may = may_nest g.N.Name.facts.start g.M.Mapper.span g.M.Mapper.runs g.M.Mapper.refused c.args.class c.args.count c.args.slot.0 c.args.slot.1 c.args.meta c.requires.slot.0 c.self.view_is c.requires.working c.requires.meta c.requires.bare c.requires.slot.3 in
    let low = found_low may.may.working c.requires.class c.requires.count c.requires.small c.args.space.now.range.addressed c.requires.slot.1 c.requires.slot.2 may.served c.group_of-group.result (c.group_of-group.ensures.group may.served.group may.served.there may.served.of_meta) in omega (arith, low)

pub stride-requires-clause-class : goal.stride-requires-clause-class
stride-requires-clause-class g c =
    let may = may_nest g.N.Name.facts.start g.M.Mapper.span g.M.Mapper.runs g.M.Mapper.refused c.args.class c.args.count c.args.slot.0 c.args.slot.1 c.args.meta c.requires.slot.0 c.self.view_is c.requires.working c.requires.meta c.requires.bare c.requires.slot.3 in
    found_class may.may.working c.requires.class c.requires.count c.requires.small c.args.space.now.range.addressed c.requires.slot.1 c.requires.slot.2 may.served c.group_of-group.result (c.group_of-group.ensures.group may.served.group may.served.there may.served.of_meta)

pub stride-requires-clause-maplen : goal.stride-requires-clause-maplen
stride-requires-clause-maplen g c =
    let may = may_nest g.N.Name.facts.start g.M.Mapper.span g.M.Mapper.runs g.M.Mapper.refused c.args.class c.args.count c.args.slot.0 c.args.slot.1 c.args.meta c.requires.slot.0 c.self.view_is c.requires.working c.requires.meta c.requires.bare c.requires.slot.3 in
    found_paged may.may.working c.requires.class c.requires.count c.requires.small c.args.space.now.range.addressed c.requires.slot.1 c.requires.slot.2 may.served c.group_of-group.result (c.group_of-group.ensures.group may.served.group may.served.there may.served.of_meta)

pub slot_start-requires : goal.slot_start-requires
slot_start-requires g c =
    let may = may_nest g.N.Name.facts.start g.M.Mapper.span g.M.Mapper.runs g.M.Mapper.refused c.args.class c.args.count c.args.slot.0 c.args.slot.1 c.args.meta c.requires.slot.0 c.self.view_is c.requires.working c.requires.meta c.requires.bare c.requires.slot.3 in
    slot_low may.may.working c.requires.class c.requires.count c.requires.small c.args.space.now.range.addressed c.requires.slot.1 c.requires.slot.2 may.served c.group_of-group.result (c.group_of-group.ensures.group may.served.group may.served.there may.served.of_meta) c.stride.result c.stride.ensures.value

pub publish_slot-requires-clause-meta : goal.publish_slot-requires-clause-meta
publish_slot-requires-clause-meta g c =
    let may = may_nest g.N.Name.facts.start g.M.Mapper.span g.M.Mapper.runs g.M.Mapper.refused c.args.class c.args.count c.args.slot.0 c.args.slot.1 c.args.meta c.requires.slot.0 c.self.view_is c.requires.working c.requires.meta c.requires.bare c.requires.slot.3 in
    meta_read c.group_of-group.ensures.loads may.may.hand.free

pub publish_slot-requires-clause-whole : goal.publish_slot-requires-clause-whole
publish_slot-requires-clause-whole g c =
    let may = may_nest g.N.Name.facts.start g.M.Mapper.span g.M.Mapper.runs g.M.Mapper.refused c.args.class c.args.count c.args.slot.0 c.args.slot.1 c.args.meta c.requires.slot.0 c.self.view_is c.requires.working c.requires.meta c.requires.bare c.requires.slot.3 in
    subst (λ n. n % 16 ≡ 0) (sym c.slot_start.ensures) (slot_whole may.may.working c.requires.class c.requires.count c.requires.small c.args.space.now.range.addressed c.requires.slot.1 c.requires.slot.2 may.served c.group_of-group.result (c.group_of-group.ensures.group may.served.group may.served.there may.served.of_meta) c.stride.result c.stride.ensures.value c.stride.ensures.aligned)

pub publish_slot-requires-clause-inside : goal.publish_slot-requires-clause-inside
publish_slot-requires-clause-inside g c =
    let may = may_nest g.N.Name.facts.start g.M.Mapper.span g.M.Mapper.runs g.M.Mapper.refused c.args.class c.args.count c.args.slot.0 c.args.slot.1 c.args.meta c.requires.slot.0 c.self.view_is c.requires.working c.requires.meta c.requires.bare c.requires.slot.3 in
    subst (λ n. n + c.stride.result ≤ 4096 * g.N.Name.facts.start.pages) (sym c.slot_start.ensures) (slot_inside may.may.working c.requires.class c.requires.count c.requires.small c.args.space.now.range.addressed c.requires.slot.1 c.requires.slot.2 may.served c.group_of-group.result (c.group_of-group.ensures.group may.served.group may.served.there may.served.of_meta) c.stride.result c.stride.ensures.value)

pub publish_slot-requires-clause-carrier : goal.publish_slot-requires-clause-carrier
publish_slot-requires-clause-carrier g c =
    let may = may_nest g.N.Name.facts.start g.M.Mapper.span g.M.Mapper.runs g.M.Mapper.refused c.args.class c.args.count c.args.slot.0 c.args.slot.1 c.args.meta c.requires.slot.0 c.self.view_is c.requires.working c.requires.meta c.requires.bare c.requires.slot.3 in
    has_carrier may.may.working c.requires.class c.requires.count c.requires.small c.args.space.now.range.addressed c.requires.slot.1 c.requires.slot.2 may.served c.group_of-group.result (c.group_of-group.ensures.group may.served.group may.served.there may.served.of_meta) c.stride.result c.stride.ensures.value c.group_of-group.new.seat c.group_of-group.ensures.loads (record { meta = c.args.meta; base = c.slot_start.result; tag = c.args.class + 1; last = c.args.count - 1; maplen = 0 }) refl (let some : 1 ≤ c.args.count = c.requires.count.some in omega (arith, some)) refl c.slot_start.ensures

pub set-requires-clause-index : goal.set-requires-clause-index
set-requires-clause-index g c =
    let may = may_nest g.N.Name.facts.start g.M.Mapper.span g.M.Mapper.runs g.M.Mapper.refused c.args.class c.args.count c.args.slot.0 c.args.slot.1 c.args.meta c.requires.slot.0 c.self.view_is c.requires.working c.requires.meta c.requires.bare c.requires.slot.3 in
    carrier_few may.may.working c.requires.class c.requires.count c.requires.small c.args.space.now.range.addressed c.requires.slot.1 c.requires.slot.2 may.served

pub enter_first-requires-clause-absent : goal.enter_first-requires-clause-absent
enter_first-requires-clause-absent g c =
    let may = may_nest g.N.Name.facts.start g.M.Mapper.span g.M.Mapper.runs g.M.Mapper.refused c.args.class c.args.count c.args.slot.0 c.args.slot.1 c.args.meta c.requires.slot.0 c.self.view_is c.requires.working c.requires.meta c.requires.bare c.requires.slot.3 in
    let stand = c.stand_once.ensures in
    absent may.may.working (record { classes = stand.classes; places = stand.places; once = stand.once; apart = stand.apart }) may.may.hand.free

pub enter_first-requires-clause-few : goal.enter_first-requires-clause-few
enter_first-requires-clause-few g c =
    let may = may_nest g.N.Name.facts.start g.M.Mapper.span g.M.Mapper.runs g.M.Mapper.refused c.args.class c.args.count c.args.slot.0 c.args.slot.1 c.args.meta c.requires.slot.0 c.self.view_is c.requires.working c.requires.meta c.requires.bare c.requires.slot.3 in
    few_used c.args.class c.args.count may.may.working.stands c.args.space.now.range.addressed c.requires.class c.requires.count.most

-- the group that came, the books before it, and the slot that it is in
abbrev group : (g : Over) (c : goal.After-enter_first g) → Group
group g c = record { meta = c.args.meta; base = c.slot_start.result; tag = c.args.class + 1; last = c.args.count - 1; maplen = 0 }

abbrev before : (g : Over) (c : goal.After-enter_first g) → Ledger
before g c = record { seat = c.self.inside.seat; rings = c.self.inside.rings; stock = c.self.inside.stock; parents = c.self.inside.parents; usage = c.self.inside.usage; counter = c.self.inside.counter }

may : (g : Over) (c : goal.After-enter_first g) → MayNest g.N.Name.facts.start (g.M.Mapper.span c.self.inside.mapper) (g.M.Mapper.runs c.self.inside.mapper) (g.M.Mapper.refused c.self.inside.mapper) (before g c) c.args.class c.args.count c.args.slot.0 c.args.slot.1 c.args.meta c.requires.slot.0
may g c = may_nest g.N.Name.facts.start g.M.Mapper.span g.M.Mapper.runs g.M.Mapper.refused c.args.class c.args.count c.args.slot.0 c.args.slot.1 c.args.meta c.requires.slot.0 c.self.view_is c.requires.working c.requires.meta c.requires.bare c.requires.slot.3

comes : (g : Over) (c : goal.After-enter_first g) → ComesInSlot g.N.Name.facts.start (g.M.Mapper.span c.self.inside.mapper) (g.M.Mapper.runs c.self.inside.mapper) (g.M.Mapper.refused c.self.inside.mapper) (before g c) (group g c) (may g c).served.group c.args.class c.args.count (c.args.count - 1) c.args.slot.0 c.args.slot.1 c.group_of-group.new.seat c.publish_slot.new.seat c.set.new.self
comes g c =
    let may = may g c in
    let stand = c.stand_once.ensures in
    let some : 1 ≤ c.args.count = c.requires.count.some in
    let counted : c.args.count - 1 + 1 ≡ c.args.count = omega (arith, some) in
    record {
      working = may.may.working;
      bounded = g.met.M.Mapper.bounded c.self.inside.mapper;
      laid = g.met.M.Mapper.laid c.self.inside.mapper;
      reads = c.group_of-group.ensures.loads;
      publishes = c.publish_slot.ensures;
      of_parent = may.served.of_meta;
      motion = may.served.motion;
      rings = record { classes = stand.classes; places = stand.places; once = stand.once; apart = stand.apart };
      known = c.requires.class;
      of_class = refl;
      of_slots = counted;
      group = slot_group may.may.working c.requires.class c.requires.count c.requires.small c.args.space.now.range.addressed c.requires.slot.1 c.requires.slot.2 may.served c.group_of-group.result (c.group_of-group.ensures.group may.served.group may.served.there may.served.of_meta) c.stride.result c.stride.ensures.value c.group_of-group.new.seat c.group_of-group.ensures.loads (group g c) refl counted refl c.slot_start.ensures c.stride.ensures.aligned may.may.hand.free.place;
      unmapped = refl;
      free = may.may.hand.free;
      out = may.may.hand.taken;
      bare = may.may.bare;
      set = c.set.ensures.set;
      others = c.set.ensures.others;
      pages = c.set.ensures.pages;
    }

pub returns-clause-working : goal.returns-clause-working
returns-clause-working g c =
    subst (λ (s : State g.row.M.Denot g.row.P.Denot). IsWorking g.N.Name.facts.start (g.M.Mapper.span s.mapper) (g.M.Mapper.runs s.mapper) (g.M.Mapper.refused s.mapper) (ledger_of s)) (sym c.enter_first.ensures) (working_nested (comes g c))

pub returns-clause-on : goal.returns-clause-on
returns-clause-on g c =
    subst (λ (s : State g.row.M.Denot g.row.P.Denot). GoesOn s.seat c.enter_first.new.self.seat) c.self.view_is
    (subst (λ (s : State g.row.M.Denot g.row.P.Denot). GoesOn c.self.inside.seat s.seat) (sym c.enter_first.ensures) (on_nested (comes g c)))

pub returns-clause-below : goal.returns-clause-below
returns-clause-below g c =
    subst (λ (s : State g.row.M.Denot g.row.P.Denot). LeavesBelow c.args.class (ledger_of s) (ledger_of c.enter_first.new.self)) c.self.view_is
    (subst (λ (s : State g.row.M.Denot g.row.P.Denot). LeavesBelow c.args.class (before g c) (ledger_of s)) (sym c.enter_first.ensures) (below_nested (comes g c)))

pub returns-clause-hand : goal.returns-clause-hand
returns-clause-hand g c =
    subst (λ (s : State g.row.M.Denot g.row.P.Denot). HandsOver c.args.meta (ledger_of s) (ledger_of c.enter_first.new.self)) c.self.view_is
    (subst (λ (s : State g.row.M.Denot g.row.P.Denot). HandsOver c.args.meta (before g c) (ledger_of s)) (sym c.enter_first.ensures) (hand_nested (comes g c)))

pub returns-clause-built : goal.returns-clause-built
returns-clause-built g c = record {
  group = group g c;
  of_meta = refl;
  of_class = refl;
  of_slots = (comes g c).of_slots;
  groups = ap (λ (s : State g.row.M.Denot g.row.P.Denot). s.seat.desk.groups) c.enter_first.ensures ∙ groups_nested (comes g c) ∙ ap (λ (s : State g.row.M.Denot g.row.P.Denot). group g c ∷ s.seat.desk.groups) c.self.view_is;
  motion = ap (λ (s : State g.row.M.Denot g.row.P.Denot). s.seat.held) c.enter_first.ensures ∙ motion_nested (comes g c);
}

pub returns-clause-served : goal.returns-clause-served
returns-clause-served g c bytes fits =
    subst (λ (s : State g.row.M.Denot g.row.P.Denot). HasServed c.args.class bytes s.seat c.args.meta 0) (sym c.enter_first.ensures)
    (served_nested (comes g c) bytes (roomy (group g c) c.args.class bytes refl c.requires.class fits (inl refl)))

pub returns-clause-carried : goal.returns-clause-carried
returns-clause-carried g c = record {
  place = record { group = (may g c).served.group; index = c.args.slot.1 };
  of_parent = (may g c).served.of_meta;
  of_index = refl;
  nests = ap (λ (s : State g.row.M.Denot g.row.P.Denot). s.seat.desk.layout.nests) c.enter_first.ensures ∙ nests_nested (comes g c) ∙ ap (λ (s : State g.row.M.Denot g.row.P.Denot). record { place = record { group = (may g c).served.group; index = c.args.slot.1 }; child = c.args.meta } ∷ s.seat.desk.layout.nests) c.self.view_is;
}

pub returns-clause-excuses : goal.returns-clause-excuses
returns-clause-excuses g c = ap (λ (s : State g.row.M.Denot g.row.P.Denot). s.seat.excuses) c.enter_first.ensures ∙ excuses_nested (comes g c) ∙ ap (λ (s : State g.row.M.Denot g.row.P.Denot). s.seat.excuses) c.self.view_is

pub returns-clause-runs : goal.returns-clause-runs
returns-clause-runs g c = ap (λ (s : State g.row.M.Denot g.row.P.Denot). s.seat.desk.layout.runs) c.enter_first.ensures ∙ runs_nested (comes g c) ∙ ap (λ (s : State g.row.M.Denot g.row.P.Denot). s.seat.desk.layout.runs) c.self.view_is

pub returns-clause-counter : goal.returns-clause-counter
returns-clause-counter g c =
    ap (λ (s : State g.row.M.Denot g.row.P.Denot). s.counter) c.enter_first.ensures
    ∙ ap (λ (s : State g.row.M.Denot g.row.P.Denot). s.counter) c.self.view_is

pub returns-clause-untouched : goal.returns-clause-untouched
returns-clause-untouched g c before unborn carrier =
    let may = may g c in
    let some : 1 ≤ c.args.count = c.requires.count.some in
    let begins = slot_begins may.may.working c.requires.class c.requires.count c.requires.small c.args.space.now.range.addressed c.requires.slot.1 c.requires.slot.2 may.served c.group_of-group.result (c.group_of-group.ensures.group may.served.group may.served.there may.served.of_meta) c.stride.result c.stride.ensures.value c.group_of-group.new.seat c.group_of-group.ensures.loads (group g c) refl (omega (arith, some)) refl c.slot_start.ensures in
    subst (λ (s : State g.row.M.Denot g.row.P.Denot). IsUntouched c.args.meta 0 before s.seat) (sym c.enter_first.ensures)
    (untouched_nested (comes g c) may.served.there begins before unborn
    (subst (λ (s : State g.row.M.Denot g.row.P.Denot). IsUntouched c.args.slot.0 c.args.slot.1 before s.seat) (sym c.self.view_is) carrier))
