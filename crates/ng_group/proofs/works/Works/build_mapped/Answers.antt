use Rattle.std.proofs.Common.{◌≡◌, ◌+◌, ◌-◌, ◌%◌, ◌^◌, ◌≤◌, ◌∷◌, [], sym, ap, subst, ◌∙◌, inl, inr, refl, arith}
use Rattle.ng_ledger.specs.Standing.{Ledger}
use Rattle.ng_shelf.specs.declared.shape.RunShape.{RunShape}
use Rattle.ng_view.specs.declared.view.Group.{Group}
use Rattle.ng_group.specs.Building.{LeavesAll}
use Rattle.ng_group.specs.Serving.{HasServed}
use Rattle.ng_group.specs.States.{IsWorking, State, ledger_of}
use Rattle.ng_group.specs.Steps.{HandsOver, LeavesBelow}
use Rattle.ng_group.proofs.BuildingLemmas.{few_used, on_err, roomy, shaped_group}
use Rattle.ng_group.proofs.MappingLemmas.{ComesOnRun, absent, below_counted, below_mapped, counted_up, counted_works, group_in_space, groups_mapped, hand_mapped, mapped_counted, maps_counted, may_build, meta_outside, meta_ready, motion_mapped, noted_refused, over_counted, run_ready, served_mapped, stores_mapped, view_refused, working_mapped, working_refused}
use Rattle.ng_group.proofs.works.Works.build_mapped.Given.{Over}
use Rattle.ng_group.proofs.works.Works.build_mapped.Goals as goal

pub returns-in_err-base-clause-working : goal.returns-in_err-base-clause-working
returns-in_err-base-clause-working g c =
    let may = may_build g.N.Name.facts.start g.M.Mapper.span g.M.Mapper.runs g.M.Mapper.refused c.args.ask.now.class c.args.meta c.self.view_is c.requires.working c.requires.meta c.requires.bare in
    working_refused may.working c.in_err-base.ensures.err c.in_err-base.ensures.constant c.in_err-base.ensures.kept c.in_err-base.ensures.mapper.counted

pub returns-in_err-base-clause-left : goal.returns-in_err-base-clause-left
returns-in_err-base-clause-left g c =
    let may = may_build g.N.Name.facts.start g.M.Mapper.span g.M.Mapper.runs g.M.Mapper.refused c.args.ask.now.class c.args.meta c.self.view_is c.requires.working c.requires.meta c.requires.bare in
    on_err c.from_residual.result (subst (λ (s : State g.row.M.Denot g.row.P.Denot). LeavesAll s (record { seat = c.map_run.new.seat; rings = c.self.inside.rings; stock = c.self.inside.stock; parents = c.self.inside.parents; usage = c.self.inside.usage; bounces = c.step.new.self; counter = c.self.inside.counter; mapper = c.map_run.new.mapper; rules = c.self.inside.rules })) c.self.view_is
    (record { seat = view_refused may.working c.in_err-base.ensures.err; noted = noted_refused may.working c.in_err-base.ensures.err; rings = refl; parents = refl; usage = refl; counter = refl }))

pub publish_run-requires-clause-meta : goal.publish_run-requires-clause-meta
publish_run-requires-clause-meta g c =
    let may = may_build g.N.Name.facts.start g.M.Mapper.span g.M.Mapper.runs g.M.Mapper.refused c.args.ask.now.class c.args.meta c.self.view_is c.requires.working c.requires.meta c.requires.bare in
    meta_ready (maps_counted c.count_run.new.counter c.in_ok-base.ensures.ok c.count_run.ensures.word) may.hand.free

pub publish_run-requires-clause-run : goal.publish_run-requires-clause-run
publish_run-requires-clause-run g c =
    let may = may_build g.N.Name.facts.start g.M.Mapper.span g.M.Mapper.runs g.M.Mapper.refused c.args.ask.now.class c.args.meta c.self.view_is c.requires.working c.requires.meta c.requires.bare in
    run_ready (maps_counted c.count_run.new.counter c.in_ok-base.ensures.ok c.count_run.ensures.word) may.hand.free

pub publish_run-requires-clause-apart : goal.publish_run-requires-clause-apart
publish_run-requires-clause-apart g c =
    let may = may_build g.N.Name.facts.start g.M.Mapper.span g.M.Mapper.runs g.M.Mapper.refused c.args.ask.now.class c.args.meta c.self.view_is c.requires.working c.requires.meta c.requires.bare in
    meta_outside (maps_counted c.count_run.new.counter c.in_ok-base.ensures.ok c.count_run.ensures.word) may.hand.free (g.M.Mapper.span c.map_run.new.mapper) (g.M.Mapper.runs c.map_run.new.mapper) (g.met.M.Mapper.laid c.map_run.new.mapper) (mapped_counted c.map_run.new.seat c.count_run.new.seat c.in_ok-base.ensures.mapper.mapped c.count_run.ensures.word)

pub publish_run-requires-clause-shape : goal.publish_run-requires-clause-shape
publish_run-requires-clause-shape g c = inl (let shape = c.run_shape-shape in shaped_group c.args.ask.now c.args.bytes c.args.count c.args.meta c.in_ok-base.base shape.result c.requires.class.class c.requires.bytes c.requires.large shape.ensures.shape shape.ensures.slots shape.ensures.some shape.ensures.fits)

pub enter_first-requires-clause-absent : goal.enter_first-requires-clause-absent
enter_first-requires-clause-absent g c =
    let may = may_build g.N.Name.facts.start g.M.Mapper.span g.M.Mapper.runs g.M.Mapper.refused c.args.ask.now.class c.args.meta c.self.view_is c.requires.working c.requires.meta c.requires.bare in
    let stand = c.stand_once.ensures in
    absent may.working (record { classes = stand.classes; places = stand.places; once = stand.once; apart = stand.apart }) may.hand.free

pub enter_first-requires-clause-few : goal.enter_first-requires-clause-few
enter_first-requires-clause-few g c =
    let may = may_build g.N.Name.facts.start g.M.Mapper.span g.M.Mapper.runs g.M.Mapper.refused c.args.ask.now.class c.args.meta c.self.view_is c.requires.working c.requires.meta c.requires.bare in
    few_used c.args.ask.now.class c.run_shape-shape.result.count may.working.stands c.args.space.now.range.addressed c.requires.class.class c.run_shape-shape.ensures.slots.most

-- the group that came, and the books before it, with the counter as it was and as it is
abbrev group : (g : Over) (c : goal.After-enter_first g) → Group
group g c = record { meta = c.args.meta; base = c.in_ok-base.base; tag = c.args.ask.now.class + 1; last = c.run_shape-shape.result.count - 1; maplen = c.run_shape-shape.result.pages }

abbrev before : (g : Over) (c : goal.After-enter_first g) → Ledger
before g c = record { seat = c.self.inside.seat; rings = c.self.inside.rings; stock = c.self.inside.stock; parents = c.self.inside.parents; usage = c.self.inside.usage; counter = c.self.inside.counter }

comes : (g : Over) (c : goal.After-enter_first g) → ComesOnRun g.N.Name.facts.start (g.M.Mapper.span c.self.inside.mapper) (g.M.Mapper.span c.map_run.new.mapper) (g.M.Mapper.runs c.self.inside.mapper) (g.M.Mapper.runs c.map_run.new.mapper) (g.M.Mapper.refused c.self.inside.mapper) (g.M.Mapper.refused c.map_run.new.mapper) (counted_up (before g c) c.count_run.new.counter) (group g c) c.args.ask.now.class c.run_shape-shape.result.count c.first_active.result c.count_run.new.seat c.publish_run.new.seat
comes g c =
    let may = may_build g.N.Name.facts.start g.M.Mapper.span g.M.Mapper.runs g.M.Mapper.refused c.args.ask.now.class c.args.meta c.self.view_is c.requires.working c.requires.meta c.requires.bare in
    let stand = c.stand_once.ensures in
    let told = c.in_ok-base.ensures in
    let shape = c.run_shape-shape.ensures in
    let some : 1 ≤ c.run_shape-shape.result.count = shape.slots.some in
    let most : c.run_shape-shape.result.count ≤ 32 = shape.slots.most in
    let pages : c.run_shape-shape.result.pages ≤ 256 = shape.most in
    record {
      working = counted_works c.count_run.new.counter may.working;
      constant = told.constant;
      calm = told.calm;
      bounded = g.met.M.Mapper.bounded c.map_run.new.mapper;
      laid = g.met.M.Mapper.laid c.map_run.new.mapper;
      mapped = mapped_counted c.map_run.new.seat c.count_run.new.seat told.mapper.mapped c.count_run.ensures.word;
      note = (maps_counted c.count_run.new.counter told.ok c.count_run.ensures.word).note;
      publishes = c.publish_run.ensures;
      table = record { classes = stand.classes; places = stand.places; once = stand.once; apart = stand.apart };
      known = c.requires.class.class;
      of_class = refl;
      of_slots = omega (arith, some);
      group = group_in_space g.N.Name.facts.start (group g c) (let shape = c.run_shape-shape in shaped_group c.args.ask.now c.args.bytes c.args.count c.args.meta c.in_ok-base.base shape.result c.requires.class.class c.requires.bytes c.requires.large shape.ensures.shape shape.ensures.slots shape.ensures.some shape.ensures.fits) (omega arith) may.hand.free.place (omega (arith, some, most)) (omega (arith, pages)) told.ok.space.whole told.ok.space.below;
      paged = shape.some;
      free = may.hand.free;
      out = may.hand.taken;
      bare = may.bare;
    }

pub returns-clause-working : goal.returns-clause-working
returns-clause-working g c =
    subst (λ (s : State g.row.M.Denot g.row.P.Denot). IsWorking g.N.Name.facts.start (g.M.Mapper.span s.mapper) (g.M.Mapper.runs s.mapper) (g.M.Mapper.refused s.mapper) (ledger_of s)) (sym c.enter_first.ensures) (working_mapped (comes g c))

pub returns-clause-below : goal.returns-clause-below
returns-clause-below g c =
    subst (λ (s : State g.row.M.Denot g.row.P.Denot). LeavesBelow c.args.ask.now.class (ledger_of s) (ledger_of c.enter_first.new.self)) c.self.view_is
    (subst (λ (s : State g.row.M.Denot g.row.P.Denot). LeavesBelow c.args.ask.now.class (before g c) (ledger_of s)) (sym c.enter_first.ensures) (below_counted c.count_run.new.counter (below_mapped (comes g c))))

pub returns-clause-hand : goal.returns-clause-hand
returns-clause-hand g c =
    subst (λ (s : State g.row.M.Denot g.row.P.Denot). HandsOver c.args.meta (ledger_of s) (ledger_of c.enter_first.new.self)) c.self.view_is
    (subst (λ (s : State g.row.M.Denot g.row.P.Denot). HandsOver c.args.meta (before g c) (ledger_of s)) (sym c.enter_first.ensures) (over_counted c.count_run.new.counter (hand_mapped (comes g c))))

pub returns-clause-built : goal.returns-clause-built
returns-clause-built g c =
    let same = ap (λ (s : State g.row.M.Denot g.row.P.Denot). s.seat) c.self.view_is in
    let now = ap (λ (s : State g.row.M.Denot g.row.P.Denot). s.seat) c.enter_first.ensures in
    let idle : c.self.inside.seat.held ≡ [] = ap (λ (s : State g.row.M.Denot g.row.P.Denot). s.seat.held) c.self.view_is ∙ c.requires.idle in
    record {
      group = group g c;
      of_meta = refl;
      of_class = refl;
      of_slots = (comes g c).of_slots ∙ ap (λ (made : RunShape). made.count) c.run_shape-shape.ensures.shape;
      groups = ap (λ (s : State g.row.M.Denot g.row.P.Denot). s.seat.desk.groups) c.enter_first.ensures ∙ groups_mapped (comes g c) ∙ ap (λ (s : State g.row.M.Denot g.row.P.Denot). group g c ∷ s.seat.desk.groups) c.self.view_is;
      motion = ap (λ (s : State g.row.M.Denot g.row.P.Denot). s.seat.held) c.enter_first.ensures ∙ motion_mapped (comes g c) idle;
    }

pub returns-clause-served : goal.returns-clause-served
returns-clause-served g c =
    let idle : c.self.inside.seat.held ≡ [] = ap (λ (s : State g.row.M.Denot g.row.P.Denot). s.seat.held) c.self.view_is ∙ c.requires.idle in
    subst (λ (s : State g.row.M.Denot g.row.P.Denot). HasServed c.args.ask.now.class c.args.bytes s.seat c.args.meta 0) (sym c.enter_first.ensures)
    (served_mapped (comes g c) c.args.bytes idle (roomy (group g c) c.args.ask.now.class c.args.bytes refl c.requires.class.class c.requires.bytes (inr c.run_shape-shape.ensures.holds)))

pub returns-clause-counted : goal.returns-clause-counted
returns-clause-counted g c =
    ap (λ (s : State g.row.M.Denot g.row.P.Denot). s.counter) c.enter_first.ensures
    ∙ c.count_run.ensures.counted
    ∙ ap (λ (s : State g.row.M.Denot g.row.P.Denot). (s.counter + 1) % 2 ^ 64) c.self.view_is

pub returns-clause-stores : goal.returns-clause-stores
returns-clause-stores g c =
    ap (λ (s : State g.row.M.Denot g.row.P.Denot). s.seat.stores) c.enter_first.ensures
    ∙ stores_mapped (comes g c)
    ∙ ap (λ (s : State g.row.M.Denot g.row.P.Denot). s.seat.stores) c.self.view_is
