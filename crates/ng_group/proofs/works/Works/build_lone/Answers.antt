use Rattle.std.proofs.Common.{◌≡◌, ◌+◌, ◌*◌, ◌<◌, ◌≤◌, max, [], ap, subst, ◌∙◌, refl, arith}
use Rattle.ng_ledger.specs.Standing.{Ledger}
use Rattle.ng_view.specs.declared.view.Group.{Group}
use Rattle.ng_terms.specs.Accounts.{pages_for}
use Rattle.ng_group.specs.States.{State, ledger_of}
use Rattle.ng_group.specs.Steps.{HandsOver}
use Rattle.ng_group.proofs.BuildingLemmas.{on_err}
use Rattle.ng_group.proofs.LoneAskedLemmas.{lone_left}
use Rattle.ng_group.proofs.LoneLemmas.{ComesAlone, built_alone, hand_alone, lone_in_space, lone_live, may_build_lone, pages_asked, pages_hold, served_alone, stores_alone, working_alone}
use Rattle.ng_group.proofs.MappingLemmas.{counted_up, counted_works, mapped_counted, maps_counted, meta_outside, meta_ready, noted_refused, over_counted, run_ready, view_refused, with_seat, working_refused}
use Rattle.ng_group.proofs.works.Works.build_lone.Given.{Over}
use Rattle.ng_group.proofs.works.Works.build_lone.Goals as goal

pub returns-in_err-base-clause-working : goal.returns-in_err-base-clause-working
returns-in_err-base-clause-working g c =
    let may = may_build_lone g.N.Name.facts.start g.M.Mapper.span g.M.Mapper.runs g.M.Mapper.refused c.args.meta c.self.view_is c.requires.working c.requires.meta in
    working_refused may.working c.in_err-base.ensures.err c.in_err-base.ensures.constant c.in_err-base.ensures.kept c.in_err-base.ensures.mapper.counted

pub publish_run-requires-clause-meta : goal.publish_run-requires-clause-meta
publish_run-requires-clause-meta g c =
    let may = may_build_lone g.N.Name.facts.start g.M.Mapper.span g.M.Mapper.runs g.M.Mapper.refused c.args.meta c.self.view_is c.requires.working c.requires.meta in
    meta_ready (maps_counted c.count_run.new.counter c.in_ok-base.ensures.ok c.count_run.ensures.word) may.hand.free

pub publish_run-requires-clause-run : goal.publish_run-requires-clause-run
publish_run-requires-clause-run g c =
    let may = may_build_lone g.N.Name.facts.start g.M.Mapper.span g.M.Mapper.runs g.M.Mapper.refused c.args.meta c.self.view_is c.requires.working c.requires.meta in
    run_ready (maps_counted c.count_run.new.counter c.in_ok-base.ensures.ok c.count_run.ensures.word) may.hand.free

pub publish_run-requires-clause-apart : goal.publish_run-requires-clause-apart
publish_run-requires-clause-apart g c =
    let may = may_build_lone g.N.Name.facts.start g.M.Mapper.span g.M.Mapper.runs g.M.Mapper.refused c.args.meta c.self.view_is c.requires.working c.requires.meta in
    meta_outside (maps_counted c.count_run.new.counter c.in_ok-base.ensures.ok c.count_run.ensures.word) may.hand.free (g.M.Mapper.span c.map_run.new.mapper) (g.M.Mapper.runs c.map_run.new.mapper) (g.met.M.Mapper.laid c.map_run.new.mapper) (mapped_counted c.map_run.new.seat c.count_run.new.seat c.in_ok-base.ensures.mapper.mapped c.count_run.ensures.word)

pub note_ring-requires : goal.note_ring-requires
note_ring-requires g c = record { live = (lone_live c.publish_run.ensures) }

-- the group that came, and the books before it
abbrev group : (g : Over) (c : goal.After-note_ring g) → Group
group g c = record { meta = c.args.meta; base = c.in_ok-base.base; tag = 64; last = 0; maplen = c.div_ceil-pages.result }

abbrev before : (g : Over) (c : goal.After-note_ring g) → Ledger
before g c = record { seat = c.self.inside.seat; rings = c.self.inside.rings; stock = c.self.inside.stock; parents = c.self.inside.parents; usage = c.self.inside.usage; counter = c.self.inside.counter }

holds : (g : Over) (c : goal.After-note_ring g) → c.args.bytes + 20 ≤ 4096 * c.div_ceil-pages.result
holds g c =
    let fits : c.args.bytes + 16 + 4 ≤ 4096 * c.div_ceil-pages.result = pages_hold (c.args.bytes + 16 + 4) c.div_ceil-pages.result c.div_ceil-pages.ensures in
    omega (arith, fits)

comes : (g : Over) (c : goal.After-note_ring g) → ComesAlone g.N.Name.facts.start (g.M.Mapper.span c.self.inside.mapper) (g.M.Mapper.span c.map_run.new.mapper) (g.M.Mapper.runs c.self.inside.mapper) (g.M.Mapper.runs c.map_run.new.mapper) (g.M.Mapper.refused c.self.inside.mapper) (g.M.Mapper.refused c.map_run.new.mapper) (counted_up (before g c) c.count_run.new.counter) (group g c) c.count_run.new.seat c.publish_run.new.seat c.note_ring.result c.note_ring.new.seat
comes g c =
    let may = may_build_lone g.N.Name.facts.start g.M.Mapper.span g.M.Mapper.runs g.M.Mapper.refused c.args.meta c.self.view_is c.requires.working c.requires.meta in
    let told = c.in_ok-base.ensures in
    let fits : c.args.bytes + 20 ≤ 4096 * c.div_ceil-pages.result = holds g c in
    let some : 0 < c.div_ceil-pages.result = omega (arith, fits) in
    record {
      working = counted_works c.count_run.new.counter may.working;
      constant = told.constant;
      calm = told.calm;
      bounded = g.met.M.Mapper.bounded c.map_run.new.mapper;
      laid = g.met.M.Mapper.laid c.map_run.new.mapper;
      mapped = mapped_counted c.map_run.new.seat c.count_run.new.seat told.mapper.mapped c.count_run.ensures.word;
      note = (maps_counted c.count_run.new.counter told.ok c.count_run.ensures.word).note;
      publishes = c.publish_run.ensures;
      unlists = c.note_ring.ensures;
      kind = record { lone = refl; single = refl };
      group = lone_in_space g.N.Name.facts.start (group g c) (record { lone = refl; single = refl }) some may.hand.free.place told.ok.space.few told.ok.space.whole told.ok.space.below;
      paged = some;
      free = may.hand.free;
      out = may.hand.taken;
    }

pub returns-clause-working : goal.returns-clause-working
returns-clause-working g c = working_alone (comes g c)

pub returns-clause-hand : goal.returns-clause-hand
returns-clause-hand g c =
    subst (λ (s : State g.row.M.Denot g.row.P.Denot). HandsOver c.args.meta (ledger_of s) (with_seat (counted_up (before g c) c.count_run.new.counter) c.note_ring.new.seat)) c.self.view_is (over_counted c.count_run.new.counter (hand_alone (comes g c)))

pub returns-clause-served : goal.returns-clause-served
returns-clause-served g c =
    let idle : c.self.inside.seat.held ≡ [] = ap (λ (s : State g.row.M.Denot g.row.P.Denot). s.seat.held) c.self.view_is ∙ c.requires.idle in
    served_alone (comes g c) c.args.bytes idle (holds g c)

pub returns-clause-built : goal.returns-clause-built
returns-clause-built g c =
    built_alone (comes g c) _ c.args.self.now _ (pages_for c.args.bytes) _ c.self.view_is refl refl
    (pages_asked c.args.bytes c.div_ceil-pages.result c.div_ceil-pages.ensures) c.count_run.ensures.counted

pub returns-clause-stores : goal.returns-clause-stores
returns-clause-stores g c = stores_alone (comes g c) ∙ ap (λ (s : State g.row.M.Denot g.row.P.Denot). s.seat.stores) c.self.view_is

-- ---- the run was refused
pub returns-in_err-base-clause-asked : goal.returns-in_err-base-clause-asked
returns-in_err-base-clause-asked g c =
    on_err c.from_residual.result (c.in_err-base.ensures.err.asked.last ∙ pages_asked c.args.bytes c.div_ceil-pages.result c.div_ceil-pages.ensures)

pub returns-in_err-base-clause-most : goal.returns-in_err-base-clause-most
returns-in_err-base-clause-most g c =
    let pages : c.div_ceil-pages.result ≡ pages_for c.args.bytes = pages_asked c.args.bytes c.div_ceil-pages.result c.div_ceil-pages.ensures in
    on_err c.from_residual.result (
    c.in_err-base.ensures.err.asked.most
    ∙ ap (max (g.M.Mapper.refused c.self.inside.mapper).most) pages
    ∙ ap (λ (s : State g.row.M.Denot g.row.P.Denot). max (g.M.Mapper.refused s.mapper).most (pages_for c.args.bytes)) c.self.view_is
    )

pub returns-in_err-base-clause-left : goal.returns-in_err-base-clause-left
returns-in_err-base-clause-left g c =
    let may = may_build_lone g.N.Name.facts.start g.M.Mapper.span g.M.Mapper.runs g.M.Mapper.refused c.args.meta c.self.view_is c.requires.working c.requires.meta in
    on_err c.from_residual.result (lone_left _ c.args.self.now _ c.self.view_is (view_refused may.working c.in_err-base.ensures.err) (noted_refused may.working c.in_err-base.ensures.err) refl refl refl refl)
