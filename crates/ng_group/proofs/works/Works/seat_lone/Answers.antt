use Rattle.std.proofs.Common.{ap, max, refl, ◌∙◌}
use Rattle.ng_terms.specs.Accounts.{pages_for}
use Rattle.ng_view.specs.declared.view.View.{View}
use Rattle.ng_group.specs.States.{State, ledger_of}
use Rattle.ng_group.proofs.BuildingLemmas.{on_err}
use Rattle.ng_group.proofs.LoneAskedLemmas.{area_cause, area_leaves, lone_builds, lone_cause, lone_leaves, most_area, most_same}
use Rattle.ng_group.proofs.LoneSeatLemmas.{failed_hand, failed_on, failed_working, found_over, found_working, stock_at}
use Rattle.ng_group.proofs.works.Works.seat_lone.Goals as goal

pub find_meta-requires-clause-stock : goal.find_meta-requires-clause-stock
find_meta-requires-clause-stock g c = stock_at g.N.Name.facts.start g.M.Mapper.span g.M.Mapper.runs g.M.Mapper.refused c.self.view_is c.requires.working

pub build_lone-requires-clause-working : goal.build_lone-requires-clause-working
build_lone-requires-clause-working g c =
    found_working g.N.Name.facts.start g.M.Mapper.span g.M.Mapper.runs g.M.Mapper.refused c.find_meta.new.mapper c.self.view_is c.in_ok-meta.ensures.ok c.requires.working c.in_ok-meta.ensures.mapper c.in_ok-meta.ensures.stock

pub returns-in-Ok-clause-hand : goal.returns-in-Ok-clause-hand
returns-in-Ok-clause-hand g c =
    found_over g.N.Name.facts.start g.M.Mapper.span g.M.Mapper.runs g.M.Mapper.refused c.find_meta.new.mapper c.self.view_is c.in_ok-meta.ensures.ok (ledger_of c.build_lone.new.self) c.in-Ok.ensures.hand

pub returns-in-Err-clause-working : goal.returns-in-Err-clause-working
returns-in-Err-clause-working g c =
    failed_working g.N.Name.facts.start g.M.Mapper.span g.M.Mapper.runs g.M.Mapper.refused c.find_meta.new.mapper c.self.view_is c.in_ok-meta.ensures.ok c.self-2.view_is c.in-Err.ensures.kept c.put.ensures.appended c.in-Err.ensures.working

pub returns-in-Err-clause-on : goal.returns-in-Err-clause-on
returns-in-Err-clause-on g c =
    failed_on g.N.Name.facts.start g.M.Mapper.span g.M.Mapper.runs g.M.Mapper.refused c.find_meta.new.mapper c.self.view_is c.in_ok-meta.ensures.ok c.self-2.view_is c.in-Err.ensures.kept c.put.ensures.appended c.in-Err.ensures.on

pub returns-in-Err-clause-hand : goal.returns-in-Err-clause-hand
returns-in-Err-clause-hand g c =
    failed_hand g.N.Name.facts.start g.M.Mapper.span g.M.Mapper.runs g.M.Mapper.refused c.find_meta.new.mapper c.self.view_is c.in_ok-meta.ensures.ok c.self-2.view_is c.in-Err.ensures.kept c.put.ensures.appended

pub returns-in-Ok-clause-stores : goal.returns-in-Ok-clause-stores
returns-in-Ok-clause-stores g c =
    c.in-Ok.ensures.stores
    ∙ ap (λ (v : View). v.stores) c.in_ok-meta.ensures.ok.view.view
    ∙ ap (λ (s : State g.row.M.Denot g.row.P.Denot). s.seat.stores) c.self.view_is

pub returns-in-Ok-clause-builds : goal.returns-in-Ok-clause-builds
returns-in-Ok-clause-builds g c =
    lone_builds g.N.Name.facts.start g.M.Mapper.runs _ c.args.self.now c.self.view_is c.in_ok-meta.meta
    c.find_meta.new.seat c.find_meta.new.stock c.find_meta.new.mapper c.in_ok-meta.ensures.ok
    c.args.bytes
    c.build_lone.new.self
    c.in-Ok.ensures.built
    c.build_lone.ensures.bounces

-- ---- the block's run was refused
pub returns-in-Err-clause-cause : goal.returns-in-Err-clause-cause
returns-in-Err-clause-cause g c =
    lone_cause g.N.Name.facts.start g.M.Mapper.runs _ c.args.self.now c.self.view_is c.in_ok-meta.meta
    c.find_meta.new.seat c.find_meta.new.stock c.find_meta.new.mapper c.in_ok-meta.ensures.ok
    c.build_lone.new.self (record c.args.self.now { seat = c.self-2.inside.seat; bounces = c.self-2.inside.bounce }) c.in-Err.ensures.left (ap (λ (s : State g.row.M.Denot g.row.P.Denot). s.seat) c.self-2.view_is) c.args.bytes _
    (ap (λ (s : State g.row.M.Denot g.row.P.Denot). (g.M.Mapper.refused s.mapper).last) c.self-2.view_is ∙ c.in-Err.ensures.asked)
    (ap (λ (s : State g.row.M.Denot g.row.P.Denot). s.bounces) c.self-2.view_is ∙ c.build_lone.ensures.bounces)

pub returns-in-Err-clause-leaves : goal.returns-in-Err-clause-leaves
returns-in-Err-clause-leaves g c =
    lone_leaves g.N.Name.facts.start g.M.Mapper.runs _ c.args.self.now c.self.view_is c.in_ok-meta.meta
    c.find_meta.new.seat c.find_meta.new.stock c.find_meta.new.mapper c.in_ok-meta.ensures.ok
    c.build_lone.new.self _ c.in-Err.ensures.left (ap (λ (s : State g.row.M.Denot g.row.P.Denot). s.seat) c.self-2.view_is)
    (ap (λ (s : State g.row.M.Denot g.row.P.Denot). s.rings) c.self-2.view_is)
    (ap (λ (s : State g.row.M.Denot g.row.P.Denot). s.usage) c.self-2.view_is)
    (ap (λ (s : State g.row.M.Denot g.row.P.Denot). s.counter) c.self-2.view_is)

pub returns-in-Err-clause-most : goal.returns-in-Err-clause-most
returns-in-Err-clause-most g c =
    most_same (g.M.Mapper.refused c.args.self.now.mapper).most (g.M.Mapper.refused c.find_meta.new.mapper).most _ (pages_for c.args.bytes)
    (ap (λ (s : State g.row.M.Denot g.row.P.Denot). (g.M.Mapper.refused s.mapper).most) c.self-2.view_is ∙ c.in-Err.ensures.most)
    (c.in_ok-meta.ensures.calm.most
    ∙ ap (λ (s : State g.row.M.Denot g.row.P.Denot). (g.M.Mapper.refused s.mapper).most) c.self.view_is)

-- ---- the area of a meta was refused
pub returns-in_err-meta-clause-cause : goal.returns-in_err-meta-clause-cause
returns-in_err-meta-clause-cause g c =
    on_err c.from_residual.result
    (area_cause _ c.args.self.now c.self.view_is _ _ _ c.find_meta.new.seat c.in_err-meta.ensures.err (record c.args.self.now { seat = c.find_meta.new.seat; bounces = c.self.inside.bounce }) refl refl c.args.bytes c.in_err-meta.ensures.none)

pub returns-in_err-meta-clause-leaves : goal.returns-in_err-meta-clause-leaves
returns-in_err-meta-clause-leaves g c =
    on_err c.from_residual.result
    (area_leaves _ c.args.self.now c.self.view_is _ _ _ c.find_meta.new.seat c.in_err-meta.ensures.err _ refl refl refl refl)

pub returns-in_err-meta-clause-most : goal.returns-in_err-meta-clause-most
returns-in_err-meta-clause-most g c =
    on_err c.from_residual.result
    (most_area c.args.bytes (g.M.Mapper.refused c.args.self.now.mapper).most (g.M.Mapper.refused c.find_meta.new.mapper).most
    (c.in_err-meta.ensures.err.asked.most ∙ ap (λ (s : State g.row.M.Denot g.row.P.Denot). max (g.M.Mapper.refused s.mapper).most 1) c.self.view_is))
