use Rattle.std.proofs.Common.{ap, subst, ◌∙◌, ◌≡◌, ◌%◌, arith}
use Rattle.ng_policy.specs.Bounce.{stamped}
use Rattle.ng_serve.specs.Groups.{Describes}
use Rattle.ng_group.proofs.EndGroupLemmas.{ends_run, ends_slot, gone, has_parent, run_held, run_idle, run_in_hand, run_inside, run_live, run_state, run_unmapped, run_whole, slot_above, slot_head, slot_in_hand, slot_on, slot_returned, slot_state, still_of}
use Rattle.ng_group.proofs.works.Works.end_group.Goals as goal

pub leave_any_ring-requires-clause-class : goal.leave_any_ring-requires-clause-class
leave_any_ring-requires-clause-class g c =
    λ g' there of_meta. (c.requires.group g' there of_meta).tag

pub retire_group-requires-clause-group : goal.retire_group-requires-clause-group
retire_group-requires-clause-group g c =
    still_of c.args.group.now.class c.args.meta (Describes c.args.group.now) c.args.self.now c.leave_any_ring.new.self c.leave_any_ring.ensures.only c.requires.group

pub drop_run-requires-clause-whole : goal.drop_run-requires-clause-whole
drop_run-requires-clause-whole g c =
    let e = gone g.N.Name.facts.start g.M.Mapper.span g.M.Mapper.runs g.M.Mapper.refused c.args.meta c.args.group.now c.self.view_is c.leave_any_ring.ensures.only c.leave_any_ring.ensures.working c.leave_any_ring.ensures.whole c.leave_any_ring.ensures.left c.retire_group.ensures.ends c.requires.group in
    run_whole e c.if-group-gt0.true (g.met.M.Mapper.laid e.mid.mapper)

pub drop_run-requires-clause-inside : goal.drop_run-requires-clause-inside
drop_run-requires-clause-inside g c =
    let e = gone g.N.Name.facts.start g.M.Mapper.span g.M.Mapper.runs g.M.Mapper.refused c.args.meta c.args.group.now c.self.view_is c.leave_any_ring.ensures.only c.leave_any_ring.ensures.working c.leave_any_ring.ensures.whole c.leave_any_ring.ensures.left c.retire_group.ensures.ends c.requires.group in
    run_inside e c.if-group-gt0.true (g.met.M.Mapper.laid e.mid.mapper) (g.met.M.Mapper.bounded e.mid.mapper)

pub drop_run-requires-clause-idle : goal.drop_run-requires-clause-idle
drop_run-requires-clause-idle g c =
    let e = gone g.N.Name.facts.start g.M.Mapper.span g.M.Mapper.runs g.M.Mapper.refused c.args.meta c.args.group.now c.self.view_is c.leave_any_ring.ensures.only c.leave_any_ring.ensures.working c.leave_any_ring.ensures.whole c.leave_any_ring.ensures.left c.retire_group.ensures.ends c.requires.group in
    run_idle e c.if-group-gt0.true (g.met.M.Mapper.laid e.mid.mapper)

pub unmap-requires : goal.unmap-requires
unmap-requires g c =
    let e = gone g.N.Name.facts.start g.M.Mapper.span g.M.Mapper.runs g.M.Mapper.refused c.args.meta c.args.group.now c.self.view_is c.leave_any_ring.ensures.only c.leave_any_ring.ensures.working c.leave_any_ring.ensures.whole c.leave_any_ring.ensures.left c.retire_group.ensures.ends c.requires.group in
    run_live e c.if-group-gt0.true (g.met.M.Mapper.laid e.mid.mapper)

pub returns-then-group-gt0-clause-working : goal.returns-then-group-gt0-clause-working
returns-then-group-gt0-clause-working g c =
    let e = gone g.N.Name.facts.start g.M.Mapper.span g.M.Mapper.runs g.M.Mapper.refused c.args.meta c.args.group.now c.self.view_is c.leave_any_ring.ensures.only c.leave_any_ring.ensures.working c.leave_any_ring.ensures.whole c.leave_any_ring.ensures.left c.retire_group.ensures.ends c.requires.group in
    run_state e c.if-group-gt0.true (g.met.M.Mapper.laid e.mid.mapper) c.drop_run.new.seat c.drop_run.ensures.view c.unmap.new.self c.unmap.ensures.unmapped c.drop_run.ensures.kept c.unmap.ensures.constant c.unmap.ensures.calm

pub returns-then-group-gt0-clause-hand : goal.returns-then-group-gt0-clause-hand
returns-then-group-gt0-clause-hand g c =
    let e = gone g.N.Name.facts.start g.M.Mapper.span g.M.Mapper.runs g.M.Mapper.refused c.args.meta c.args.group.now c.self.view_is c.leave_any_ring.ensures.only c.leave_any_ring.ensures.working c.leave_any_ring.ensures.whole c.leave_any_ring.ensures.left c.retire_group.ensures.ends c.requires.group in
    run_in_hand e c.if-group-gt0.true (g.met.M.Mapper.laid e.mid.mapper) c.drop_run.new.seat c.drop_run.ensures.view c.unmap.new.self c.unmap.ensures.unmapped c.drop_run.ensures.kept (g.met.M.Mapper.bounded e.mid.mapper)

pub returns-then-group-gt0-clause-idle : goal.returns-then-group-gt0-clause-idle
returns-then-group-gt0-clause-idle g c =
    let e = gone g.N.Name.facts.start g.M.Mapper.span g.M.Mapper.runs g.M.Mapper.refused c.args.meta c.args.group.now c.self.view_is c.leave_any_ring.ensures.only c.leave_any_ring.ensures.working c.leave_any_ring.ensures.whole c.leave_any_ring.ensures.left c.retire_group.ensures.ends c.requires.group in
    run_held e c.if-group-gt0.true (g.met.M.Mapper.laid e.mid.mapper) c.drop_run.new.seat c.drop_run.ensures.view

pub of-parent-requires-clause-set : goal.of-parent-requires-clause-set
of-parent-requires-clause-set g c =
    let e = gone g.N.Name.facts.start g.M.Mapper.span g.M.Mapper.runs g.M.Mapper.refused c.args.meta c.args.group.now c.self.view_is c.leave_any_ring.ensures.only c.leave_any_ring.ensures.working c.leave_any_ring.ensures.whole c.leave_any_ring.ensures.left c.retire_group.ensures.ends c.requires.group in
    has_parent e (omega (arith, c.if-group-gt0.false))

pub clear_head-requires-clause-whole : goal.clear_head-requires-clause-whole
clear_head-requires-clause-whole g c =
    let e = gone g.N.Name.facts.start g.M.Mapper.span g.M.Mapper.runs g.M.Mapper.refused c.args.meta c.args.group.now c.self.view_is c.leave_any_ring.ensures.only c.leave_any_ring.ensures.working c.leave_any_ring.ensures.whole c.leave_any_ring.ensures.left c.retire_group.ensures.ends c.requires.group in
    subst (λ b. b % 16 ≡ 0) e.is.base (e.works.stands.groups.each e.whole.group e.whole.there).whole

pub clear_head-requires-clause-inside : goal.clear_head-requires-clause-inside
clear_head-requires-clause-inside g c =
    let e = gone g.N.Name.facts.start g.M.Mapper.span g.M.Mapper.runs g.M.Mapper.refused c.args.meta c.args.group.now c.self.view_is c.leave_any_ring.ensures.only c.leave_any_ring.ensures.working c.leave_any_ring.ensures.whole c.leave_any_ring.ensures.left c.retire_group.ensures.ends c.requires.group in
    let is = e.works.stands.groups.each e.whole.group e.whole.there in
    omega (arith, is.inside, e.is.base)

pub clear_head-requires-clause-slot : goal.clear_head-requires-clause-slot
clear_head-requires-clause-slot g c =
    let e = gone g.N.Name.facts.start g.M.Mapper.span g.M.Mapper.runs g.M.Mapper.refused c.args.meta c.args.group.now c.self.view_is c.leave_any_ring.ensures.only c.leave_any_ring.ensures.working c.leave_any_ring.ensures.whole c.leave_any_ring.ensures.left c.retire_group.ensures.ends c.requires.group in
    slot_head e (omega (arith, c.if-group-gt0.false)) c.of-parent.result.0 c.of-parent.result.1 c.of-parent.ensures

pub returns-clause-working : goal.returns-clause-working
returns-clause-working g c =
    let e = gone g.N.Name.facts.start g.M.Mapper.span g.M.Mapper.runs g.M.Mapper.refused c.args.meta c.args.group.now c.self.view_is c.leave_any_ring.ensures.only c.leave_any_ring.ensures.working c.leave_any_ring.ensures.whole c.leave_any_ring.ensures.left c.retire_group.ensures.ends c.requires.group in
    slot_state e (omega (arith, c.if-group-gt0.false)) c.of-parent.result.0 c.of-parent.result.1 c.of-parent.ensures c.clear_head.new.seat c.clear_head.ensures.view

pub returns-clause-on : goal.returns-clause-on
returns-clause-on g c =
    let e = gone g.N.Name.facts.start g.M.Mapper.span g.M.Mapper.runs g.M.Mapper.refused c.args.meta c.args.group.now c.self.view_is c.leave_any_ring.ensures.only c.leave_any_ring.ensures.working c.leave_any_ring.ensures.whole c.leave_any_ring.ensures.left c.retire_group.ensures.ends c.requires.group in
    slot_on e (omega (arith, c.if-group-gt0.false)) c.of-parent.result.0 c.of-parent.result.1 c.of-parent.ensures c.clear_head.new.seat c.clear_head.ensures.view

pub returns-clause-hand : goal.returns-clause-hand
returns-clause-hand g c =
    let e = gone g.N.Name.facts.start g.M.Mapper.span g.M.Mapper.runs g.M.Mapper.refused c.args.meta c.args.group.now c.self.view_is c.leave_any_ring.ensures.only c.leave_any_ring.ensures.working c.leave_any_ring.ensures.whole c.leave_any_ring.ensures.left c.retire_group.ensures.ends c.requires.group in
    slot_in_hand e (omega (arith, c.if-group-gt0.false)) c.of-parent.result.0 c.of-parent.result.1 c.of-parent.ensures c.clear_head.new.seat c.clear_head.ensures.view (g.met.M.Mapper.laid e.mid.mapper) (g.met.M.Mapper.bounded e.mid.mapper)

pub returns-clause-slot : goal.returns-clause-slot
returns-clause-slot g c =
    let e = gone g.N.Name.facts.start g.M.Mapper.span g.M.Mapper.runs g.M.Mapper.refused c.args.meta c.args.group.now c.self.view_is c.leave_any_ring.ensures.only c.leave_any_ring.ensures.working c.leave_any_ring.ensures.whole c.leave_any_ring.ensures.left c.retire_group.ensures.ends c.requires.group in
    slot_returned e (omega (arith, c.if-group-gt0.false)) c.of-parent.result.0 c.of-parent.result.1 c.of-parent.ensures c.clear_head.new.seat c.clear_head.ensures.view

pub returns-clause-above : goal.returns-clause-above
returns-clause-above g c =
    let e = gone g.N.Name.facts.start g.M.Mapper.span g.M.Mapper.runs g.M.Mapper.refused c.args.meta c.args.group.now c.self.view_is c.leave_any_ring.ensures.only c.leave_any_ring.ensures.working c.leave_any_ring.ensures.whole c.leave_any_ring.ensures.left c.retire_group.ensures.ends c.requires.group in
    slot_above e (omega (arith, c.if-group-gt0.false)) c.of-parent.result.0 c.of-parent.result.1 c.of-parent.ensures c.clear_head.new.seat c.clear_head.ensures.view

pub returns-then-group-gt0-clause-ends : goal.returns-then-group-gt0-clause-ends
returns-then-group-gt0-clause-ends g c =
    let e = gone g.N.Name.facts.start g.M.Mapper.span g.M.Mapper.runs g.M.Mapper.refused c.args.meta c.args.group.now c.self.view_is c.leave_any_ring.ensures.only c.leave_any_ring.ensures.working c.leave_any_ring.ensures.whole c.leave_any_ring.ensures.left c.retire_group.ensures.ends c.requires.group in
    ends_run g.M.Mapper.runs c.args.meta c.args.group.now c.self.view_is c.leave_any_ring.ensures.leaves c.retire_group.ensures.ends c.drop_run.new.seat c.stamp.new.self c.unmap.new.self c.if-group-gt0.true c.drop_run.ensures.view c.drop_run.ensures.reads
    (c.stamp.ensures ∙ ap (λ b. stamped b c.args.group.now.class) c.step.ensures) c.unmap.ensures.unmapped
    (run_unmapped e c.if-group-gt0.true (g.met.M.Mapper.laid e.mid.mapper) c.drop_run.new.seat c.drop_run.ensures.view c.unmap.new.self c.unmap.ensures.unmapped)

pub returns-clause-ends : goal.returns-clause-ends
returns-clause-ends g c =
    ends_slot g.M.Mapper.runs c.args.meta c.args.group.now c.self.view_is c.leave_any_ring.ensures.leaves c.retire_group.ensures.ends c.of-parent.result.0 c.of-parent.result.1 c.clear_head.new.seat (omega (arith, c.if-group-gt0.false)) c.of-parent.ensures c.clear_head.ensures.view c.clear_head.ensures.stores
