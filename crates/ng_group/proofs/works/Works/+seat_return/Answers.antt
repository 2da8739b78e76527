use Rattle.std.proofs.Common.{ap, ◌∙◌, arith}
use Rattle.ng_group.specs.States.{State, ledger_of}
use Rattle.ng_group.proofs.RecursionLemmas.{absent_at, around_above, around_returned, describes_read, describes_searched, ends, has_ended, keeps_read, keeps_same, keeps_then, keeps_told, only_keeps, place_at, place_of, returns_back, returns_run, returns_slot}
use Rattle.ng_group.proofs.works.Works.+seat_return.Goals as goal

pub end_group-requires-clause-group : goal.end_group-requires-clause-group
end_group-requires-clause-group g t c =
    describes_searched c.args.self.now.seat c.take_whole.new.self.seat c.args.meta c.args.group.now c.take_whole.ensures.only.view c.requires.group

pub put-requires-clause-place : goal.put-requires-clause-place
put-requires-clause-place g t c =
    let kept = only_keeps g.N.Name.facts.start g.M.Mapper.span g.M.Mapper.runs g.M.Mapper.refused c.args.group.now.class c.args.self.now c.take_whole.new.self c.take_whole.ensures.only c.take_whole.ensures.working in
    let whole = c.take_whole.ensures.whole c.if-not-take_whole.false in
    let keeps = keeps_same g.N.Name.facts.start g.M.Mapper.span g.M.Mapper.runs g.M.Mapper.refused c.end_group.new.self c.end_group.ensures.working in
    let has = has_ended g.N.Name.facts.start g.M.Mapper.span g.M.Mapper.runs g.M.Mapper.refused c.args.self.now c.take_whole.new.self c.end_group.new.self c.end_group.new.self c.args.meta kept whole c.end_group.ensures.on c.end_group.ensures.hand keeps in
    place_at g.N.Name.facts.start g.M.Mapper.span g.M.Mapper.runs g.M.Mapper.refused c.args.meta c.self.view_is keeps.working has

pub put-requires-clause-absent : goal.put-requires-clause-absent
put-requires-clause-absent g t c =
    let kept = only_keeps g.N.Name.facts.start g.M.Mapper.span g.M.Mapper.runs g.M.Mapper.refused c.args.group.now.class c.args.self.now c.take_whole.new.self c.take_whole.ensures.only c.take_whole.ensures.working in
    let whole = c.take_whole.ensures.whole c.if-not-take_whole.false in
    let keeps = keeps_same g.N.Name.facts.start g.M.Mapper.span g.M.Mapper.runs g.M.Mapper.refused c.end_group.new.self c.end_group.ensures.working in
    let has = has_ended g.N.Name.facts.start g.M.Mapper.span g.M.Mapper.runs g.M.Mapper.refused c.args.self.now c.take_whole.new.self c.end_group.new.self c.end_group.new.self c.args.meta kept whole c.end_group.ensures.on c.end_group.ensures.hand keeps in
    absent_at g.N.Name.facts.start g.M.Mapper.span g.M.Mapper.runs g.M.Mapper.refused c.args.meta c.self.view_is has

pub returns-in_default-clause-working : goal.returns-in_default-clause-working
returns-in_default-clause-working g t c =
    let kept = only_keeps g.N.Name.facts.start g.M.Mapper.span g.M.Mapper.runs g.M.Mapper.refused c.args.group.now.class c.args.self.now c.take_whole.new.self c.take_whole.ensures.only c.take_whole.ensures.working in
    let whole = c.take_whole.ensures.whole c.if-not-take_whole.false in
    let keeps = keeps_same g.N.Name.facts.start g.M.Mapper.span g.M.Mapper.runs g.M.Mapper.refused c.end_group.new.self c.end_group.ensures.working in
    (ends g.N.Name.facts.start g.M.Mapper.span g.M.Mapper.runs g.M.Mapper.refused c.args.self.now c.take_whole.new.self c.end_group.new.self c.end_group.new.self c.args.meta kept whole c.end_group.ensures.on c.end_group.ensures.hand keeps c.self.view_is c.put.ensures.appended).working

pub returns-in_default-clause-on : goal.returns-in_default-clause-on
returns-in_default-clause-on g t c =
    let kept = only_keeps g.N.Name.facts.start g.M.Mapper.span g.M.Mapper.runs g.M.Mapper.refused c.args.group.now.class c.args.self.now c.take_whole.new.self c.take_whole.ensures.only c.take_whole.ensures.working in
    let whole = c.take_whole.ensures.whole c.if-not-take_whole.false in
    let keeps = keeps_same g.N.Name.facts.start g.M.Mapper.span g.M.Mapper.runs g.M.Mapper.refused c.end_group.new.self c.end_group.ensures.working in
    (ends g.N.Name.facts.start g.M.Mapper.span g.M.Mapper.runs g.M.Mapper.refused c.args.self.now c.take_whole.new.self c.end_group.new.self c.end_group.new.self c.args.meta kept whole c.end_group.ensures.on c.end_group.ensures.hand keeps c.self.view_is c.put.ensures.appended).on

pub returns-in_default-clause-hand : goal.returns-in_default-clause-hand
returns-in_default-clause-hand g t c =
    let kept = only_keeps g.N.Name.facts.start g.M.Mapper.span g.M.Mapper.runs g.M.Mapper.refused c.args.group.now.class c.args.self.now c.take_whole.new.self c.take_whole.ensures.only c.take_whole.ensures.working in
    let whole = c.take_whole.ensures.whole c.if-not-take_whole.false in
    let keeps = keeps_same g.N.Name.facts.start g.M.Mapper.span g.M.Mapper.runs g.M.Mapper.refused c.end_group.new.self c.end_group.ensures.working in
    (ends g.N.Name.facts.start g.M.Mapper.span g.M.Mapper.runs g.M.Mapper.refused c.args.self.now c.take_whole.new.self c.end_group.new.self c.end_group.new.self c.args.meta kept whole c.end_group.ensures.on c.end_group.ensures.hand keeps c.self.view_is c.put.ensures.appended).hand

pub group_of-carrying-requires-clause-place : goal.group_of-carrying-requires-clause-place
group_of-carrying-requires-clause-place g t c =
    let has = c.in-Some.ensures.slot in
    let s = c.end_group.new.self in
    place_of g.N.Name.facts.start (g.M.Mapper.span s.mapper) (g.M.Mapper.runs s.mapper) (g.M.Mapper.refused s.mapper) (ledger_of s) has.group c.in-Some.parent c.end_group.ensures.working has.there has.of_meta

pub seat_return-requires : goal.seat_return-requires
seat_return-requires g t c κs within =
    let above = around_above c.in-Some.parent c.in-Some.place c.args.group.now.class c.group_of-carrying.result c.self.view_is c.in-Some.ensures.slot c.in-Some.ensures.above c.group_of-carrying.ensures.group in
    let works = (keeps_read g.N.Name.facts.start g.M.Mapper.span g.M.Mapper.runs g.M.Mapper.refused c.group_of-carrying.new.seat c.self.view_is c.group_of-carrying.ensures.reads c.end_group.ensures.working).working in
    let has = around_returned c.group_of-carrying.new.seat c.in-Some.parent c.in-Some.place c.self.view_is c.group_of-carrying.ensures.reads c.in-Some.ensures.slot in
    let describes = describes_read c.self.inside.seat c.group_of-carrying.new.seat c.in-Some.parent c.group_of-carrying.result c.group_of-carrying.ensures.reads c.group_of-carrying.ensures.group in
    (omega (arith, above, c.group_of-carrying.ensures.class, c.decreases), (within.0, (within.1.0, (within.1.1, (works, (has, describes))))))

pub put-requires-2-clause-place : goal.put-requires-2-clause-place
put-requires-2-clause-place g t c =
    let kept = only_keeps g.N.Name.facts.start g.M.Mapper.span g.M.Mapper.runs g.M.Mapper.refused c.args.group.now.class c.args.self.now c.take_whole.new.self c.take_whole.ensures.only c.take_whole.ensures.working in
    let whole = c.take_whole.ensures.whole c.if-not-take_whole.false in
    let reads = keeps_read g.N.Name.facts.start g.M.Mapper.span g.M.Mapper.runs g.M.Mapper.refused c.group_of-carrying.new.seat c.self.view_is c.group_of-carrying.ensures.reads c.end_group.ensures.working in
    let back = keeps_told g.N.Name.facts.start g.M.Mapper.span g.M.Mapper.runs g.M.Mapper.refused _ c.seat_return.new.self c.seat_return.ensures.working c.seat_return.ensures.on c.seat_return.ensures.hand in
    let keeps = keeps_then g.N.Name.facts.start g.M.Mapper.span g.M.Mapper.runs g.M.Mapper.refused c.end_group.new.self _ c.seat_return.new.self reads back in
    let has = has_ended g.N.Name.facts.start g.M.Mapper.span g.M.Mapper.runs g.M.Mapper.refused c.args.self.now c.take_whole.new.self c.end_group.new.self c.seat_return.new.self c.args.meta kept whole c.end_group.ensures.on c.end_group.ensures.hand keeps in
    place_at g.N.Name.facts.start g.M.Mapper.span g.M.Mapper.runs g.M.Mapper.refused c.args.meta c.self-2.view_is keeps.working has

pub put-requires-2-clause-absent : goal.put-requires-2-clause-absent
put-requires-2-clause-absent g t c =
    let kept = only_keeps g.N.Name.facts.start g.M.Mapper.span g.M.Mapper.runs g.M.Mapper.refused c.args.group.now.class c.args.self.now c.take_whole.new.self c.take_whole.ensures.only c.take_whole.ensures.working in
    let whole = c.take_whole.ensures.whole c.if-not-take_whole.false in
    let reads = keeps_read g.N.Name.facts.start g.M.Mapper.span g.M.Mapper.runs g.M.Mapper.refused c.group_of-carrying.new.seat c.self.view_is c.group_of-carrying.ensures.reads c.end_group.ensures.working in
    let back = keeps_told g.N.Name.facts.start g.M.Mapper.span g.M.Mapper.runs g.M.Mapper.refused _ c.seat_return.new.self c.seat_return.ensures.working c.seat_return.ensures.on c.seat_return.ensures.hand in
    let keeps = keeps_then g.N.Name.facts.start g.M.Mapper.span g.M.Mapper.runs g.M.Mapper.refused c.end_group.new.self _ c.seat_return.new.self reads back in
    let has = has_ended g.N.Name.facts.start g.M.Mapper.span g.M.Mapper.runs g.M.Mapper.refused c.args.self.now c.take_whole.new.self c.end_group.new.self c.seat_return.new.self c.args.meta kept whole c.end_group.ensures.on c.end_group.ensures.hand keeps in
    absent_at g.N.Name.facts.start g.M.Mapper.span g.M.Mapper.runs g.M.Mapper.refused c.args.meta c.self-2.view_is has

pub returns-clause-working : goal.returns-clause-working
returns-clause-working g t c =
    let kept = only_keeps g.N.Name.facts.start g.M.Mapper.span g.M.Mapper.runs g.M.Mapper.refused c.args.group.now.class c.args.self.now c.take_whole.new.self c.take_whole.ensures.only c.take_whole.ensures.working in
    let whole = c.take_whole.ensures.whole c.if-not-take_whole.false in
    let reads = keeps_read g.N.Name.facts.start g.M.Mapper.span g.M.Mapper.runs g.M.Mapper.refused c.group_of-carrying.new.seat c.self.view_is c.group_of-carrying.ensures.reads c.end_group.ensures.working in
    let back = keeps_told g.N.Name.facts.start g.M.Mapper.span g.M.Mapper.runs g.M.Mapper.refused _ c.seat_return.new.self c.seat_return.ensures.working c.seat_return.ensures.on c.seat_return.ensures.hand in
    let keeps = keeps_then g.N.Name.facts.start g.M.Mapper.span g.M.Mapper.runs g.M.Mapper.refused c.end_group.new.self _ c.seat_return.new.self reads back in
    (ends g.N.Name.facts.start g.M.Mapper.span g.M.Mapper.runs g.M.Mapper.refused c.args.self.now c.take_whole.new.self c.end_group.new.self c.seat_return.new.self c.args.meta kept whole c.end_group.ensures.on c.end_group.ensures.hand keeps c.self-2.view_is c.put-2.ensures.appended).working

pub returns-clause-on : goal.returns-clause-on
returns-clause-on g t c =
    let kept = only_keeps g.N.Name.facts.start g.M.Mapper.span g.M.Mapper.runs g.M.Mapper.refused c.args.group.now.class c.args.self.now c.take_whole.new.self c.take_whole.ensures.only c.take_whole.ensures.working in
    let whole = c.take_whole.ensures.whole c.if-not-take_whole.false in
    let reads = keeps_read g.N.Name.facts.start g.M.Mapper.span g.M.Mapper.runs g.M.Mapper.refused c.group_of-carrying.new.seat c.self.view_is c.group_of-carrying.ensures.reads c.end_group.ensures.working in
    let back = keeps_told g.N.Name.facts.start g.M.Mapper.span g.M.Mapper.runs g.M.Mapper.refused _ c.seat_return.new.self c.seat_return.ensures.working c.seat_return.ensures.on c.seat_return.ensures.hand in
    let keeps = keeps_then g.N.Name.facts.start g.M.Mapper.span g.M.Mapper.runs g.M.Mapper.refused c.end_group.new.self _ c.seat_return.new.self reads back in
    (ends g.N.Name.facts.start g.M.Mapper.span g.M.Mapper.runs g.M.Mapper.refused c.args.self.now c.take_whole.new.self c.end_group.new.self c.seat_return.new.self c.args.meta kept whole c.end_group.ensures.on c.end_group.ensures.hand keeps c.self-2.view_is c.put-2.ensures.appended).on

pub returns-clause-hand : goal.returns-clause-hand
returns-clause-hand g t c =
    let kept = only_keeps g.N.Name.facts.start g.M.Mapper.span g.M.Mapper.runs g.M.Mapper.refused c.args.group.now.class c.args.self.now c.take_whole.new.self c.take_whole.ensures.only c.take_whole.ensures.working in
    let whole = c.take_whole.ensures.whole c.if-not-take_whole.false in
    let reads = keeps_read g.N.Name.facts.start g.M.Mapper.span g.M.Mapper.runs g.M.Mapper.refused c.group_of-carrying.new.seat c.self.view_is c.group_of-carrying.ensures.reads c.end_group.ensures.working in
    let back = keeps_told g.N.Name.facts.start g.M.Mapper.span g.M.Mapper.runs g.M.Mapper.refused _ c.seat_return.new.self c.seat_return.ensures.working c.seat_return.ensures.on c.seat_return.ensures.hand in
    let keeps = keeps_then g.N.Name.facts.start g.M.Mapper.span g.M.Mapper.runs g.M.Mapper.refused c.end_group.new.self _ c.seat_return.new.self reads back in
    (ends g.N.Name.facts.start g.M.Mapper.span g.M.Mapper.runs g.M.Mapper.refused c.args.self.now c.take_whole.new.self c.end_group.new.self c.seat_return.new.self c.args.meta kept whole c.end_group.ensures.on c.end_group.ensures.hand keeps c.self-2.view_is c.put-2.ensures.appended).hand

pub returns-then-not-take_whole-clause-returns : goal.returns-then-not-take_whole-clause-returns
returns-then-not-take_whole-clause-returns g t c =
    returns_back (g.P.Rules.keep_gives c.args.self.now.rules) g.M.Mapper.runs c.args.self.now c.take_whole.new.self c.args.meta c.args.index c.args.group.now
    c.take_whole.result c.if-not-take_whole.true c.take_whole.ensures.takes

pub returns-in_default-clause-returns : goal.returns-in_default-clause-returns
returns-in_default-clause-returns g t c =
    returns_run g.P.Rules.keep_gives g.M.Mapper.runs c.args.self.now c.take_whole.new.self c.args.meta c.args.index c.args.group.now c.take_whole.result c.if-not-take_whole.false c.take_whole.ensures.takes
    c.put.new.self c.self.view_is c.put.ensures.appended c.in_default.ensures.ends

pub returns-clause-returns : goal.returns-clause-returns
returns-clause-returns g t c =
    returns_slot g.P.Rules.keep_gives g.M.Mapper.runs c.args.self.now c.take_whole.new.self c.args.meta c.args.index c.args.group.now c.take_whole.result c.if-not-take_whole.false c.take_whole.ensures.takes
    c.put-2.new.self c.in-Some.parent c.in-Some.place c.group_of-carrying.result c.group_of-carrying.new.seat c.self.view_is c.in-Some.ensures.ends
    (c.end_group.ensures.rules ∙ ap (λ (s : State g.row.M.Denot g.row.P.Denot). s.rules) c.take_whole.ensures.only.state)
    c.group_of-carrying.ensures.loads c.group_of-carrying.ensures.reads c.group_of-carrying.ensures.group c.seat_return.ensures.returns c.self-2.view_is c.put-2.ensures.appended
