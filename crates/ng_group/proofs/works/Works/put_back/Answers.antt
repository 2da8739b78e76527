use Rattle.std.proofs.Common.{ap, ◌∙◌}
use Rattle.ng_group.specs.States.{State}
use Rattle.ng_group.proofs.ReturningLemmas.{bare_returned, class_known, class_of, goes_back, idle_put, put_only, put_works, served_back}
use Rattle.ng_group.proofs.works.Works.put_back.Goals as goal

pub enlist-requires-clause-class : goal.enlist-requires-clause-class
enlist-requires-clause-class g c = class_known c.args.self.now.seat c.args.meta c.args.index c.args.class c.requires.slot c.requires.class c.requires.plain

pub enlist-requires-clause-group : goal.enlist-requires-clause-group
enlist-requires-clause-group g c = class_of c.args.self.now.seat c.args.meta c.args.index c.args.class c.requires.slot c.requires.class

pub put_slot-requires-clause-served : goal.put_slot-requires-clause-served
put_slot-requires-clause-served g c = served_back c.args.self.now c.enlist.new.self _ c.self.view_is c.args.class c.enlist.ensures.only c.args.meta c.args.index c.requires.slot c.requires.plain c.enlist.ensures.listed

pub put_slot-requires-clause-slot : goal.put_slot-requires-clause-slot
put_slot-requires-clause-slot g c =
    let few = (c.requires.working.stands.groups.each c.requires.slot.group c.requires.slot.there).few in
    bare_returned c.args.self.now.seat c.self.inside.seat.held c.args.meta c.args.index c.requires.slot few (ap (λ (s : State g.row.M.Denot g.row.P.Denot). s.seat.held) c.self.view_is ∙ c.enlist.ensures.held)

pub returns-clause-idle : goal.returns-clause-idle
returns-clause-idle g c =
    c.put_slot.ensures.held
    ∙ idle_put c.args.self.now.seat c.self.inside.seat.held c.args.meta c.args.index c.requires.slot (ap (λ (s : State g.row.M.Denot g.row.P.Denot). s.seat.held) c.self.view_is ∙ c.enlist.ensures.held)

pub returns-clause-working : goal.returns-clause-working
returns-clause-working g c = put_works c.args.self.now c.enlist.new.self _ c.self.view_is c.args.class c.enlist.ensures.only c.args.meta c.args.index c.put_slot.new.seat g.N.Name.facts.start g.M.Mapper.span g.M.Mapper.runs g.M.Mapper.refused c.enlist.ensures.working c.put_slot.ensures

pub returns-clause-only : goal.returns-clause-only
returns-clause-only g c = put_only c.args.self.now c.enlist.new.self _ c.self.view_is c.args.class c.enlist.ensures.only c.args.meta c.args.index c.put_slot.new.seat c.put_slot.ensures

pub returns-clause-back : goal.returns-clause-back
returns-clause-back g c = goes_back c.args.class c.args.meta c.self.view_is c.args.self.now c.args.index c.put_slot.new.seat c.enlist.ensures.enlists c.put_slot.ensures
