use Rattle.std.proofs.Common.{subst}
use Rattle.ng_ledger.specs.Rings.{IsTable}
use Rattle.ng_lists.specs.Rings.{IsListed}
use Rattle.ng_group.specs.States.{State}
use Rattle.ng_group.proofs.UncountLemmas.{listed_in}
use Rattle.ng_group.proofs.works.Works.leave_any_ring.Goals as goal

pub leave_ring-requires-clause-class : goal.leave_ring-requires-clause-class
leave_ring-requires-clause-class g c =
    let table : IsTable c.self.inside.rings = record { classes = c.stand_once.ensures.classes; places = c.stand_once.ensures.places; once = c.stand_once.ensures.once; apart = c.stand_once.ensures.apart } in
    (listed_in g.N.Name.facts.start.pages c.args.self.now.seat c.args.self.now.rings c.args.meta c.args.class c.requires.working.stands.groups
    (subst (λ (s : State g.row.M.Denot g.row.P.Denot). IsTable s.rings) c.self.view_is table) c.requires.working.stands.ringed c.requires.whole c.requires.class
    (subst (λ (s : State g.row.M.Denot g.row.P.Denot). IsListed s.rings c.args.meta) c.self.view_is (c.has.ensures.listed.0 c.if-has.true))).0

pub leave_ring-requires-clause-member : goal.leave_ring-requires-clause-member
leave_ring-requires-clause-member g c =
    let table : IsTable c.self.inside.rings = record { classes = c.stand_once.ensures.classes; places = c.stand_once.ensures.places; once = c.stand_once.ensures.once; apart = c.stand_once.ensures.apart } in
    (listed_in g.N.Name.facts.start.pages c.args.self.now.seat c.args.self.now.rings c.args.meta c.args.class c.requires.working.stands.groups
    (subst (λ (s : State g.row.M.Denot g.row.P.Denot). IsTable s.rings) c.self.view_is table) c.requires.working.stands.ringed c.requires.whole c.requires.class
    (subst (λ (s : State g.row.M.Denot g.row.P.Denot). IsListed s.rings c.args.meta) c.self.view_is (c.has.ensures.listed.0 c.if-has.true))).1
