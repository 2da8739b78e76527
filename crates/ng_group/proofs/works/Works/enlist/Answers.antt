use Rattle.std.proofs.Common.{ap, subst}
use Rattle.ng_lists.specs.Rings.{IsListed, RingTable}
use Rattle.ng_view.specs.Lists.{Among}
use Rattle.ng_view.specs.declared.view.View.{View}
use Rattle.ng_ledger.specs.Rings.{IsTable}
use Rattle.ng_group.specs.States.{State}
use Rattle.ng_group.proofs.ReturningLemmas.{enlisted, enlists_here, enlists_last, listed_there}
use Rattle.ng_group.proofs.WordLemmas.{word_pages, word_was}
use Rattle.ng_group.proofs.works.Works.enlist.Goals as goal

pub returns-then-has-clause-listed : goal.returns-then-has-clause-listed
returns-then-has-clause-listed g c =
    let stands : IsTable c.self.inside.rings = record { classes = c.stand_once.ensures.classes; places = c.stand_once.ensures.places; once = c.stand_once.ensures.once; apart = c.stand_once.ensures.apart } in
    listed_there g.N.Name.facts.start g.M.Mapper.span g.M.Mapper.runs g.M.Mapper.refused c.args.self.now _ c.self.view_is c.requires.working c.args.meta stands (c.has.ensures.listed.0 c.if-has.true)

pub returns-then-has-clause-enlists : goal.returns-then-has-clause-enlists
returns-then-has-clause-enlists g c = enlists_here c.args.class c.args.meta c.self.view_is (c.has.ensures.listed.0 c.if-has.true)

pub returns-clause-working : goal.returns-clause-working
returns-clause-working g c =
    let stands : IsTable c.self.inside.rings = record { classes = c.stand_once.ensures.classes; places = c.stand_once.ensures.places; once = c.stand_once.ensures.once; apart = c.stand_once.ensures.apart } in
    let absent : ¬ IsListed c.self.inside.rings c.args.meta = λ listed. let is = c.has.ensures.listed.1 listed in let not = c.if-has.false in cc in
    let zero : Among c.args.meta c.args.self.now.seat.desk.zero_avail = c.requires.bare (subst (λ (s : State g.row.M.Denot g.row.P.Denot). ¬ IsListed s.rings c.args.meta) c.self.view_is absent) in
    enlisted g.N.Name.facts.start g.M.Mapper.span g.M.Mapper.runs g.M.Mapper.refused c.args.self.now _ c.self.view_is c.requires.working c.args.class c.args.meta c.note_ring.result c.note_ring.new.seat c.follow.new.seat c.enqueue.new.self stands c.requires.class c.requires.group zero c.note_ring.ensures c.enqueue.ensures.appended c.follow.ensures

pub returns-clause-enlists : goal.returns-clause-enlists
returns-clause-enlists g c =
    let absent : ¬ IsListed c.self.inside.rings c.args.meta = λ listed. let is = c.has.ensures.listed.1 listed in let not = c.if-has.false in cc in
    enlists_last c.args.class c.args.meta c.self.view_is c.note_ring.result c.note_ring.new.seat c.follow.new.seat c.enqueue.new.self absent c.note_ring.ensures c.enqueue.ensures.appended c.follow.ensures

pub follow-requires-clause-pages : goal.follow-requires-clause-pages
follow-requires-clause-pages g c =
    word_pages g.N.Name.facts.start g.M.Mapper.span g.M.Mapper.runs g.M.Mapper.refused c.self.view_is c.requires.working c.enqueue.new.self (ap (λ (t : RingTable). t.pages) c.enqueue.ensures.appended)

pub follow-requires-clause-was : goal.follow-requires-clause-was
follow-requires-clause-was g c =
    word_was g.N.Name.facts.start g.M.Mapper.span g.M.Mapper.runs g.M.Mapper.refused c.self.view_is c.requires.working c.note_ring.new.seat c.args.class c.first_word-was.result c.first_word-was.ensures (ap (λ (v : View). v.desk.active) c.note_ring.ensures.view)
