use Rattle.std.proofs.Common.{ap, refl, subst, sym}
use Rattle.ng_lists.specs.Rings.{RingTable}
use Rattle.ng_ledger.specs.Rings.{IsIn, IsTable}
use Rattle.ng_group.specs.Returning.{HasWhole}
use Rattle.ng_group.specs.States.{State, Working}
use Rattle.ng_group.proofs.EndingLemmas.{left_out, noted_unlisted, unlisted_whole, unlisted_works, unlists_now}
use Rattle.ng_group.proofs.ServingLemmas.{noted_active}
use Rattle.ng_group.proofs.WordLemmas.{word_pages, word_was}
use Rattle.ng_group.proofs.works.Works.unlist.Goals as goal

pub returns-clause-working : goal.returns-clause-working
returns-clause-working g c =
    let whole : HasWhole c.self.inside.seat c.args.meta = subst (λ (s : State g.row.M.Denot g.row.P.Denot). HasWhole s.seat c.args.meta) (sym c.self.view_is) c.requires.whole in
    let member : IsIn c.self.inside.rings c.args.class c.args.meta = subst (λ (s : State g.row.M.Denot g.row.P.Denot). IsIn s.rings c.args.class c.args.meta) (sym c.self.view_is) c.requires.member in
    let table : IsTable c.self.inside.rings = record { classes = c.stand_once.ensures.classes; places = c.stand_once.ensures.places; once = c.stand_once.ensures.once; apart = c.stand_once.ensures.apart } in
    let is = noted_unlisted c.self.inside.seat c.note_ring.new.seat c.args.meta c.note_ring.result whole c.note_ring.ensures in
    unlisted_works c.self.inside.seat c.note_ring.new.seat c.follow.new.seat c.args.meta c.args.class _ is c.follow.ensures g.N.Name.facts.start (g.M.Mapper.span c.self.inside.mapper) (g.M.Mapper.runs c.self.inside.mapper) (g.M.Mapper.refused c.self.inside.mapper)
    (record { seat = c.self.inside.seat; rings = c.self.inside.rings; stock = c.self.inside.stock; parents = c.self.inside.parents; usage = c.self.inside.usage; counter = c.self.inside.counter })
    c.dequeue.new.self refl
    (subst (λ (s : State g.row.M.Denot g.row.P.Denot). Working g.N.Name.facts.start g.M.Mapper.span g.M.Mapper.runs g.M.Mapper.refused s) (sym c.self.view_is) c.requires.working)
    table member c.dequeue.ensures.removed refl

pub returns-clause-whole : goal.returns-clause-whole
returns-clause-whole g c =
    let whole : HasWhole c.self.inside.seat c.args.meta = subst (λ (s : State g.row.M.Denot g.row.P.Denot). HasWhole s.seat c.args.meta) (sym c.self.view_is) c.requires.whole in
    unlisted_whole c.self.inside.seat c.note_ring.new.seat c.follow.new.seat c.args.meta c.args.class _ (noted_unlisted c.self.inside.seat c.note_ring.new.seat c.args.meta c.note_ring.result whole c.note_ring.ensures) c.follow.ensures whole

pub returns-clause-left : goal.returns-clause-left
returns-clause-left g c =
    let member : IsIn c.self.inside.rings c.args.class c.args.meta = subst (λ (s : State g.row.M.Denot g.row.P.Denot). IsIn s.rings c.args.class c.args.meta) (sym c.self.view_is) c.requires.member in
    let table : IsTable c.self.inside.rings = record { classes = c.stand_once.ensures.classes; places = c.stand_once.ensures.places; once = c.stand_once.ensures.once; apart = c.stand_once.ensures.apart } in
    left_out c.self.inside.rings c.dequeue.new.self c.args.class c.args.meta table member c.dequeue.ensures.removed

pub returns-clause-unlists : goal.returns-clause-unlists
returns-clause-unlists g c = unlists_now c.args.class c.args.meta c.self.view_is c.note_ring.result c.note_ring.new.seat c.follow.new.seat c.dequeue.new.self c.requires.member c.note_ring.ensures c.dequeue.ensures.removed c.follow.ensures

pub follow-requires-clause-pages : goal.follow-requires-clause-pages
follow-requires-clause-pages g c =
    word_pages g.N.Name.facts.start g.M.Mapper.span g.M.Mapper.runs g.M.Mapper.refused c.self.view_is c.requires.working c.dequeue.new.self (ap (λ (t : RingTable). t.pages) c.dequeue.ensures.removed)

pub follow-requires-clause-was : goal.follow-requires-clause-was
follow-requires-clause-was g c =
    word_was g.N.Name.facts.start g.M.Mapper.span g.M.Mapper.runs g.M.Mapper.refused c.self.view_is c.requires.working c.note_ring.new.seat c.args.class c.first_word-was.result c.first_word-was.ensures (noted_active c.self.inside.seat c.note_ring.new.seat c.args.meta c.note_ring.result c.note_ring.ensures)
