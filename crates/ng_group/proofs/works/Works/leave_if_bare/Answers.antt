use Rattle.std.proofs.Common.{ℕ, [], ◌<◌, length, sym, ap, ◌∙◌, subst, arith}
use Rattle.ng_lists.specs.Rings.{RingTable, ring_of}
use Rattle.ng_lists.proofs.MemberLemmas.{Contains-first, Contains-next_in}
use Rattle.ng_ledger.specs.Rings.{IsIn, IsTable}
use Rattle.ng_ledger.proofs.TableLemmas.{in_listed}
use Rattle.ng_group.specs.States.{State, first_of}
use Rattle.ng_group.proofs.FirstLemmas.{first_leaves, first_stays, some_first}
use Rattle.ng_group.proofs.ServingLemmas.{in_at, live_at, noted_active}
use Rattle.ng_group.proofs.WordLemmas.{first_word, word_pages, word_was}
use Rattle.ng_group.proofs.works.Works.leave_if_bare.Given.{Over}
use Rattle.ng_group.proofs.works.Works.leave_if_bare.Goals.{After-first}
use Rattle.ng_group.proofs.works.Works.leave_if_bare.Goals as goal

pub note_ring-requires : goal.note_ring-requires
note_ring-requires g c = record {
  live = (
      live_at g.N.Name.facts.start g.M.Mapper.span g.M.Mapper.runs g.M.Mapper.refused _ _ c.args.class c.args.first c.self.view_is c.requires.working c.requires.class (Contains-first (ring_of c.args.self.now.rings c.args.class) c.args.first (sym c.requires.first)));
}

pub next-requires : goal.next-requires
next-requires g c = record {
  listed = in_listed c.self.inside.rings c.args.class c.args.first (in_at _ _ c.args.class c.args.first c.self.view_is c.requires.first);
}

pub returns-then-note_ring-ne0-clause-working : goal.returns-then-note_ring-ne0-clause-working
returns-then-note_ring-ne0-clause-working g c =
    (first_stays g.N.Name.facts.start g.M.Mapper.span g.M.Mapper.runs g.M.Mapper.refused _ _ c.args.class c.args.first c.note_ring.result c.note_ring.new.seat c.self.view_is c.requires.class c.requires.first c.requires.bare c.if-note_ring-ne0.true c.note_ring.ensures c.requires.working).working

pub returns-then-note_ring-ne0-clause-walk : goal.returns-then-note_ring-ne0-clause-walk
returns-then-note_ring-ne0-clause-walk g c =
    (first_stays g.N.Name.facts.start g.M.Mapper.span g.M.Mapper.runs g.M.Mapper.refused _ _ c.args.class c.args.first c.note_ring.result c.note_ring.new.seat c.self.view_is c.requires.class c.requires.first c.requires.bare c.if-note_ring-ne0.true c.note_ring.ensures c.requires.working).walk

pub returns-then-note_ring-ne0-clause-start : goal.returns-then-note_ring-ne0-clause-start
returns-then-note_ring-ne0-clause-start g c =
    let in' : IsIn c.self.inside.rings c.args.class c.args.first = in_at _ _ c.args.class c.args.first c.self.view_is c.requires.first in
    let known : c.args.class < length c.self.inside.rings.rings = (let l = c.stand_once.ensures.classes in let k = c.requires.class in omega arith) in
    subst (λ (m : ℕ). IsIn c.self.inside.rings c.args.class m) (sym (c.next.ensures.next c.args.class [] known in')) (Contains-next_in (ring_of c.self.inside.rings c.args.class) c.args.first in')

pub dequeue-requires-clause-member : goal.dequeue-requires-clause-member
dequeue-requires-clause-member g c =
    in_at _ _ c.args.class c.args.first c.self.view_is c.requires.first

table : (g : Over) (c : After-first g) → IsTable c.self.inside.rings
table g c = record {
  classes = c.stand_once.ensures.classes;
  places = c.stand_once.ensures.places;
  once = c.stand_once.ensures.once;
  apart = c.stand_once.ensures.apart;
}

pub returns-clause-working : goal.returns-clause-working
returns-clause-working g c =
    (first_leaves g.N.Name.facts.start g.M.Mapper.span g.M.Mapper.runs g.M.Mapper.refused _ _ c.args.class c.args.first c.note_ring.result c.note_ring.new.seat c.follow.new.seat c.dequeue.new.self c.self.view_is (table g c) c.requires.class c.requires.first c.requires.bare c.if-note_ring-ne0.false c.note_ring.ensures c.dequeue.ensures.removed c.follow.ensures c.requires.working).working

pub returns-clause-walk : goal.returns-clause-walk
returns-clause-walk g c =
    (first_leaves g.N.Name.facts.start g.M.Mapper.span g.M.Mapper.runs g.M.Mapper.refused _ _ c.args.class c.args.first c.note_ring.result c.note_ring.new.seat c.follow.new.seat c.dequeue.new.self c.self.view_is (table g c) c.requires.class c.requires.first c.requires.bare c.if-note_ring-ne0.false c.note_ring.ensures c.dequeue.ensures.removed c.follow.ensures c.requires.working).walk

pub returns-clause-start : goal.returns-clause-start
returns-clause-start g c = some_first c.first.result (ring_of c.dequeue.new.self c.args.class) c.first.ensures.first

pub returns-clause-only : goal.returns-clause-only
returns-clause-only g c =
    (first_leaves g.N.Name.facts.start g.M.Mapper.span g.M.Mapper.runs g.M.Mapper.refused _ _ c.args.class c.args.first c.note_ring.result c.note_ring.new.seat c.follow.new.seat c.dequeue.new.self c.self.view_is (table g c) c.requires.class c.requires.first c.requires.bare c.if-note_ring-ne0.false c.note_ring.ensures c.dequeue.ensures.removed c.follow.ensures c.requires.working).only

pub follow-requires-clause-pages : goal.follow-requires-clause-pages
follow-requires-clause-pages g c =
    word_pages g.N.Name.facts.start g.M.Mapper.span g.M.Mapper.runs g.M.Mapper.refused c.self.view_is c.requires.working c.dequeue.new.self (ap (λ (t : RingTable). t.pages) c.dequeue.ensures.removed)

pub follow-requires-clause-was : goal.follow-requires-clause-was
follow-requires-clause-was g c =
    word_was g.N.Name.facts.start g.M.Mapper.span g.M.Mapper.runs g.M.Mapper.refused c.self.view_is c.requires.working c.note_ring.new.seat c.args.class c.args.first
    (sym (first_word (ring_of c.args.self.now.rings c.args.class) c.args.first c.requires.first) ∙ ap (λ (s : State g.row.M.Denot g.row.P.Denot). first_of (ring_of s.rings c.args.class)) (sym c.self.view_is))
    (noted_active c.self.inside.seat c.note_ring.new.seat c.args.first c.note_ring.result c.note_ring.ensures)
