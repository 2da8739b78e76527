use Rattle.std.proofs.Common.{None, Some, ap, refl, subst, sym, ◌∙◌, ◌≡◌}
use Rattle.std.specs.List.{slice_get}
use Rattle.ng_lists.specs.Rings.{IsListed, ring_of}
use Rattle.ng_view.specs.Lists.{Among}
use Rattle.ng_ledger.specs.Rings.{IsTable, left}
use Rattle.ng_ledger.proofs.ElementLemmas.{contains_get}
use Rattle.ng_group.specs.Returning.{HasWhole}
use Rattle.ng_group.specs.Serving.{OnlyRing}
use Rattle.ng_group.specs.States.{State, Working}
use Rattle.ng_group.proofs.EndingLemmas.{in_space, leaves_last, leaves_next, leaves_other, next_bare, not_first, number_is, number_not, ring_group, stocked_only, stocked_whole, stocked_works}
use Rattle.ng_group.proofs.WorkingLemmas.{only_then}
use Rattle.ng_group.proofs.works.Works.leave_ring.Goals as goal

pub stock_freed-requires-clause-place : goal.stock_freed-requires-clause-place
stock_freed-requires-clause-place g c =
    let works = subst (λ (s : State g.row.M.Denot g.row.P.Denot). Working g.N.Name.facts.start g.M.Mapper.span g.M.Mapper.runs g.M.Mapper.refused s) (sym c.self-2.view_is) c.unlist.ensures.working in
    let first : slice_get (ring_of c.self-2.inside.rings c.args.class) 0 ≡ Some c.in-Some.next = sym c.first-then-was_first.ensures.first ∙ c.in-Some.is in
    (ring_group g.N.Name.facts.start.pages c.self-2.inside.seat c.self-2.inside.rings c.args.class c.in-Some.next works.stands.groups works.stands.ringed c.requires.class (contains_get (ring_of c.self-2.inside.rings c.args.class) c.in-Some.next first)).1

pub stock_freed-requires-clause-live : goal.stock_freed-requires-clause-live
stock_freed-requires-clause-live g c =
    let works = subst (λ (s : State g.row.M.Denot g.row.P.Denot). Working g.N.Name.facts.start g.M.Mapper.span g.M.Mapper.runs g.M.Mapper.refused s) (sym c.self-2.view_is) c.unlist.ensures.working in
    let first : slice_get (ring_of c.self-2.inside.rings c.args.class) 0 ≡ Some c.in-Some.next = sym c.first-then-was_first.ensures.first ∙ c.in-Some.is in
    (ring_group g.N.Name.facts.start.pages c.self-2.inside.seat c.self-2.inside.rings c.args.class c.in-Some.next works.stands.groups works.stands.ringed c.requires.class (contains_get (ring_of c.self-2.inside.rings c.args.class) c.in-Some.next first)).0

pub stock_freed-requires-clause-bare : goal.stock_freed-requires-clause-bare
stock_freed-requires-clause-bare g c =
    let before = c.args.self.now in
    let works = c.requires.working in
    let rings : c.self-2.inside.rings ≡ left c.args.self.now.rings c.args.class c.args.meta = ap (λ (s : State g.row.M.Denot g.row.P.Denot). s.rings) c.self-2.view_is ∙ c.unlist.ensures.rings in
    let second : slice_get (ring_of c.self-2.inside.rings c.args.class) 0 ≡ Some c.in-Some.next = sym c.first-then-was_first.ensures.first ∙ c.in-Some.is in
    let first : slice_get (ring_of c.args.self.now.rings c.args.class) 0 ≡ Some c.args.meta =
    ap (λ (s : State g.row.M.Denot g.row.P.Denot). slice_get (ring_of s.rings c.args.class) 0) (sym c.self.view_is) ∙ sym c.first.ensures.first ∙ number_is c.first.result c.args.meta (c.if-was_first.ensures) in
    subst (λ ns. Among c.in-Some.next ns) (sym (ap (λ (s : State g.row.M.Denot g.row.P.Denot). s.seat.desk.zero_avail) c.self-2.view_is ∙ c.unlist.ensures.avail))
    (next_bare before.seat.desk.groups before.seat.desk.listed before.seat.desk.zero_avail before.rings c.self-2.inside.rings c.args.class c.args.meta c.in-Some.next c.requires.class works.stands.ringed first rings second)

pub stock_freed-requires-clause-inside : goal.stock_freed-requires-clause-inside
stock_freed-requires-clause-inside g c =
    let works = subst (λ (s : State g.row.M.Denot g.row.P.Denot). Working g.N.Name.facts.start g.M.Mapper.span g.M.Mapper.runs g.M.Mapper.refused s) (sym c.self-2.view_is) c.unlist.ensures.working in
    in_space g.N.Name.facts.start.pages c.self-2.inside.seat.desk.groups works.stands.groups

pub returns-in-Some-clause-working : goal.returns-in-Some-clause-working
returns-in-Some-clause-working g c =
    let works = subst (λ (s : State g.row.M.Denot g.row.P.Denot). Working g.N.Name.facts.start g.M.Mapper.span g.M.Mapper.runs g.M.Mapper.refused s) (sym c.self-2.view_is) c.unlist.ensures.working in
    let table : IsTable c.self-2.inside.rings = record { classes = c.stand_once.ensures.classes; places = c.stand_once.ensures.places; once = c.stand_once.ensures.once; apart = c.stand_once.ensures.apart } in
    let first : slice_get (ring_of c.self-2.inside.rings c.args.class) 0 ≡ Some c.in-Some.next = sym c.first-then-was_first.ensures.first ∙ c.in-Some.is in
    stocked_works c.self-2.inside.seat c.stock_freed.new.seat c.in-Some.next c.stock_freed.ensures g.N.Name.facts.start (g.M.Mapper.span c.self-2.inside.mapper) (g.M.Mapper.runs c.self-2.inside.mapper) (g.M.Mapper.refused c.self-2.inside.mapper)
    (record { seat = c.self-2.inside.seat; rings = c.self-2.inside.rings; stock = c.self-2.inside.stock; parents = c.self-2.inside.parents; usage = c.self-2.inside.usage; counter = c.self-2.inside.counter })
    c.args.class refl works table first

pub returns-in-Some-clause-only : goal.returns-in-Some-clause-only
returns-in-Some-clause-only g c =
    let table : IsTable c.self-2.inside.rings = record { classes = c.stand_once.ensures.classes; places = c.stand_once.ensures.places; once = c.stand_once.ensures.once; apart = c.stand_once.ensures.apart } in
    let first : slice_get (ring_of c.self-2.inside.rings c.args.class) 0 ≡ Some c.in-Some.next = sym c.first-then-was_first.ensures.first ∙ c.in-Some.is in
    let inner : State g.row.M.Denot g.row.P.Denot = record { seat = c.self-2.inside.seat; rings = c.self-2.inside.rings; stock = c.self-2.inside.stock; parents = c.self-2.inside.parents; usage = c.self-2.inside.usage; bounces = c.self-2.inside.bounce; counter = c.self-2.inside.counter; mapper = c.self-2.inside.mapper; rules = c.self-2.inside.rules } in
    only_then c.args.class c.args.self.now inner (record inner { seat = c.stock_freed.new.seat })
    (subst (λ (s : State g.row.M.Denot g.row.P.Denot). OnlyRing c.args.class c.args.self.now s) (sym c.self-2.view_is) c.unlist.ensures.only)
    (stocked_only c.self-2.inside.seat c.stock_freed.new.seat c.in-Some.next c.stock_freed.ensures c.args.class inner refl table first)

pub returns-in-Some-clause-whole : goal.returns-in-Some-clause-whole
returns-in-Some-clause-whole g c =
    let first : slice_get (ring_of c.self-2.inside.rings c.args.class) 0 ≡ Some c.in-Some.next = sym c.first-then-was_first.ensures.first ∙ c.in-Some.is in
    let absent : ¬ IsListed c.self-2.inside.rings c.args.meta = subst (λ (s : State g.row.M.Denot g.row.P.Denot). ¬ IsListed s.rings c.args.meta) (sym c.self-2.view_is) c.unlist.ensures.left in
    stocked_whole c.self-2.inside.seat c.stock_freed.new.seat c.in-Some.next c.stock_freed.ensures c.args.meta (not_first c.self-2.inside.rings c.args.class c.args.meta c.in-Some.next absent first)
    (subst (λ (s : State g.row.M.Denot g.row.P.Denot). HasWhole s.seat c.args.meta) (sym c.self-2.view_is) c.unlist.ensures.whole)

pub returns-in-Some-clause-left : goal.returns-in-Some-clause-left
returns-in-Some-clause-left g c = subst (λ (s : State g.row.M.Denot g.row.P.Denot). ¬ IsListed s.rings c.args.meta) (sym c.self-2.view_is) c.unlist.ensures.left

pub returns-in-Some-clause-leaves : goal.returns-in-Some-clause-leaves
returns-in-Some-clause-leaves g c =
    let second : slice_get (ring_of c.self-2.inside.rings c.args.class) 0 ≡ Some c.in-Some.next = sym c.first-then-was_first.ensures.first ∙ c.in-Some.is in
    let first : slice_get (ring_of c.args.self.now.rings c.args.class) 0 ≡ Some c.args.meta =
    ap (λ (s : State g.row.M.Denot g.row.P.Denot). slice_get (ring_of s.rings c.args.class) 0) (sym c.self.view_is) ∙ sym c.first.ensures.first ∙ number_is c.first.result c.args.meta (c.if-was_first.ensures) in
    leaves_next c.args.class c.args.meta c.self-2.view_is c.args.self.now c.unlist.ensures.unlists c.in-Some.next c.stock_freed.new.seat first second c.stock_freed.ensures

pub returns-in_default-clause-leaves : goal.returns-in_default-clause-leaves
returns-in_default-clause-leaves g c =
    let none : slice_get (ring_of c.self-2.inside.rings c.args.class) 0 ≡ None = sym c.first-then-was_first.ensures.first ∙ c.in_default.is in
    leaves_last c.args.class c.args.meta c.self-2.view_is c.args.self.now c.unlist.ensures.unlists c.unlist.new.self (sym c.self-2.view_is) none

pub returns-else-was_first-clause-leaves : goal.returns-else-was_first-clause-leaves
returns-else-was_first-clause-leaves g c =
    leaves_other c.args.class c.args.meta refl c.args.self.now c.unlist.ensures.unlists (λ first. number_not c.first.result c.args.meta c.if-was_first.ensures
    (c.first.ensures.first ∙ ap (λ (s : State g.row.M.Denot g.row.P.Denot). slice_get (ring_of s.rings c.args.class) 0) c.self.view_is ∙ first))
