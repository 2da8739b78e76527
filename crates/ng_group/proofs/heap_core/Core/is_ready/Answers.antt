use Rattle.std.proofs.Common.{ap, ◌∙◌, arith, sym, subst, refl}
use Rattle.ng_group.specs.Opening.{IsMostBounded}
use Rattle.ng_lists.specs.Rings.{ring_of}
use Rattle.ng_group.specs.States.{State}
use Rattle.ng_group.specs.declared.heap_core.Core.TheInside.{Inside}
use Rattle.ng_group.proofs.ClassForLemmas.{came_at, cells_at, empty_ready, masks_at, notes_at, ready_at, rests_at, test_avail, test_freed}
use Rattle.ng_group.proofs.heap_core.Core.is_ready.Goals as goal

pub overflow_add-first : goal.overflow_add-first
overflow_add-first g c =
    let cells = cells_at g.N.Name.facts.start g.M.Mapper.span g.M.Mapper.runs g.M.Mapper.refused c.args.class c.in-Some.first (ap (λ (x : Inside g.row.N.Denot g.row.M.Denot g.row.P.Denot). x.works) c.self-inside.view_is) c.self.invariant.0 c.requires.class c.in-Some.ensures.first in
    omega (arith, cells.inside, c.args.space.now.range.addressed)

pub load_seat-avail-requires-clause-cell : goal.load_seat-avail-requires-clause-cell
load_seat-avail-requires-clause-cell g c =
    let cells = cells_at g.N.Name.facts.start g.M.Mapper.span g.M.Mapper.runs g.M.Mapper.refused c.args.class c.in-Some.first (ap (λ (x : Inside g.row.N.Denot g.row.M.Denot g.row.P.Denot). x.works) c.self-inside.view_is) c.self.invariant.0 c.requires.class c.in-Some.ensures.first in
    omega (arith, cells.whole)

pub load_seat-avail-requires-clause-inside : goal.load_seat-avail-requires-clause-inside
load_seat-avail-requires-clause-inside g c =
    let cells = cells_at g.N.Name.facts.start g.M.Mapper.span g.M.Mapper.runs g.M.Mapper.refused c.args.class c.in-Some.first (ap (λ (x : Inside g.row.N.Denot g.row.M.Denot g.row.P.Denot). x.works) c.self-inside.view_is) c.self.invariant.0 c.requires.class c.in-Some.ensures.first in
    omega (arith, cells.inside)

pub overflow_add-first-2 : goal.overflow_add-first-2
overflow_add-first-2 g c =
    let cells = cells_at g.N.Name.facts.start g.M.Mapper.span g.M.Mapper.runs g.M.Mapper.refused c.args.class c.in-Some.first (ap (λ (x : Inside g.row.N.Denot g.row.M.Denot g.row.P.Denot). x.works) c.self-inside.view_is) c.self.invariant.0 c.requires.class c.in-Some.ensures.first in
    omega (arith, cells.inside, c.args.space.now.range.addressed)

pub load_seat-freed-requires-clause-cell : goal.load_seat-freed-requires-clause-cell
load_seat-freed-requires-clause-cell g c =
    let cells = cells_at g.N.Name.facts.start g.M.Mapper.span g.M.Mapper.runs g.M.Mapper.refused c.args.class c.in-Some.first (ap (λ (x : Inside g.row.N.Denot g.row.M.Denot g.row.P.Denot). x.works) c.self-inside.view_is) c.self.invariant.0 c.requires.class c.in-Some.ensures.first in
    omega (arith, cells.whole)

pub load_seat-freed-requires-clause-inside : goal.load_seat-freed-requires-clause-inside
load_seat-freed-requires-clause-inside g c =
    let cells = cells_at g.N.Name.facts.start g.M.Mapper.span g.M.Mapper.runs g.M.Mapper.refused c.args.class c.in-Some.first (ap (λ (x : Inside g.row.N.Denot g.row.M.Denot g.row.P.Denot). x.works) c.self-inside.view_is) c.self.invariant.0 c.requires.class c.in-Some.ensures.first in
    omega (arith, cells.inside)

pub invariant_of-self : goal.invariant_of-self
invariant_of-self g c =
    let reads = masks_at g.N.Name.facts.start g.M.Mapper.span g.M.Mapper.runs g.M.Mapper.refused c.args.class c.in-Some.first c.load_seat-avail.result c.load_seat-freed.result (ap (λ (x : Inside g.row.N.Denot g.row.M.Denot g.row.P.Denot). x.works) c.self-inside.view_is) c.self.invariant.0 c.requires.class c.in-Some.ensures.first c.load_seat-avail.ensures.view c.load_seat-freed.ensures.view in (
      rests_at g.N.Name.facts.start g.M.Mapper.span g.M.Mapper.runs g.M.Mapper.refused (ap (λ (x : Inside g.row.N.Denot g.row.M.Denot g.row.P.Denot). x.works) c.self-inside.view_is) c.self.invariant.0 reads,
      subst (λ (x : Inside g.row.N.Denot g.row.M.Denot g.row.P.Denot). IsMostBounded g.N.Name.facts (g.M.Mapper.refused x.works.mapper)) (sym c.self-inside.view_is) c.self.invariant.1,
    )

pub returns-then-mask_of-ne0-clause-ready : goal.returns-then-mask_of-ne0-clause-ready
returns-then-mask_of-ne0-clause-ready g c =
    let reads = masks_at g.N.Name.facts.start g.M.Mapper.span g.M.Mapper.runs g.M.Mapper.refused c.args.class c.in-Some.first c.load_seat-avail.result c.load_seat-freed.result (ap (λ (x : Inside g.row.N.Denot g.row.M.Denot g.row.P.Denot). x.works) c.self-inside.view_is) c.self.invariant.0 c.requires.class c.in-Some.ensures.first c.load_seat-avail.ensures.view c.load_seat-freed.ensures.view in
    ready_at c.args.class _ ((ap (λ (x : Inside g.row.N.Denot g.row.M.Denot g.row.P.Denot). x.works) c.self-inside.view_is) ∙ c.self.view_is) reads c.in-Some.ensures.first (test_avail c.mask_of.result c.load_seat-avail.result c.load_seat-freed.result c.mask_of.ensures (omega (arith, c.if-mask_of-ne0.true)))

pub returns-then-mask_of-ne0-clause-came : goal.returns-then-mask_of-ne0-clause-came
returns-then-mask_of-ne0-clause-came g c =
    let reads = masks_at g.N.Name.facts.start g.M.Mapper.span g.M.Mapper.runs g.M.Mapper.refused c.args.class c.in-Some.first c.load_seat-avail.result c.load_seat-freed.result (ap (λ (x : Inside g.row.N.Denot g.row.M.Denot g.row.P.Denot). x.works) c.self-inside.view_is) c.self.invariant.0 c.requires.class c.in-Some.ensures.first c.load_seat-avail.ensures.view c.load_seat-freed.ensures.view in
    came_at ((ap (λ (x : Inside g.row.N.Denot g.row.M.Denot g.row.P.Denot). x.works) c.self-inside.view_is) ∙ c.self.view_is) reads

pub returns-then-mask_of-ne0-clause-notes : goal.returns-then-mask_of-ne0-clause-notes
returns-then-mask_of-ne0-clause-notes g c =
    let reads = masks_at g.N.Name.facts.start g.M.Mapper.span g.M.Mapper.runs g.M.Mapper.refused c.args.class c.in-Some.first c.load_seat-avail.result c.load_seat-freed.result (ap (λ (x : Inside g.row.N.Denot g.row.M.Denot g.row.P.Denot). x.works) c.self-inside.view_is) c.self.invariant.0 c.requires.class c.in-Some.ensures.first c.load_seat-avail.ensures.view c.load_seat-freed.ensures.view in
    notes_at ((ap (λ (x : Inside g.row.N.Denot g.row.M.Denot g.row.P.Denot). x.works) c.self-inside.view_is) ∙ c.self.view_is) reads

pub returns-else-mask_of-ne0-clause-ready : goal.returns-else-mask_of-ne0-clause-ready
returns-else-mask_of-ne0-clause-ready g c =
    let reads = masks_at g.N.Name.facts.start g.M.Mapper.span g.M.Mapper.runs g.M.Mapper.refused c.args.class c.in-Some.first c.load_seat-avail.result c.load_seat-freed.result (ap (λ (x : Inside g.row.N.Denot g.row.M.Denot g.row.P.Denot). x.works) c.self-inside.view_is) c.self.invariant.0 c.requires.class c.in-Some.ensures.first c.load_seat-avail.ensures.view c.load_seat-freed.ensures.view in
    ready_at c.args.class _ ((ap (λ (x : Inside g.row.N.Denot g.row.M.Denot g.row.P.Denot). x.works) c.self-inside.view_is) ∙ c.self.view_is) reads c.in-Some.ensures.first (test_freed c.mask_of.result c.load_seat-avail.result c.load_seat-freed.result c.mask_of.ensures (omega (arith, c.if-mask_of-ne0.false)))

pub returns-else-mask_of-ne0-clause-came : goal.returns-else-mask_of-ne0-clause-came
returns-else-mask_of-ne0-clause-came g c =
    let reads = masks_at g.N.Name.facts.start g.M.Mapper.span g.M.Mapper.runs g.M.Mapper.refused c.args.class c.in-Some.first c.load_seat-avail.result c.load_seat-freed.result (ap (λ (x : Inside g.row.N.Denot g.row.M.Denot g.row.P.Denot). x.works) c.self-inside.view_is) c.self.invariant.0 c.requires.class c.in-Some.ensures.first c.load_seat-avail.ensures.view c.load_seat-freed.ensures.view in
    came_at ((ap (λ (x : Inside g.row.N.Denot g.row.M.Denot g.row.P.Denot). x.works) c.self-inside.view_is) ∙ c.self.view_is) reads

pub returns-else-mask_of-ne0-clause-notes : goal.returns-else-mask_of-ne0-clause-notes
returns-else-mask_of-ne0-clause-notes g c =
    let reads = masks_at g.N.Name.facts.start g.M.Mapper.span g.M.Mapper.runs g.M.Mapper.refused c.args.class c.in-Some.first c.load_seat-avail.result c.load_seat-freed.result (ap (λ (x : Inside g.row.N.Denot g.row.M.Denot g.row.P.Denot). x.works) c.self-inside.view_is) c.self.invariant.0 c.requires.class c.in-Some.ensures.first c.load_seat-avail.ensures.view c.load_seat-freed.ensures.view in
    notes_at ((ap (λ (x : Inside g.row.N.Denot g.row.M.Denot g.row.P.Denot). x.works) c.self-inside.view_is) ∙ c.self.view_is) reads

pub returns-in_default-clause-ready : goal.returns-in_default-clause-ready
returns-in_default-clause-ready g c =
    let same = ap (λ (x : Inside g.row.N.Denot g.row.M.Denot g.row.P.Denot). x.works) c.self-inside.view_is ∙ c.self.view_is in
    empty_ready c.args.self.now.seat (ring_of c.args.self.now.rings c.args.class)
    (sym (ap (λ (s : State g.row.M.Denot g.row.P.Denot). ring_of s.rings c.args.class) same) ∙ c.in_default.ensures.none.0 refl)
