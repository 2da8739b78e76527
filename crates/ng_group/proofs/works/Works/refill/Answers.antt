use Rattle.std.proofs.Common.{sym, subst}
use Rattle.ng_lists.specs.Rings.{ring_of}
use Rattle.ng_serve.specs.Choices.{RingEmpty}
use Rattle.ng_serve.specs.Groups.{RingLives}
use Rattle.ng_ledger.specs.Rings.{IsBare}
use Rattle.ng_ledger.proofs.BareLemmas.{bare_grows}
use Rattle.ng_group.specs.States.{State}
use Rattle.ng_group.proofs.GrowLemmas.{notes_grow, passes}
use Rattle.ng_group.proofs.RefillLemmas.{is_none, no_freed, none_left}
use Rattle.ng_group.proofs.ServingLemmas.{inside_at, ring_lives}
use Rattle.ng_group.proofs.WorkingLemmas.{only_then}
use Rattle.ng_group.proofs.works.Works.refill.Goals as goal

pub returns-in_err-start-clause-none : goal.returns-in_err-start-clause-none
returns-in_err-start-clause-none g c =
    is_none c.from_residual.result _ c.from_residual.ensures
    (none_left c.args.self.now c.leave_if_bare.new.self c.args.class c.args.first c.leave_if_bare.ensures.walk c.in_err-start.ensures.none c.in_err-start.ensures.empty)

pub choose-requires-clause-live : goal.choose-requires-clause-live
choose-requires-clause-live g c =
    subst (λ (s : State g.row.M.Denot g.row.P.Denot). RingLives s.seat.desk.groups (ring_of s.rings c.args.class) c.args.class) (sym c.self.view_is)
    (ring_lives g.N.Name.facts.start g.M.Mapper.span g.M.Mapper.runs g.M.Mapper.refused c.leave_if_bare.new.self c.args.class c.leave_if_bare.ensures.working c.requires.class)

pub choose-requires-clause-bare : goal.choose-requires-clause-bare
choose-requires-clause-bare g c =
    subst (λ (s : State g.row.M.Denot g.row.P.Denot). RingEmpty s.seat (ring_of s.rings c.args.class)) (sym c.self.view_is) c.leave_if_bare.ensures.walk.bare

pub choose-requires-clause-inside : goal.choose-requires-clause-inside
choose-requires-clause-inside g c =
    inside_at g.N.Name.facts.start g.M.Mapper.span g.M.Mapper.runs g.M.Mapper.refused _ _ c.self.view_is c.leave_if_bare.ensures.working

pub returns-in_err-choice-clause-working : goal.returns-in_err-choice-clause-working
returns-in_err-choice-clause-working g c =
    (passes g.N.Name.facts.start g.M.Mapper.span g.M.Mapper.runs g.M.Mapper.refused _ _ c.args.class c.choose.new.seat c.self.view_is (notes_grow c.self.inside.seat c.choose.new.seat c.choose.ensures.notes) c.leave_if_bare.ensures.working).working

pub returns-in_err-choice-clause-only : goal.returns-in_err-choice-clause-only
returns-in_err-choice-clause-only g c =
    only_then c.args.class c.args.self.now c.leave_if_bare.new.self _ c.leave_if_bare.ensures.only
    (passes g.N.Name.facts.start g.M.Mapper.span g.M.Mapper.runs g.M.Mapper.refused _ _ c.args.class c.choose.new.seat c.self.view_is (notes_grow c.self.inside.seat c.choose.new.seat c.choose.ensures.notes) c.leave_if_bare.ensures.working).only

pub returns-in_err-choice-clause-none : goal.returns-in_err-choice-clause-none
returns-in_err-choice-clause-none g c =
    is_none c.from_residual-in_err-choice.result _ c.from_residual-in_err-choice.ensures
    (no_freed _ c.args.self.now c.leave_if_bare.new.self c.args.class c.args.first c.choose.new.seat c.self.view_is c.requires.first c.leave_if_bare.ensures.walk c.in_err-choice.ensures.none)

pub serve-requires-clause-working : goal.serve-requires-clause-working
serve-requires-clause-working g c =
    (passes g.N.Name.facts.start g.M.Mapper.span g.M.Mapper.runs g.M.Mapper.refused _ _ c.args.class c.choose.new.seat c.self.view_is (notes_grow c.self.inside.seat c.choose.new.seat c.choose.ensures.notes) c.leave_if_bare.ensures.working).working

pub serve-requires-clause-bare : goal.serve-requires-clause-bare
serve-requires-clause-bare g c =
    bare_grows c.self.inside.seat.desk.zero_avail c.choose.new.seat.desk.zero_avail c.self.inside.rings c.args.class c.choose.ensures.notes.noted.zero_avail
    (subst (λ (s : State g.row.M.Denot g.row.P.Denot). IsBare s.seat.desk.zero_avail s.rings c.args.class) (sym c.self.view_is) c.leave_if_bare.ensures.walk.bare)

pub returns-clause-only : goal.returns-clause-only
returns-clause-only g c =
    only_then c.args.class c.args.self.now c.leave_if_bare.new.self c.serve.new.self c.leave_if_bare.ensures.only
    (only_then c.args.class c.leave_if_bare.new.self _ c.serve.new.self
    (passes g.N.Name.facts.start g.M.Mapper.span g.M.Mapper.runs g.M.Mapper.refused _ _ c.args.class c.choose.new.seat c.self.view_is (notes_grow c.self.inside.seat c.choose.new.seat c.choose.ensures.notes) c.leave_if_bare.ensures.working).only
    c.serve.ensures.only)
