use Rattle.std.proofs.Common.{◌≡◌, Some, ap, refl, sym, subst, ◌∙◌}
use Rattle.std.specs.List.{slice_get}
use Rattle.ng_lists.specs.Rings.{ring_of}
use Rattle.ng_lists.proofs.MemberLemmas.{Contains-first}
use Rattle.ng_group.specs.States.{State}
use Rattle.ng_group.proofs.GrowLemmas.{lowest_serves, none_grows, passes}
use Rattle.ng_group.proofs.RefillLemmas.{empty_finds, if_none, if_some, is_none, no_slot, none_bare, served_available, served_freed}
use Rattle.ng_group.proofs.ServingLemmas.{live_at}
use Rattle.ng_group.proofs.WorkingLemmas.{only_then}
use Rattle.ng_group.proofs.works.Works.serve_ring.Goals as goal

pub pop_core-requires : goal.pop_core-requires
pop_core-requires g c = record {
  live = (
      let begins : slice_get (ring_of c.args.self.now.rings c.args.class) 0 ≡ Some c.in_ok-first.first =
      subst (λ (s : State g.row.M.Denot g.row.P.Denot). slice_get (ring_of s.rings c.args.class) 0 ≡ Some c.in_ok-first.first) c.self.view_is (sym c.in_ok-first.ensures.first) in
      live_at g.N.Name.facts.start g.M.Mapper.span g.M.Mapper.runs g.M.Mapper.refused _ _ c.args.class c.in_ok-first.first c.self.view_is c.requires.working c.requires.class (Contains-first (ring_of c.args.self.now.rings c.args.class) c.in_ok-first.first (sym begins)));
}

pub refill-requires-clause-working : goal.refill-requires-clause-working
refill-requires-clause-working g c =
    (passes g.N.Name.facts.start g.M.Mapper.span g.M.Mapper.runs g.M.Mapper.refused _ _ c.args.class c.pop_core.new.seat c.self.view_is (none_grows c.self.inside.seat c.pop_core.new.seat c.in_ok-first.first c.in-None.ensures.none) c.requires.working).working

pub refill-requires-clause-bare : goal.refill-requires-clause-bare
refill-requires-clause-bare g c =
    let begins : slice_get (ring_of c.args.self.now.rings c.args.class) 0 ≡ Some c.in_ok-first.first =
    subst (λ (s : State g.row.M.Denot g.row.P.Denot). slice_get (ring_of s.rings c.args.class) 0 ≡ Some c.in_ok-first.first) c.self.view_is (sym c.in_ok-first.ensures.first) in
    none_bare g.N.Name.facts.start g.M.Mapper.span g.M.Mapper.runs g.M.Mapper.refused _ _ c.args.class c.in_ok-first.first c.pop_core.new.seat c.self.view_is c.requires.class begins c.in-None.ensures.none c.requires.working

pub returns-in-Some-clause-working : goal.returns-in-Some-clause-working
returns-in-Some-clause-working g c =
    let begins : slice_get (ring_of c.args.self.now.rings c.args.class) 0 ≡ Some c.in_ok-first.first =
    subst (λ (s : State g.row.M.Denot g.row.P.Denot). slice_get (ring_of s.rings c.args.class) 0 ≡ Some c.in_ok-first.first) c.self.view_is (sym c.in_ok-first.ensures.first) in
    (lowest_serves g.N.Name.facts.start g.M.Mapper.span g.M.Mapper.runs g.M.Mapper.refused _ _ c.args.class c.args.bytes c.in_ok-first.first c.in-Some.index c.pop_core.new.seat c.self.view_is c.requires.class c.requires.bytes begins c.requires.idle c.in-Some.ensures.taken c.requires.working).working

pub returns-in-Some-clause-only : goal.returns-in-Some-clause-only
returns-in-Some-clause-only g c =
    let begins : slice_get (ring_of c.args.self.now.rings c.args.class) 0 ≡ Some c.in_ok-first.first =
    subst (λ (s : State g.row.M.Denot g.row.P.Denot). slice_get (ring_of s.rings c.args.class) 0 ≡ Some c.in_ok-first.first) c.self.view_is (sym c.in_ok-first.ensures.first) in
    (lowest_serves g.N.Name.facts.start g.M.Mapper.span g.M.Mapper.runs g.M.Mapper.refused _ _ c.args.class c.args.bytes c.in_ok-first.first c.in-Some.index c.pop_core.new.seat c.self.view_is c.requires.class c.requires.bytes begins c.requires.idle c.in-Some.ensures.taken c.requires.working).only

pub returns-in-Some-clause-served : goal.returns-in-Some-clause-served
returns-in-Some-clause-served g c =
    let begins : slice_get (ring_of c.args.self.now.rings c.args.class) 0 ≡ Some c.in_ok-first.first =
    subst (λ (s : State g.row.M.Denot g.row.P.Denot). slice_get (ring_of s.rings c.args.class) 0 ≡ Some c.in_ok-first.first) c.self.view_is (sym c.in_ok-first.ensures.first) in
    (lowest_serves g.N.Name.facts.start g.M.Mapper.span g.M.Mapper.runs g.M.Mapper.refused _ _ c.args.class c.args.bytes c.in_ok-first.first c.in-Some.index c.pop_core.new.seat c.self.view_is c.requires.class c.requires.bytes begins c.requires.idle c.in-Some.ensures.taken c.requires.working).served

pub returns-in-None-clause-only : goal.returns-in-None-clause-only
returns-in-None-clause-only g c =
    only_then c.args.class c.args.self.now _ c.refill.new.self
    (passes g.N.Name.facts.start g.M.Mapper.span g.M.Mapper.runs g.M.Mapper.refused _ _ c.args.class c.pop_core.new.seat c.self.view_is (none_grows c.self.inside.seat c.pop_core.new.seat c.in_ok-first.first c.in-None.ensures.none) c.requires.working).only
    c.refill.ensures.only

pub returns-in-None-clause-none : goal.returns-in-None-clause-none
returns-in-None-clause-none g c =
    if_none c.refill.result c.refill.ensures.none
    (λ freed. no_slot _ c.args.self.now c.refill.new.self c.args.class c.in_ok-first.first c.pop_core.new.seat c.self.view_is c.in-None.ensures.none freed)

pub returns-in-Some-clause-source : goal.returns-in-Some-clause-source
returns-in-Some-clause-source g c =
    let begins : slice_get (ring_of c.args.self.now.rings c.args.class) 0 ≡ Some c.in_ok-first.first =
    subst (λ (s : State g.row.M.Denot g.row.P.Denot). slice_get (ring_of s.rings c.args.class) 0 ≡ Some c.in_ok-first.first) c.self.view_is (sym c.in_ok-first.ensures.first) in
    served_available g.N.Name.facts.start g.M.Mapper.span g.M.Mapper.runs g.M.Mapper.refused _ _ c.args.class c.in_ok-first.first c.in-Some.index c.pop_core.new.seat c.self.view_is c.requires.class begins c.in-Some.ensures.taken c.requires.working

pub returns-in-None-clause-source : goal.returns-in-None-clause-source
returns-in-None-clause-source g c =
    let begins : slice_get (ring_of c.args.self.now.rings c.args.class) 0 ≡ Some c.in_ok-first.first =
    subst (λ (s : State g.row.M.Denot g.row.P.Denot). slice_get (ring_of s.rings c.args.class) 0 ≡ Some c.in_ok-first.first) c.self.view_is (sym c.in_ok-first.ensures.first) in
    if_some c.refill.result c.refill.ensures.decays
    (λ decays. served_freed _ c.args.self.now c.refill.new.self c.args.class c.in_ok-first.first c.pop_core.new.seat c.self.view_is begins c.in-None.ensures.none c.refill.ensures.only decays)

pub returns-in_err-first-clause-none : goal.returns-in_err-first-clause-none
returns-in_err-first-clause-none g c =
    is_none c.from_residual.result _ c.from_residual.ensures
    (empty_finds c.args.class c.args.self.now (sym (ap (λ (s : State g.row.M.Denot g.row.P.Denot). ring_of s.rings c.args.class) c.self.view_is) ∙ c.in_err-first.ensures.none.0 refl))
