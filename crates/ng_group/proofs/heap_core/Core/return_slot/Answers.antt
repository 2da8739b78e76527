use Rattle.std.proofs.Common.{ap, ◌∙◌, subst, sym}
use Rattle.ng_group.specs.Opening.{IsMostBounded}
use Rattle.ng_group.specs.States.{Resting, State}
use Rattle.ng_group.specs.declared.heap_core.Core.TheInside.{Inside}
use Rattle.ng_group.proofs.CallLemmas.{still_bounded}
use Rattle.ng_group.proofs.HandBackLemmas.{blocks_left, hand_goes, hand_rests, hand_returned, hand_returns, hand_slot, hand_works, slots_left}
use Rattle.ng_group.proofs.RecursionLemmas.{describes_read}
use Rattle.ng_group.proofs.heap_core.Core.return_slot.Goals as goal

pub group_of_slot-group-requires-clause-slot : goal.group_of_slot-group-requires-clause-slot
group_of_slot-group-requires-clause-slot g c =
    let same = ap (λ (x : Inside g.row.N.Denot g.row.M.Denot g.row.P.Denot). x.works) c.self-inside.view_is ∙ c.self.view_is in
    let rest = subst (λ (s : State g.row.M.Denot g.row.P.Denot). Resting g.N.Name.facts.start g.M.Mapper.span g.M.Mapper.runs g.M.Mapper.refused s) c.self.view_is c.self.invariant.0 in
    hand_slot g.N.Name.facts.start g.M.Mapper.span g.M.Mapper.runs g.M.Mapper.refused same rest c.args.hand.now c.args.slot c.requires.slot c.slot_to_seat.new.seat c.slot_to_seat.new.seat c.slot_to_seat.ensures.seat c.meta-meta.result c.index-index.result c.meta-meta.ensures.meta c.index-index.ensures.index

pub seat_return-requires-clause-working : goal.seat_return-requires-clause-working
seat_return-requires-clause-working g c =
    let same = ap (λ (x : Inside g.row.N.Denot g.row.M.Denot g.row.P.Denot). x.works) c.self-inside.view_is ∙ c.self.view_is in
    let rest = subst (λ (s : State g.row.M.Denot g.row.P.Denot). Resting g.N.Name.facts.start g.M.Mapper.span g.M.Mapper.runs g.M.Mapper.refused s) c.self.view_is c.self.invariant.0 in
    hand_works g.N.Name.facts.start g.M.Mapper.span g.M.Mapper.runs g.M.Mapper.refused same rest c.args.hand.now c.args.slot c.requires.slot c.slot_to_seat.new.seat c.group_of_slot-group.new.seat c.slot_to_seat.ensures.seat c.meta-meta.result c.index-index.result c.meta-meta.ensures.meta c.index-index.ensures.index c.group_of_slot-group.ensures.reads c.group_of_slot-group.ensures.slots

pub seat_return-requires-clause-slot : goal.seat_return-requires-clause-slot
seat_return-requires-clause-slot g c =
    let same = ap (λ (x : Inside g.row.N.Denot g.row.M.Denot g.row.P.Denot). x.works) c.self-inside.view_is ∙ c.self.view_is in
    let rest = subst (λ (s : State g.row.M.Denot g.row.P.Denot). Resting g.N.Name.facts.start g.M.Mapper.span g.M.Mapper.runs g.M.Mapper.refused s) c.self.view_is c.self.invariant.0 in
    hand_returned g.N.Name.facts.start g.M.Mapper.span g.M.Mapper.runs g.M.Mapper.refused same rest c.args.hand.now c.args.slot c.requires.slot c.slot_to_seat.new.seat c.group_of_slot-group.new.seat c.slot_to_seat.ensures.seat c.meta-meta.result c.index-index.result c.meta-meta.ensures.meta c.index-index.ensures.index c.group_of_slot-group.ensures.reads c.group_of_slot-group.ensures.slots

pub seat_return-requires-clause-group : goal.seat_return-requires-clause-group
seat_return-requires-clause-group g c =
    describes_read c.slot_to_seat.new.seat c.group_of_slot-group.new.seat c.meta-meta.result c.group_of_slot-group.result c.group_of_slot-group.ensures.reads c.group_of_slot-group.ensures.group

pub invariant_of-self : goal.invariant_of-self
invariant_of-self g c =
    let same = ap (λ (x : Inside g.row.N.Denot g.row.M.Denot g.row.P.Denot). x.works) c.self-inside.view_is ∙ c.self.view_is in
    let rest = subst (λ (s : State g.row.M.Denot g.row.P.Denot). Resting g.N.Name.facts.start g.M.Mapper.span g.M.Mapper.runs g.M.Mapper.refused s) c.self.view_is c.self.invariant.0 in (
      hand_rests g.N.Name.facts.start g.M.Mapper.span g.M.Mapper.runs g.M.Mapper.refused same rest c.args.hand.now c.args.slot c.requires.slot c.slot_to_seat.new.seat c.group_of_slot-group.new.seat c.slot_to_seat.ensures.seat c.meta-meta.result c.index-index.result c.meta-meta.ensures.meta c.index-index.ensures.index c.group_of_slot-group.ensures.reads c.group_of_slot-group.ensures.slots c.seat_return.new.self c.seat_return.ensures.working c.seat_return.ensures.hand c.seat_return.ensures.idle c.seat_return.ensures.calm.excuses,
      still_bounded g.N.Name.facts _ _ c.seat_return.ensures.calm.refused
          (subst (λ (x : Inside g.row.N.Denot g.row.M.Denot g.row.P.Denot). IsMostBounded g.N.Name.facts (g.M.Mapper.refused x.works.mapper)) (sym c.self-inside.view_is) c.self.invariant.1),
    )

pub returns-clause-returns : goal.returns-clause-returns
returns-clause-returns g c =
    let same = ap (λ (x : Inside g.row.N.Denot g.row.M.Denot g.row.P.Denot). x.works) c.self-inside.view_is ∙ c.self.view_is in
    let rest = subst (λ (s : State g.row.M.Denot g.row.P.Denot). Resting g.N.Name.facts.start g.M.Mapper.span g.M.Mapper.runs g.M.Mapper.refused s) c.self.view_is c.self.invariant.0 in
    hand_returns g.N.Name.facts.start g.M.Mapper.span g.M.Mapper.runs g.M.Mapper.refused same rest c.args.hand.now c.args.slot c.requires.slot c.slot_to_seat.new.seat c.group_of_slot-group.new.seat c.slot_to_seat.ensures.seat c.meta-meta.result c.index-index.result c.meta-meta.ensures.meta c.index-index.ensures.index c.group_of_slot-group.ensures.reads c.group_of_slot-group.ensures.slots c.seat_return.new.self g.P.Rules.keep_gives c.group_of_slot-group.result c.group_of_slot-group.ensures.group c.group_of_slot-group.ensures.loads c.seat_return.ensures.returns

pub returns-clause-on : goal.returns-clause-on
returns-clause-on g c =
    let same = ap (λ (x : Inside g.row.N.Denot g.row.M.Denot g.row.P.Denot). x.works) c.self-inside.view_is ∙ c.self.view_is in
    let rest = subst (λ (s : State g.row.M.Denot g.row.P.Denot). Resting g.N.Name.facts.start g.M.Mapper.span g.M.Mapper.runs g.M.Mapper.refused s) c.self.view_is c.self.invariant.0 in
    hand_goes g.N.Name.facts.start g.M.Mapper.span g.M.Mapper.runs g.M.Mapper.refused same rest c.args.hand.now c.args.slot c.requires.slot c.slot_to_seat.new.seat c.group_of_slot-group.new.seat c.slot_to_seat.ensures.seat c.meta-meta.result c.index-index.result c.meta-meta.ensures.meta c.index-index.ensures.index c.group_of_slot-group.ensures.reads c.group_of_slot-group.ensures.slots c.seat_return.new.self c.seat_return.ensures.on

pub returns-clause-others : goal.returns-clause-others
returns-clause-others g c =
    slots_left c.args.hand.now c.slot_to_seat.new.hand c.args.slot c.slot_to_seat.ensures.number c.slot_to_seat.ensures.view

pub returns-clause-blocks : goal.returns-clause-blocks
returns-clause-blocks g c =
    blocks_left c.args.hand.now c.slot_to_seat.new.hand c.args.slot c.slot_to_seat.ensures.number c.slot_to_seat.ensures.view c.requires.slot
