use Rattle.std.proofs.Common.{ap, refl, ◌∙◌, arith}
use Rattle.ng_terms.specs.Accounts.{pages_for}
use Rattle.ng_view.specs.declared.view.View.{View}
use Rattle.ng_group.specs.Hands.{GainsExcuse, GainsSlot}
use Rattle.ng_group.proofs.AskedLemmas.{passed_leaves, passed_lone, passed_lone_cause}
use Rattle.ng_group.proofs.CallLemmas.{Refuses, Serves, bounded_calm, bounded_most, excuse_found, excuse_number, gets_excuse, refuses_at, rests_excuse, rests_slot, serves_at, slot_found, slot_motion, works_of}
use Rattle.ng_group.proofs.HandKeepLemmas.{apart_of, excused_keeps, gained_keeps}
use Rattle.ng_group.proofs.HandSlotLemmas.{excused, learns_same, passed, passed_slot}
use Rattle.ng_group.proofs.heap_core.Core.alloc_lone.Given.{Over}
use Rattle.ng_group.proofs.heap_core.Core.alloc_lone.Goals as goal

-- ---- the seat passed on a slot
pub slot_to_hand-requires : goal.slot_to_hand-requires
slot_to_hand-requires g c = record {
  slot =
      slot_motion g.N.Name.facts.start g.M.Mapper.span g.M.Mapper.runs g.M.Mapper.refused (works_of c.self-inside.view_is)
      63 c.args.bytes c.in-Ok.meta 0
      c.in-Ok.ensures.served;
}

-- what the seat's call told
served : (g : Over) (c : goal.After-slot_to_hand g)
    → Serves g.N.Name.facts.start g.M.Mapper.span g.M.Mapper.runs g.M.Mapper.refused 63 c.args.bytes c.in-Ok.meta 0 c.args.self.now c.seat_lone.new.self
served g c =
    serves_at g.N.Name.facts.start g.M.Mapper.span g.M.Mapper.runs g.M.Mapper.refused 63 c.args.bytes c.in-Ok.meta 0 c.self.view_is c.self.invariant.0
    c.in-Ok.ensures.working
    c.in-Ok.ensures.on
    c.in-Ok.ensures.hand
    c.in-Ok.ensures.served
    c.in-Ok.ensures.calm

pub invariant_of-self : goal.invariant_of-self
invariant_of-self g c = (
  rests_slot g.N.Name.facts.start g.M.Mapper.span g.M.Mapper.runs g.M.Mapper.refused (works_of c.self-inside.view_is)
      63 c.args.bytes c.in-Ok.meta 0
      (served g c)
      c.slot_to_hand.new.seat
      c.slot_to_hand.ensures.seat,
  bounded_calm g.N.Name.facts g.M.Mapper.refused (works_of c.self-inside.view_is) _ c.self.invariant.1 c.in-Ok.ensures.calm.refused,
)

gains : (g : Over) (c : goal.After-slot_to_hand g)
    → GainsSlot c.slot_to_hand.result.meta c.slot_to_hand.result.index c.args.hand.now.view c.slot_to_hand.new.hand.view
gains g c =
    passed 63 c.args.bytes c.in-Ok.meta 0 c.seat_lone.new.self.seat c.in-Ok.ensures.served
    c.args.hand.now.view c.args.hand.now.view (learns_same c.args.hand.now.view) _
    (slot_found g.N.Name.facts.start g.M.Mapper.span g.M.Mapper.runs g.M.Mapper.refused (works_of c.self-inside.view_is)
    63 c.args.bytes c.in-Ok.meta 0 c.in-Ok.ensures.served)
    c.slot_to_hand.new.hand c.slot_to_hand.result c.slot_to_hand.ensures.view c.slot_to_hand.ensures.meta c.slot_to_hand.ensures.index

pub returns-in-Ok-clause-slot : goal.returns-in-Ok-clause-slot
returns-in-Ok-clause-slot g c =
    passed_slot 63 c.args.bytes c.in-Ok.meta 0 c.seat_lone.new.self.seat c.in-Ok.ensures.served
    c.args.hand.now.view c.args.hand.now.view (learns_same c.args.hand.now.view) _
    (slot_found g.N.Name.facts.start g.M.Mapper.span g.M.Mapper.runs g.M.Mapper.refused (works_of c.self-inside.view_is)
    63 c.args.bytes c.in-Ok.meta 0 c.in-Ok.ensures.served)
    c.slot_to_hand.new.hand c.slot_to_hand.result c.slot_to_hand.ensures.view c.slot_to_hand.ensures.meta c.slot_to_hand.ensures.index
    c.slot_to_hand.ensures.slot

pub returns-in-Ok-clause-gains : goal.returns-in-Ok-clause-gains
returns-in-Ok-clause-gains g c = gains g c

pub returns-in-Ok-clause-apart : goal.returns-in-Ok-clause-apart
returns-in-Ok-clause-apart g c =
    apart_of c.args.hand.now c.slot_to_hand.new.hand c.slot_to_hand.result (gains g c) c.slot_to_hand.ensures.once

pub returns-in-Ok-clause-slots : goal.returns-in-Ok-clause-slots
returns-in-Ok-clause-slots g c = gained_keeps _ _ _ _ (gains g c) c.slot_to_hand.ensures.once

pub returns-in-Ok-clause-stores : goal.returns-in-Ok-clause-stores
returns-in-Ok-clause-stores g c =
    ap (λ (v : View). v.stores) c.slot_to_hand.ensures.seat
    ∙ ap (λ s. s.seat.stores) (works_of c.self-inside.view_is)
    ∙ c.in-Ok.ensures.stores
    ∙ ap (λ s. s.seat.stores) c.self.view_is

pub returns-in-Ok-clause-builds : goal.returns-in-Ok-clause-builds
returns-in-Ok-clause-builds g c =
    passed_lone c.self.view_is (works_of c.self-inside.view_is) _
    (ap (λ (x : View). x.desk) c.slot_to_hand.ensures.seat)
    c.args.bytes c.in-Ok.meta c.slot_to_hand.result.meta c.slot_to_hand.ensures.meta (ap (λ (x : View). x.readings) c.slot_to_hand.ensures.seat) refl refl
    c.in-Ok.ensures.builds

-- ---- the seat passed on an excuse
pub excuse_to_hand-requires : goal.excuse_to_hand-requires
excuse_to_hand-requires g c =
    let told = refuses_at g.N.Name.facts.start g.M.Mapper.span g.M.Mapper.runs g.M.Mapper.refused c.in-Err.number c.self.view_is c.self.invariant.0
    c.in-Err.ensures.working
    c.in-Err.ensures.on
    c.in-Err.ensures.hand
    c.in-Err.ensures.refused
    c.in-Err.ensures.idle in
    record { excuse = excuse_number g.N.Name.facts.start g.M.Mapper.span g.M.Mapper.runs g.M.Mapper.refused (works_of c.self-inside.view_is) c.in-Err.number told }

refuses : (g : Over) (c : goal.After-excuse_to_hand g)
    → Refuses g.N.Name.facts.start g.M.Mapper.span g.M.Mapper.runs g.M.Mapper.refused c.in-Err.number c.args.self.now c.seat_lone.new.self
refuses g c =
    refuses_at g.N.Name.facts.start g.M.Mapper.span g.M.Mapper.runs g.M.Mapper.refused c.in-Err.number c.self.view_is c.self.invariant.0
    c.in-Err.ensures.working
    c.in-Err.ensures.on
    c.in-Err.ensures.hand
    c.in-Err.ensures.refused
    c.in-Err.ensures.idle

pub invariant_of-self-in-Err : goal.invariant_of-self-in-Err
invariant_of-self-in-Err g c = (
  rests_excuse g.N.Name.facts.start g.M.Mapper.span g.M.Mapper.runs g.M.Mapper.refused (works_of c.self-inside.view_is) c.in-Err.number (refuses g c)
      c.excuse_to_hand.new.seat
      c.excuse_to_hand.ensures.seat,
  bounded_most g.N.Name.facts g.M.Mapper.refused (works_of c.self-inside.view_is) (g.M.Mapper.refused c.self.inside.works.mapper) c.self.invariant.1 (pages_for c.args.bytes) c.in-Err.ensures.most (let cap = c.requires.cap in omega arith),
)

gains-in-Err : (g : Over) (c : goal.After-excuse_to_hand g)
    → GainsExcuse c.excuse_to_hand.result.number c.args.hand.now.view c.excuse_to_hand.new.hand.view
gains-in-Err g c =
    excused c.in-Err.number c.excuse_to_hand.result.number c.args.hand.now.view c.args.hand.now.view c.excuse_to_hand.new.hand.view _
    c.excuse_to_hand.ensures.excuse
    (learns_same c.args.hand.now.view)
    (excuse_found g.N.Name.facts.start g.M.Mapper.span g.M.Mapper.runs g.M.Mapper.refused (works_of c.self-inside.view_is) c.in-Err.number (refuses g c))
    c.excuse_to_hand.ensures.view

pub returns-in-Err-clause-slots : goal.returns-in-Err-clause-slots
returns-in-Err-clause-slots g c = excused_keeps _ _ _ (gains-in-Err g c)

pub returns-in-Err-clause-excuse : goal.returns-in-Err-clause-excuse
returns-in-Err-clause-excuse g c =
    let passed = c.excuse_to_hand.ensures in
    gets_excuse g.M.Mapper.refused (pages_for c.args.bytes) c.self.view_is (works_of c.self-inside.view_is) c.args.hand.now c.excuse_to_hand.new.hand c.in-Err.number c.excuse_to_hand.result
    passed.excuse passed.has (gains-in-Err g c) c.in-Err.ensures.refused c.in-Err.ensures.most

pub returns-in-Err-clause-cause : goal.returns-in-Err-clause-cause
returns-in-Err-clause-cause g c =
    passed_lone_cause (λ m. (g.M.Mapper.refused m).last) c.self.view_is (works_of c.self-inside.view_is) (record c.args.self.now { seat = c.excuse_to_hand.new.seat; bounces = _ })
    (ap (λ (x : View). x.desk) c.excuse_to_hand.ensures.seat)
    refl
    c.args.bytes
    c.in-Err.ensures.cause

pub returns-in-Err-clause-leaves : goal.returns-in-Err-clause-leaves
returns-in-Err-clause-leaves g c =
    passed_leaves c.self.view_is (works_of c.self-inside.view_is) _
    (ap (λ (x : View). x.desk) c.excuse_to_hand.ensures.seat)
    (ap (λ (x : View). x.readings) c.excuse_to_hand.ensures.seat)
    refl
    refl
    refl
    c.in-Err.ensures.leaves
