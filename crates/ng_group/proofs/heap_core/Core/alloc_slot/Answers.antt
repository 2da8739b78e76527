use Rattle.std.proofs.Common.{ap, refl, subst, sym, ◌∙◌, arith, inl, inr}
use Rattle.ng_view.specs.declared.view.View.{View}
use Rattle.ng_group.specs.Hands.{GainsExcuse, GainsSlot}
use Rattle.ng_group.specs.Untouched.{IsUntouched}
use Rattle.ng_group.proofs.AskedLemmas.{passed_builds, passed_cause, passed_leaves}
use Rattle.ng_group.proofs.CallLemmas.{Refuses, Serves, bounded_calm, bounded_most, excuse_found, excuse_number, first_place, gets_excuse, refuses_at, rests_excuse, rests_slot, serves_at, slot_found, slot_motion, works_of}
use Rattle.ng_group.proofs.HandKeepLemmas.{apart_of, excused_keeps, gained_keeps}
use Rattle.ng_group.proofs.HandSlotLemmas.{Tried, excused, passed, passed_slot, tried_book, tried_not, tried_pop, won, won_slot}
use Rattle.ng_group.proofs.UntouchedLemmas.{untouched_same, untouched_still}
use Rattle.ng_group.proofs.WorkingLemmas.{goes_same}
use Rattle.ng_group.proofs.heap_core.Core.alloc_slot.Given.{Over}
use Rattle.ng_group.proofs.heap_core.Core.alloc_slot.Goals.{in-Some+in-Bare, in_default}
use Rattle.ng_group.proofs.heap_core.Core.alloc_slot.Goals as goal

-- ---- the hand won a slot
pub pop-requires-clause-place : goal.pop-requires-clause-place
pop-requires-clause-place g c =
    first_place g.N.Name.facts.start g.M.Mapper.span g.M.Mapper.runs g.M.Mapper.refused c.args.class c.in-Some.first
    (works_of c.self-inside.view_is)
    c.self.invariant.0.working
    c.requires.class
    (sym c.in-Some.ensures.first)

gains_won : (g : Over) (c : goal.In-Won g) → GainsSlot c.in-Won.slot.meta c.in-Won.slot.index c.args.hand.now.view c.pop.new.hand.view
gains_won g c = won c.in-Some.first c.args.class c.args.hand.now.view c.pop.new.hand c.in-Won.slot c.in-Won.ensures.cause c.in-Won.ensures.meta

pub returns-in-Won-clause-slot : goal.returns-in-Won-clause-slot
returns-in-Won-clause-slot g c =
    won_slot c.in-Some.first c.args.class c.args.hand.now.view c.pop.new.hand c.in-Won.slot c.in-Won.ensures.cause c.in-Won.ensures.meta
    c.args.bytes
    c.in-Won.ensures.won
    c.requires.class
    c.requires.bytes

pub returns-in-Won-clause-gains : goal.returns-in-Won-clause-gains
returns-in-Won-clause-gains g c = gains_won g c

pub returns-in-Won-clause-apart : goal.returns-in-Won-clause-apart
returns-in-Won-clause-apart g c = apart_of c.args.hand.now c.pop.new.hand c.in-Won.slot (gains_won g c) c.in-Won.ensures.once

pub returns-in-Won-clause-slots : goal.returns-in-Won-clause-slots
returns-in-Won-clause-slots g c = gained_keeps _ _ _ _ (gains_won g c) c.in-Won.ensures.once

pub returns-in-Won-clause-builds : goal.returns-in-Won-clause-builds
returns-in-Won-clause-builds g c = inl refl

pub returns-in-Won-clause-untouched : goal.returns-in-Won-clause-untouched
returns-in-Won-clause-untouched g c = untouched_same _ _ c.args.self.now.seat c.args.self.now.seat refl

pub returns-in-Won-clause-on : goal.returns-in-Won-clause-on
returns-in-Won-clause-on g c = goes_same c.args.self.now.seat

-- ---- the seat passed on a slot
pub slot_to_hand-requires : goal.slot_to_hand-requires
slot_to_hand-requires g c = record {
  slot =
      slot_motion g.N.Name.facts.start g.M.Mapper.span g.M.Mapper.runs g.M.Mapper.refused (works_of c.self-inside-2.view_is)
      c.args.class c.args.bytes c.in-Ok.meta c.in-Ok.index
      c.in-Ok.ensures.served;
}

-- what the seat's call told
served : (g : Over) (c : goal.After-slot_to_hand g)
    → Serves g.N.Name.facts.start g.M.Mapper.span g.M.Mapper.runs g.M.Mapper.refused c.args.class c.args.bytes c.in-Ok.meta c.in-Ok.index c.args.self.now c.seat_slot.new.self
served g c =
    serves_at g.N.Name.facts.start g.M.Mapper.span g.M.Mapper.runs g.M.Mapper.refused c.args.class c.args.bytes c.in-Ok.meta c.in-Ok.index
    c.self.view_is
    c.self.invariant.0
    c.in-Ok.ensures.working
    c.in-Ok.ensures.on
    c.in-Ok.ensures.hand
    c.in-Ok.ensures.served
    c.in-Ok.ensures.calm

pub invariant_of-self : goal.invariant_of-self
invariant_of-self g c = (
  rests_slot g.N.Name.facts.start g.M.Mapper.span g.M.Mapper.runs g.M.Mapper.refused (works_of c.self-inside-2.view_is)
      c.args.class c.args.bytes c.in-Ok.meta c.in-Ok.index
      (served g c)
      c.slot_to_hand.new.seat
      c.slot_to_hand.ensures.seat,
  bounded_calm g.N.Name.facts g.M.Mapper.refused (works_of c.self-inside-2.view_is) _ c.self.invariant.1 c.in-Ok.ensures.calm.refused,
)

-- what the hand's own try left
tried : (g : Over) (c : goal.After-slot_to_hand g) → Tried c.args.hand.now c.match-first.hand
tried g c = elim c.match-first.branch [
  | in-Some+in-Bare w ↦ tried_pop w.in-Some.first c.args.class c.args.hand.now w.pop.new.hand c.match-first.hand w.pop.result w.in-Bare.is
      w.pop.ensures.cause
      (record { number = w.pop.ensures.number; spare = w.pop.ensures.spare; entries = w.pop.ensures.entries })
      w.hand-is
  | in_default w ↦ tried_not c.args.hand.now c.match-first.hand w.hand-is
]

gains : (g : Over) (c : goal.After-slot_to_hand g)
    → GainsSlot c.slot_to_hand.result.meta c.slot_to_hand.result.index c.args.hand.now.view c.slot_to_hand.new.hand.view
gains g c =
    passed c.args.class c.args.bytes c.in-Ok.meta c.in-Ok.index c.seat_slot.new.self.seat c.in-Ok.ensures.served
    c.args.hand.now.view c.match-first.hand.view (tried g c).learns _
    (slot_found g.N.Name.facts.start g.M.Mapper.span g.M.Mapper.runs g.M.Mapper.refused (works_of c.self-inside-2.view_is)
    c.args.class c.args.bytes c.in-Ok.meta c.in-Ok.index c.in-Ok.ensures.served)
    c.slot_to_hand.new.hand c.slot_to_hand.result c.slot_to_hand.ensures.view c.slot_to_hand.ensures.meta c.slot_to_hand.ensures.index

pub returns-in-Ok-clause-slot : goal.returns-in-Ok-clause-slot
returns-in-Ok-clause-slot g c =
    passed_slot c.args.class c.args.bytes c.in-Ok.meta c.in-Ok.index c.seat_slot.new.self.seat c.in-Ok.ensures.served
    c.args.hand.now.view c.match-first.hand.view (tried g c).learns _
    (slot_found g.N.Name.facts.start g.M.Mapper.span g.M.Mapper.runs g.M.Mapper.refused (works_of c.self-inside-2.view_is)
    c.args.class c.args.bytes c.in-Ok.meta c.in-Ok.index c.in-Ok.ensures.served)
    c.slot_to_hand.new.hand c.slot_to_hand.result c.slot_to_hand.ensures.view c.slot_to_hand.ensures.meta c.slot_to_hand.ensures.index
    c.slot_to_hand.ensures.slot

pub returns-in-Ok-clause-gains : goal.returns-in-Ok-clause-gains
returns-in-Ok-clause-gains g c = gains g c

pub returns-in-Ok-clause-apart : goal.returns-in-Ok-clause-apart
returns-in-Ok-clause-apart g c =
    apart_of c.args.hand.now c.slot_to_hand.new.hand c.slot_to_hand.result (gains g c) c.slot_to_hand.ensures.once

pub returns-in-Ok-clause-slots : goal.returns-in-Ok-clause-slots
returns-in-Ok-clause-slots g c = gained_keeps _ _ _ _ (gains g c) c.slot_to_hand.ensures.once

pub returns-in-Ok-clause-book : goal.returns-in-Ok-clause-book
returns-in-Ok-clause-book g c =
    let passed = c.slot_to_hand.ensures in
    tried_book c.args.hand.now c.match-first.hand c.slot_to_hand.new.hand (tried g c) (record { number = passed.number; spare = passed.spare; entries = passed.entries })

pub returns-in-Ok-clause-builds : goal.returns-in-Ok-clause-builds
returns-in-Ok-clause-builds g c =
    inr (passed_builds g.P.Rules.count_gives (λ m. (g.M.Mapper.refused m).last) c.args.class c.args.bytes c.self.view_is (works_of c.self-inside-2.view_is) _
    (ap (λ (x : View). x.desk) c.slot_to_hand.ensures.seat)
    (ap (λ (x : View). x.readings) c.slot_to_hand.ensures.seat)
    refl
    refl
    c.in-Ok.ensures.builds)

pub returns-in-Ok-clause-untouched : goal.returns-in-Ok-clause-untouched
returns-in-Ok-clause-untouched g c =
    let passed = c.slot_to_hand.ensures in
    let inside = works_of c.self-inside-2.view_is in
    subst (λ m. IsUntouched m c.slot_to_hand.result.index c.args.self.now.seat c.slot_to_hand.new.seat) (sym passed.meta)
    (subst (λ i. IsUntouched c.in-Ok.meta i c.args.self.now.seat c.slot_to_hand.new.seat) (sym passed.index)
    (untouched_still c.in-Ok.meta c.in-Ok.index c.args.self.now.seat c.seat_slot.new.self.seat c.slot_to_hand.new.seat
    (ap (λ (v : View). v.stores) passed.seat ∙ ap (λ s. s.seat.stores) inside)
    (ap (λ (v : View). v.desk.groups) passed.seat ∙ ap (λ s. s.seat.desk.groups) inside)
    (subst (λ s. IsUntouched c.in-Ok.meta c.in-Ok.index s.seat c.seat_slot.new.self.seat) c.self.view_is c.in-Ok.ensures.untouched)))

-- ---- the seat passed on an excuse
pub excuse_to_hand-requires : goal.excuse_to_hand-requires
excuse_to_hand-requires g c =
    let told = refuses_at g.N.Name.facts.start g.M.Mapper.span g.M.Mapper.runs g.M.Mapper.refused c.in-Err.number c.self.view_is c.self.invariant.0
    c.in-Err.ensures.working
    c.in-Err.ensures.on
    c.in-Err.ensures.hand
    c.in-Err.ensures.refused
    c.in-Err.ensures.idle in
    record { excuse = excuse_number g.N.Name.facts.start g.M.Mapper.span g.M.Mapper.runs g.M.Mapper.refused (works_of c.self-inside-2.view_is) c.in-Err.number told }

refuses : (g : Over) (c : goal.After-excuse_to_hand g)
    → Refuses g.N.Name.facts.start g.M.Mapper.span g.M.Mapper.runs g.M.Mapper.refused c.in-Err.number c.args.self.now c.seat_slot.new.self
refuses g c =
    refuses_at g.N.Name.facts.start g.M.Mapper.span g.M.Mapper.runs g.M.Mapper.refused c.in-Err.number c.self.view_is c.self.invariant.0
    c.in-Err.ensures.working
    c.in-Err.ensures.on
    c.in-Err.ensures.hand
    c.in-Err.ensures.refused
    c.in-Err.ensures.idle

pub invariant_of-self-in-Err : goal.invariant_of-self-in-Err
invariant_of-self-in-Err g c = (
  rests_excuse g.N.Name.facts.start g.M.Mapper.span g.M.Mapper.runs g.M.Mapper.refused (works_of c.self-inside-2.view_is) c.in-Err.number (refuses g c)
      c.excuse_to_hand.new.seat
      c.excuse_to_hand.ensures.seat,
  bounded_most g.N.Name.facts g.M.Mapper.refused (works_of c.self-inside-2.view_is) (g.M.Mapper.refused c.self.inside.works.mapper) c.self.invariant.1 512 c.in-Err.ensures.most (omega arith),
)

-- what the hand's own try left
tried-in-Err : (g : Over) (c : goal.After-excuse_to_hand g) → Tried c.args.hand.now c.match-first.hand
tried-in-Err g c = elim c.match-first.branch [
  | in-Some+in-Bare w ↦ tried_pop w.in-Some.first c.args.class c.args.hand.now w.pop.new.hand c.match-first.hand w.pop.result w.in-Bare.is
      w.pop.ensures.cause
      (record { number = w.pop.ensures.number; spare = w.pop.ensures.spare; entries = w.pop.ensures.entries })
      w.hand-is
  | in_default w ↦ tried_not c.args.hand.now c.match-first.hand w.hand-is
]

gains-in-Err : (g : Over) (c : goal.After-excuse_to_hand g)
    → GainsExcuse c.excuse_to_hand.result.number c.args.hand.now.view c.excuse_to_hand.new.hand.view
gains-in-Err g c =
    excused c.in-Err.number c.excuse_to_hand.result.number c.args.hand.now.view c.match-first.hand.view c.excuse_to_hand.new.hand.view _
    c.excuse_to_hand.ensures.excuse
    (tried-in-Err g c).learns
    (excuse_found g.N.Name.facts.start g.M.Mapper.span g.M.Mapper.runs g.M.Mapper.refused (works_of c.self-inside-2.view_is) c.in-Err.number (refuses g c))
    c.excuse_to_hand.ensures.view

pub returns-in-Err-clause-slots : goal.returns-in-Err-clause-slots
returns-in-Err-clause-slots g c = excused_keeps _ _ _ (gains-in-Err g c)

pub returns-in-Err-clause-book : goal.returns-in-Err-clause-book
returns-in-Err-clause-book g c =
    let passed = c.excuse_to_hand.ensures in
    tried_book c.args.hand.now c.match-first.hand c.excuse_to_hand.new.hand (tried-in-Err g c) (record { number = passed.number; spare = passed.spare; entries = passed.entries })

pub returns-in-Err-clause-excuse : goal.returns-in-Err-clause-excuse
returns-in-Err-clause-excuse g c =
    let passed = c.excuse_to_hand.ensures in
    gets_excuse g.M.Mapper.refused 512 c.self.view_is (works_of c.self-inside-2.view_is) c.args.hand.now c.excuse_to_hand.new.hand c.in-Err.number c.excuse_to_hand.result
    passed.excuse passed.has (gains-in-Err g c) c.in-Err.ensures.refused c.in-Err.ensures.most

pub returns-in-Err-clause-cause : goal.returns-in-Err-clause-cause
returns-in-Err-clause-cause g c =
    passed_cause g.P.Rules.count_gives (λ m. (g.M.Mapper.refused m).last) c.args.class c.args.bytes c.self.view_is (works_of c.self-inside-2.view_is) _
    (ap (λ (x : View). x.desk) c.excuse_to_hand.ensures.seat)
    (ap (λ (x : View). x.readings) c.excuse_to_hand.ensures.seat)
    refl
    c.in-Err.ensures.cause

pub returns-in-Err-clause-leaves : goal.returns-in-Err-clause-leaves
returns-in-Err-clause-leaves g c =
    passed_leaves c.self.view_is (works_of c.self-inside-2.view_is) _
    (ap (λ (x : View). x.desk) c.excuse_to_hand.ensures.seat)
    (ap (λ (x : View). x.readings) c.excuse_to_hand.ensures.seat)
    refl
    refl
    refl
    c.in-Err.ensures.leaves
