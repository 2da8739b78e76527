-- Where a slot of a hand lies, by what a load tells.
use Rattle.std.proofs.Common.{◌≡◌, ◌≢◌, ℕ, suc, ◌+◌, ◌-◌, ◌*◌, ◌/◌, ◌%◌, ◌<◌, ◌≤◌, mul-le-mul_left, ap, ◌∙◌, ⊎_elim, inl, inr, arith}
use Rattle.std.specs.Prelude.{Option, Some, None}
use Rattle.std.proofs.Math.Nat.{mod-le}
use Rattle.std.proofs.lemmas.Bool.{cases_eq}
use Rattle.std.proofs.lemmas.Bool.Decides.{nat_tests}
use Rattle.ng_header.specs.Cycle.{cycle_of, next_offset, power_above, wrapped}
use Rattle.ng_class.specs.Class.{units_of}
use Rattle.ng_class.specs.Slot.{IsGroupClass, IsLoneGroup, stride_of}
use Rattle.ng_class.proofs.Classes.{units_of_le}
use Rattle.ng_class.proofs.Slots.{room_of-le, stride_of_either, stride_of_least, stride_of_several, stride_of_single}
use Rattle.ng_rule.proofs.geometry.Lists.{find_among}
use Rattle.ng_rule.proofs.geometry.Strides.{stride_whole, times_whole}
use Rattle.ng_view.specs.Layouts.{IsLoneKind, IsSmallKind}
use Rattle.ng_view.specs.Places.{room, stride, units}
use Rattle.ng_view.specs.Tells.{Tells}
use Rattle.ng_view.specs.declared.view.Group.{Group}
use Rattle.ng_view.specs.declared.view.Held.{Held}
use Rattle.ng_view.specs.declared.view.Place.{Place}
use Rattle.ng_view.specs.declared.view.Start.{Start}
use Rattle.ng_space.specs.Callers.{Caller}
use Rattle.ng_space.specs.Placed.{ArePlaced, LiesIn}
use Rattle.ng_space.specs.Tokens.{HasSlot, LiesAt, Token}
use Rattle.ng_frame.specs.Puts.{IsNarrowOrFirst, IsWhole}

stride-least : (g : Group) → IsGroupClass (g.tag - 1) g.last g.maplen → 16 ≤ stride g
unfolding stride
stride-least g class = stride_of_least (g.tag - 1) g.last g.maplen class

room-le : (g : Group) → room g ≤ stride g
unfolding stride room
room-le g = room_of-le (g.tag - 1) g.last g.maplen

several : (g : Group) → 0 < g.last → stride g ≡ 16 * units g.tag
unfolding stride
several g some_more = stride_of_several (g.tag - 1) g.last g.maplen some_more

pub whole_at : (key : Start) (h : Held) (slot : Token) → LiesIn key h.place → LiesAt h.place slot → IsWhole slot
whole_at key h slot l place =
    let g = h.place.group in
    let i : ℕ = h.place.index in
    let s : ℕ = stride g in
    let least : 16 ≤ s = stride-least g l.class in
    let most : room g ≤ s = room-le g in
    let whole : s % 16 ≡ 0 = stride_whole g in
    let times : s * i % 16 ≡ 0 = times_whole s i whole in
    let base = l.whole in
    let start = place.start in let end = place.end in let room = place.room in record {
      start = omega arith;
      end = omega arith;
      front = omega arith;
      some = omega arith;
      room = omega arith;
    }

pub whole : (key : Start) (hand : Caller) (slot : Token) → HasSlot hand slot → ArePlaced key hand.view → IsWhole slot
whole key hand slot has placed =
    whole_at key has.held slot (placed has.held (find_among slot.meta slot.index hand.view.held has.held has.found).0) has.place

-- a stride is a number of 32 bits
pub stride-most : (key : Start) (p : Place) → LiesIn key p → stride p.group < 4294967296
unfolding stride
stride-most key p l =
    let g = p.group in
    let few = l.few in
    ⊎_elim
    (λ (run : (1 ≤ g.maplen) × (stride_of (g.tag - 1) g.last g.maplen ≡ g.maplen * 4096 - 16)). let is = run.1 in omega (arith, few, is))
    (λ (size : stride_of (g.tag - 1) g.last g.maplen ≡ 16 * units_of (g.tag - 1)). ⊎_elim
    (λ (small : g.tag - 1 < 48). let most = units_of_le (g.tag - 1) small in omega (arith, size, most))
    (λ (lone : IsLoneGroup (g.tag - 1) g.last g.maplen). let is = stride_of_single (g.tag - 1) g.last g.maplen lone.single lone.mapped in omega (arith, few, is))
    l.class)
    (stride_of_either (g.tag - 1) g.last g.maplen)

-- an offset in a slot of a group with several
narrow_number : (u i l r : ℕ) → i ≤ l → r ≤ 16 * u → u * (l + 1) < 65536 → (((16 * u) * i + r) / 16) < 65536
narrow_number u i l r le lt fits =
    let more : u * suc i ≤ u * (l + 1) = mul-le-mul_left u (omega arith) in
    let next : u * suc i ≡ u * i + u = omega arith in
    let same : (16 * u) * i ≡ 16 * (u * i) = grind arith in
    let x : ℕ = u * i in
    omega (arith, more, next, same)

-- a slot with wide offsets is the only one of its group
pub narrow : (key : Start) (hand : Caller) (slot : Token) (a x : ℕ) → HasSlot hand slot → Tells key hand.view a x → IsNarrowOrFirst slot
narrow key hand slot a x has tells =
    let t = tells.slots has.held (find_among slot.meta slot.index hand.view.held has.held has.found).0 in
    let g = has.held.place.group in
    let i : ℕ = has.held.place.index in
    let index = t.index in
    let start = has.place.start in let storage = has.place.storage in let room = has.place.room in
    let most : Rattle.ng_view.specs.Places.room g ≤ stride g = room-le g in
    ⊎_elim
    (λ (none : g.last ≡ 0).
    let zero : i ≡ 0 = omega arith in
    let none_at : stride g * 0 ≡ 0 = omega arith in
    let times : stride g * i ≡ 0 = ap (λ n. stride g * n) zero ∙ none_at in
    inl (omega (arith, times)))
    (λ (ne : g.last ≢ 0). ⊎_elim
    (λ (k : IsSmallKind g).
    let size = several g (omega arith) in
    let times : stride g * i ≡ (16 * units g.tag) * i = ap (λ s. s * i) size in
    let n = narrow_number (units g.tag) i g.last slot.room index (omega (arith, size, most, room)) k.fits in
    inr (omega (arith, times, n)))
    (λ (k : IsLoneKind g). absurd (ne k.single))
    t.kind)
    (cases_eq g.last 0)

-- the cell in front of the slot's start
pub front_is : (slot : Token) (s : ℕ) → s ≡ slot.start → IsWhole slot → s / 4 * 4 - 4 ≡ slot.start - 4
front_is slot s same is = let start = is.start in omega (arith, same, start)

-- an offset of the cycle has 8 bits
pub cycle_of-small : (old : Option ℕ) (slack counter : ℕ) → cycle_of old slack counter < 256
cycle_of-small old slack counter =
    let low : next_offset old counter < 256 = next_low old in
    let less : next_offset old counter % power_above slack ≤ next_offset old counter = mod-le (next_offset old counter) (power_above slack) in
    let most = wrapped_le (next_offset old counter % power_above slack) slack in
    omega (arith, low, less, most)
  where
    next_low : (old : Option ℕ) → next_offset old counter < 256
    next_low (Some n) = omega arith
    next_low None = omega arith

    wrapped_le : (offset slack : ℕ) → wrapped offset slack ≤ offset
    wrapped_le offset slack = grind (arith, nat_tests)
