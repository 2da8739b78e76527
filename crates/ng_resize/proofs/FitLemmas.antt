-- Where a block may get another length without a move.
use Rattle.std.proofs.Common.{◌≡◌, ◌⊎◌, ℕ, ◌+◌, ◌-◌, ◌*◌, ◌<◌, ◌≤◌, refl, sym, ap, ◌∙◌, subst, ⊎_elim, inl, inr, arith}
use Rattle.std.specs.Prelude.{◌↔◌, Bool, IsTrue}
use Rattle.ng_space.specs.Leaving.{LeavesAll}
use Rattle.ng_class.specs.Class.{IsAllowedClass}
use Rattle.ng_class.specs.Slot.{IsLoneGroup}
use Rattle.ng_class.proofs.Slots.{stride_of_single}
use Rattle.ng_frame.specs.Inspects.{gap_of}
use Rattle.ng_space.specs.Blocks.{BlockToken, HasBlock, OfSlot, Serves}
use Rattle.ng_space.specs.Callers.{Caller}
use Rattle.ng_space.specs.Placed.{ArePlaced, LiesIn}
use Rattle.ng_space.specs.Tokens.{LiesAt, Token}
use Rattle.ng_rule.proofs.geometry.Lists.{find_among}
use Rattle.ng_view.specs.Places.{stride}
use Rattle.ng_view.specs.declared.view.Group.{Group}
use Rattle.ng_view.specs.declared.view.Held.{Held}
use Rattle.ng_view.specs.declared.view.Place.{Place}
use Rattle.ng_view.specs.declared.view.Start.{Start}
use Rattle.ng_resize.specs.Fitting.{FitsRun, FitsSlot, StaysInPlace}
use Rattle.ng_frame.specs.Located.{IsLocated}
use Rattle.ng_frame.specs.declared.locating.Location.{Location}

-- ---- the rule is one that the class serves
stays_class : (n class gap pages skipped : ℕ) → FitsSlot class gap n ⊎ FitsRun class pages skipped n → IsAllowedClass n class
stays_class n class gap pages skipped fits = ⊎_elim
    (λ (s : FitsSlot class gap n). inl (record { known = s.slotted; small = s.small; near = s.near }))
    (λ (r : FitsRun class pages skipped n). inr (record { lone = r.lone; large = r.large }))
    fits

pub stays_serves : (n : ℕ) (block : BlockToken) (h : Held) → StaysInPlace n block h → Serves n 16 h
stays_serves n block h stays =
    let asked : n ≡ (n + 16) - 16 = omega arith in
    (stays.0, stays.1, subst (λ k. IsAllowedClass k stays.0) asked (stays_class n stays.0 (gap_of block) h.place.group.maplen (block.at - block.slot.start) stays.2))

-- ---- a block by itself has all of its run
lone_group : (key : Start) (p : Place) → LiesIn key p → p.group.tag ≡ 64 → IsLoneGroup 63 p.group.last p.group.maplen
lone_group key p lies tag =
    let class : p.group.tag - 1 ≡ 63 = omega (arith, tag) in
    ⊎_elim
    (λ (low : p.group.tag - 1 < 48). absurd (omega (arith, class, low)))
    (λ (lone : IsLoneGroup (p.group.tag - 1) p.group.last p.group.maplen). subst (λ c. IsLoneGroup c p.group.last p.group.maplen) class lone)
    lies.class

lone_stride : (g : Group) → g.last ≡ 0 → 0 < g.maplen → stride g ≡ g.maplen * 4096 - 16
unfolding stride
lone_stride g single mapped = stride_of_single (g.tag - 1) g.last g.maplen single mapped

pub run_end : (key : Start) (p : Place) (slot : Token) → LiesIn key p → LiesAt p slot → p.group.tag ≡ 64
    → slot.end + 20 ≡ slot.start + 4096 * p.group.maplen
run_end key p slot lies at tag =
    let lone = lone_group key p lies tag in
    let single = lone.single in
    let mapped = lone.mapped in
    let index : p.index ≡ 0 = (let below = lies.index in omega (arith, below, single)) in
    let wide : stride p.group ≡ p.group.maplen * 4096 - 16 = lone_stride p.group single (omega (arith, mapped)) in
    let none : stride p.group * p.index ≡ 0 = (ap (λ i. stride p.group * i) index ∙ (let z : stride p.group * 0 ≡ 0 = omega arith in z)) in
    let start = at.start in
    let end = at.end in
    omega (arith, none, wide, start, end, mapped)

-- and so n bytes that take just its pages end by its slot's end
pub run_within : (key : Start) (hand : Caller) (block : BlockToken) (location : Location) (n at pages skipped : ℕ) → ArePlaced key hand.view
    → HasBlock hand block → OfSlot hand block.slot (IsLocated location block) → location.class ≡ 63 → at ≡ block.at → block.slot.start ≤ at
    → pages ≡ location.maplen → skipped ≡ at - location.start → FitsRun 63 pages skipped n → block.at + n ≤ block.slot.end
run_within key hand block location n at pages skipped placed has located lone at_is from pages_are skips fits =
    let h : Held = has.held in
    let is = located h has.found in
    let tag : h.place.group.tag ≡ 64 = is.class ∙ ap (λ c. c + 1) lone in
    let end = run_end key h.place block.slot (placed h (find_among block.slot.meta block.slot.index hand.view.held h has.found).0) has.place tag in
    let exact = fits.exact in
    let start = is.start in
    let maplen = is.maplen in
    omega (arith, end, exact, maplen, from, start, at_is, pages_are, skips)

-- ---- by the slot's location
run_same : (class c p q s t n : ℕ) → class ≡ c → p ≡ q → s ≡ t → FitsRun class p s n → FitsRun c q t n
run_same class c p q s t n one two three fits = subst (λ k. FitsRun k q t n) one (subst (λ k. FitsRun class k t n) two (subst (λ k. FitsRun class p k n) three fits))

slot_same : (class c g h n : ℕ) → class ≡ c → g ≡ h → FitsSlot class g n → FitsSlot c h n
slot_same class c g h n one two fits = subst (λ k. FitsSlot k h n) one (subst (λ k. FitsSlot class k n) two fits)

class_is : (class : ℕ) (location : Location) (block : BlockToken) (h : Held) → IsLocated location block h → h.place.group.tag ≡ class + 1
    → class ≡ location.class
class_is class location block h at tag = let is = at.class in omega (arith, is, tag)

pub run_exact : (n at pages skipped : ℕ) (location : Location) (block : BlockToken) (h : Held) (b : Bool) → IsLocated location block h
    → location.class ≡ 63 → at ≡ block.at → pages ≡ location.maplen → skipped ≡ at - location.start → (IsTrue b ↔ FitsRun 63 pages skipped n)
    → IsTrue b ↔ StaysInPlace n block h
run_exact n at pages skipped location block h b is lone at_is pages_are skips exact = (
  λ true_is. (63, is.class ∙ ap (λ c. c + 1) lone, inr (run_same 63 63 pages h.place.group.maplen skipped (block.at - block.slot.start) n refl (pages_are ∙ sym is.maplen) gone (exact.0 true_is))),
  λ stays. let class : stays.0 ≡ 63 = class_is stays.0 location block h is stays.1 ∙ lone in ⊎_elim
      (λ (s : FitsSlot stays.0 (gap_of block) n). absurd (let low = s.slotted in omega (arith, class, low)))
      (λ (r : FitsRun stays.0 h.place.group.maplen (block.at - block.slot.start) n). exact.1 (run_same stays.0 63 h.place.group.maplen pages (block.at - block.slot.start) skipped n class (is.maplen ∙ sym pages_are) (sym gone) r))
      stays.2,
)
  where
    gone : skipped ≡ block.at - block.slot.start
    gone = skips ∙ ap (λ a. a - location.start) at_is ∙ ap (λ s. block.at - s) (sym is.start)

pub slot_exact : (n gap : ℕ) (location : Location) (block : BlockToken) (h : Held) (b : Bool) → IsLocated location block h
    → location.class < 48 → block.at + gap ≡ block.slot.end → (IsTrue b ↔ FitsSlot location.class gap n)
    → IsTrue b ↔ StaysInPlace n block h
slot_exact n gap location block h b is low ends exact = (
  λ true_is. (location.class, is.class, inl (slot_same location.class location.class gap (gap_of block) n refl same (exact.0 true_is))),
  λ stays. let class : stays.0 ≡ location.class = class_is stays.0 location block h is stays.1 in ⊎_elim
      (λ (s : FitsSlot stays.0 (gap_of block) n). exact.1 (slot_same stays.0 location.class (gap_of block) gap n class (sym same) s))
      (λ (r : FitsRun stays.0 h.place.group.maplen (block.at - block.slot.start) n). absurd (let high = r.lone in omega (arith, class, low, high)))
      stays.2,
)
  where
    same : gap ≡ gap_of block
    same = omega (arith, ends)

-- a slot lies where it did
pub located_since : (before after : Caller) (block : BlockToken) (location : Location) → HasBlock before block → LeavesAll before.view after.view
    → OfSlot before block.slot (IsLocated location block) → OfSlot after block.slot (IsLocated location block)
located_since before after block location has leaves is k there =
    let later = leaves.all.slots block.slot.meta block.slot.index has.held has.found in
    let same : later.0 ≡ k = cc in
    let was = is has.held has.found in
    subst (IsLocated location block) same (record {
      class = ap (λ (p : Place). p.group.tag) later.2.place ∙ was.class;
      maplen = ap (λ (p : Place). p.group.maplen) later.2.place ∙ was.maplen;
      start = was.start;
    })

-- and so the rule says of it what it did
pub rule_since : (before after : Caller) (n : ℕ) (block : BlockToken) (b : Bool) → HasBlock before block → LeavesAll before.view after.view
    → OfSlot before block.slot (λ h. IsTrue b ↔ StaysInPlace n block h) → OfSlot after block.slot (λ h. IsTrue b ↔ StaysInPlace n block h)
rule_since before after n block b has leaves is k there =
    let later = leaves.all.slots block.slot.meta block.slot.index has.held has.found in
    let same : later.0 ≡ k = cc in
    let place : later.0.place ≡ has.held.place = later.2.place in
    subst (λ (y : Held). IsTrue b ↔ StaysInPlace n block y) same
    (subst (λ (p : Place). IsTrue b ↔ StaysInPlace n block (record later.0 { place = p })) (sym place) (is has.held has.found))
