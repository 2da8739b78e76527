-- What a group that comes means for the rings, the usage, and the room of its slots.
use Rattle.std.proofs.Common.{Err, Ok, OnErr, Result, ◌≡◌, ◌≢◌, ◌⊎◌, ℕ, ◌+◌, ◌-◌, ◌*◌, ◌<◌, ◌≤◌, ◌^◌, eqb, cond, Bool, true, false, List, ◌∷◌, IfSome, Option, Some, slice_index, nat_le, nat_lt, ◌&&◌, if◌then◌else◌, refl, sym, ap, subst, ⊎_elim, arith}
use Rattle.std.proofs.Math.Nat.{le-min, mul-le-mul_left}
use Rattle.std.proofs.lemmas.Bool.{and_parts, cases_eq, cases_lt, leb-true, ltb-true, or_cases}
use Rattle.std.proofs.lemmas.List.{get_or-set_other}
use Rattle.ng_build.specs.Drafts.{IsLarge}
use Rattle.ng_class.specs.Class.{IsLeastClass, units_of}
use Rattle.ng_class.specs.Slot.{stride_of}
use Rattle.ng_class.proofs.Classes.{least_class_above}
use Rattle.ng_class.proofs.Slots.{room_of_slot, stride_of_nested, stride_of_several, stride_of_single}
use Rattle.ng_ledger.specs.Rings.{IsTable, entered_first}
use Rattle.ng_ledger.specs.Standing.{Ledger, Stands}
use Rattle.ng_ledger.specs.Usage.{used}
use Rattle.ng_ledger.proofs.StepLemmas.{first_changes}
use Rattle.ng_ledger.proofs.UsageLemmas.{bounded}
use Rattle.ng_lists.specs.Rings.{IsListed, RingTable, ring_of}
use Rattle.ng_mapper.specs.Runs as mapper
use Rattle.ng_policy.specs.Ask.{IsCount}
use Rattle.ng_policy.specs.declared.ask.Ask.{Ask}
use Rattle.ng_serve.proofs.Readings.{among_if}
use Rattle.ng_shelf.specs.Shape.{IsNestedSize, group_bytes, is_no_worse, makes_one, pages_of, shape_of}
use Rattle.ng_shelf.specs.declared.shape.RunShape.{RunShape}
use Rattle.ng_terms.specs.Accounts.{pages_for}
use Rattle.ng_view.specs.Lists.{Among}
use Rattle.ng_view.specs.Places.{room, stride}
use Rattle.ng_view.specs.declared.view.Group.{Group}
use Rattle.ng_view.specs.declared.view.Start.{Start}
use Rattle.ng_group.specs.Building.{with_used}

-- what stands anyway stands on an error
pub on_err : {T E P : Type 0} (r : Result T E) → P → OnErr r P
on_err (Ok x) p = tt
on_err (Err e) p = p

-- ---- the books of a class

-- more metas have avail noted as 0
pub zero_grows : (z : List ℕ) (m active n : ℕ) → Among n z → Among n (cond (eqb active 0) (m ∷ z) z)
zero_grows z m active n there = among_if (eqb active 0) m n z there

-- the rings of the classes below are as before
pub rings_below : (table : RingTable) (class m k : ℕ) → IsTable table → class < 48 → ¬ IsListed table m → k < class → ring_of (entered_first table class m) k ≡ ring_of table k
rings_below table class m k is known absent below =
    (first_changes table class m (omega (arith, known, is.classes)) absent).others k (λ same. omega (arith, same, below))

-- and their usage
pub usage_below : (usage : List ℕ) (class slots k : ℕ) → k < class → slice_index (with_used usage class slots) k ≡ slice_index usage k
usage_below usage class slots k below = get_or-set_other usage class k (slice_index usage class + slots) 0 (λ same. omega (arith, same, below))

-- the slots of a class stay below 2 ^ 64
pub few_used : {start : Start} {live : List mapper.Run} {l : Ledger} (class slots : ℕ) → Stands start live l → start.pages ≤ 16384 → class < 48 → slots ≤ 32 → slice_index l.usage class + slots < 2 ^ 64
few_used {start = start} {l = l} class slots stands small known most =
    let few : used l.seat.desk.groups class + 32 < 2 ^ 32 = bounded start.pages l.seat.desk.groups class stands.groups small in
    let is : slice_index l.usage class ≡ used l.seat.desk.groups class = stands.used.each class known in
    omega (arith, few, is, most)

-- ---- the room of its slots

stride_holds : (class last maplen bytes : ℕ) → bytes + 4 ≤ 16 * units_of class → (maplen ≡ 0) ⊎ (bytes + 20 ≤ 4096 * maplen) → bytes + 4 ≤ stride_of class last maplen
stride_holds class last maplen bytes fits paged = ⊎_elim
    (λ (single : last ≡ 0). ⊎_elim
    (λ (none : maplen ≡ 0). omega (arith, fits, stride_of_nested class last maplen none))
    (λ (some : bytes + 20 ≤ 4096 * maplen). omega (arith, some, stride_of_single class last maplen single (omega (arith, some))))
    paged)
    (λ (several : last ≢ 0). let some : 0 < last = omega arith in omega (arith, fits, stride_of_several class last maplen some))
    (cases_eq last 0)

-- a slot of the class has room for the block, also where it is alone on its run
pub roomy : (g : Group) (class bytes : ℕ) → g.tag ≡ class + 1 → class < 48 → bytes + 4 ≤ 16 * units_of class → (g.maplen ≡ 0) ⊎ (bytes + 20 ≤ 4096 * g.maplen) → bytes + 4 ≤ room g
unfolding room
roomy g class bytes of_class known fits paged =
    let same : class ≡ g.tag - 1 = omega (arith, of_class) in
    let here : bytes + 4 ≤ 16 * units_of (g.tag - 1) = subst (λ n. bytes + 4 ≤ 16 * units_of n) same fits in
    let held : bytes + 4 ≤ stride_of (g.tag - 1) g.last g.maplen = stride_holds (g.tag - 1) g.last g.maplen bytes here paged in
    subst (λ n. bytes + 4 ≤ n) (sym (room_of_slot (g.tag - 1) g.last g.maplen (λ (lone : g.tag - 1 ≡ 63). omega (arith, lone, of_class, known)))) (le-min held here)

-- ---- the shape of a group with a run of its own

one_large : (ask : Ask) (bytes count : ℕ) → bytes + 4 ≤ 16 * units_of ask.class → makes_one ask bytes count ≡ true → 2048 < 16 * units_of ask.class * 1 + 16
unfolding makes_one is_no_worse
one_large ask bytes count fits one = ⊎_elim small large (or_cases (nat_lt (4096 * pages_for bytes) (group_bytes ask.class 1)) (nat_le 16384 (4096 * pages_for bytes) && nat_lt (ask.usage + ask.near) (2 * count)) (and_parts _ _ one).1)
  where
    small : nat_lt (4096 * pages_for bytes) (group_bytes ask.class 1) ≡ true → 2048 < 16 * units_of ask.class * 1 + 16
    small test =
        let below : 4096 * pages_for bytes < group_bytes ask.class 1 = ltb-true (4096 * pages_for bytes) (group_bytes ask.class 1) test in
        let some : 1 ≤ pages_for bytes = omega arith in
        omega (arith, below, some)

    large : (nat_le 16384 (4096 * pages_for bytes) && nat_lt (ask.usage + ask.near) (2 * count)) ≡ true → 2048 < 16 * units_of ask.class * 1 + 16
    large test =
        let above : 16384 ≤ 4096 * pages_for bytes = leb-true 16384 (4096 * pages_for bytes) (and_parts (nat_le 16384 (4096 * pages_for bytes)) (nat_lt (ask.usage + ask.near) (2 * count)) test).0 in
        let many : 12269 ≤ bytes = omega (arith, above) in
        omega (arith, fits, many)

-- it is too large to be nested
pub shape_large : (ask : Ask) (bytes count : ℕ) → bytes + 4 ≤ 16 * units_of ask.class → ¬ IsNestedSize ask.class count → 2048 < 16 * units_of ask.class * (shape_of ask bytes count).count + 16
unfolding shape_of
shape_large ask bytes count fits large = by_test (makes_one ask bytes count) refl
  where
    shape_by : Bool → RunShape
    shape_by b = if b then record { count = 1; pages = pages_for bytes } else record { count = count; pages = pages_of (group_bytes ask.class count) }

    by_test : (b : Bool) → makes_one ask bytes count ≡ b → 2048 < 16 * units_of ask.class * (shape_by b).count + 16
    by_test true one = one_large ask bytes count fits one
    by_test false several = ⊎_elim (λ (wide : 2048 < group_bytes ask.class count). omega (arith, wide)) (λ (small : group_bytes ask.class count ≤ 2048). absurd (large small)) (cases_lt 2048 (group_bytes ask.class count))

-- a group of that shape may begin its run
pub large_group : (g : Group) (class count : ℕ) → g.tag ≡ class + 1 → class < 48 → g.last + 1 ≡ count → IsCount class count → 1 ≤ g.maplen → (1 < count → group_bytes class count ≤ 4096 * g.maplen) → 2048 < 16 * units_of class * count + 16 → IsLarge g
unfolding stride
large_group g class count of_class known of_slots is some fits large = record {
  kind = record { low = omega (arith, of_class, known); fits = subst (λ n. units_of n * (g.last + 1) < 65536) same (subst (λ n. units_of class * n < 65536) (sym of_slots) is.fits) };
  large = subst (λ n. 2048 < 16 * units_of n * (g.last + 1) + 16) same (subst (λ n. 2048 < 16 * units_of class * n + 16) (sym of_slots) large);
  fits = ⊎_elim single several (cases_eq g.last 0);
}
  where
    same : class ≡ g.tag - 1
    same = omega (arith, of_class)

    single : g.last ≡ 0 → 16 + stride_of (g.tag - 1) g.last g.maplen * (g.last + 1) ≤ 4096 * g.maplen
    single alone =
        let whole : stride_of (g.tag - 1) g.last g.maplen ≡ g.maplen * 4096 - 16 = stride_of_single (g.tag - 1) g.last g.maplen alone (omega (arith, some)) in
        let once : stride_of (g.tag - 1) g.last g.maplen * (g.last + 1) ≡ stride_of (g.tag - 1) g.last g.maplen * 1 = ap (λ n. stride_of (g.tag - 1) g.last g.maplen * n) (let n : g.last + 1 ≡ 1 = omega (arith, alone) in n) in
        omega (arith, whole, once, some)

    several : g.last ≢ 0 → 16 + stride_of (g.tag - 1) g.last g.maplen * (g.last + 1) ≤ 4096 * g.maplen
    several more =
        let above : 0 < g.last = omega arith in
        let step : stride_of (g.tag - 1) g.last g.maplen ≡ 16 * units_of (g.tag - 1) = stride_of_several (g.tag - 1) g.last g.maplen above in
        let held : 16 + 16 * units_of class * count ≤ 4096 * g.maplen = fits (omega (arith, above, of_slots)) in
        let here : 16 + 16 * units_of (g.tag - 1) * (g.last + 1) ≤ 4096 * g.maplen = subst (λ n. 16 + 16 * units_of n * (g.last + 1) ≤ 4096 * g.maplen) same (subst (λ n. 16 + 16 * units_of class * n ≤ 4096 * g.maplen) (sym of_slots) held) in
        subst (λ n. 16 + n * (g.last + 1) ≤ 4096 * g.maplen) (sym step) here

-- and so may the one that is made with it
pub shaped_group : (ask : Ask) (bytes count meta base : ℕ) (shape : RunShape) → ask.class < 48 → bytes + 4 ≤ 16 * units_of ask.class → ¬ IsNestedSize ask.class count → shape ≡ shape_of ask bytes count → IsCount ask.class shape.count → 1 ≤ shape.pages → (1 < shape.count → group_bytes ask.class shape.count ≤ 4096 * shape.pages)
    → IsLarge (record { meta = meta; base = base; tag = ask.class + 1; last = shape.count - 1; maplen = shape.pages })
shaped_group ask bytes count meta base shape known fits large same is some holds =
    let one : 1 ≤ shape.count = is.some in
    let wide : 2048 < 16 * units_of ask.class * shape.count + 16 = subst (λ (made : RunShape). 2048 < 16 * units_of ask.class * made.count + 16) (sym same) (shape_large ask bytes count fits large) in
    large_group (record { meta = meta; base = base; tag = ask.class + 1; last = shape.count - 1; maplen = shape.pages }) ask.class shape.count refl known (omega (arith, one)) is some holds wide

-- ---- the slot of a nested group

-- the class of a slot that carries a group is above the group's
pub carrier_above : (class count carrying : ℕ) → class < 48 → 1 ≤ count → IsLeastClass (16 * units_of class * count + 12) carrying → class < carrying
carrier_above class count carrying known some least =
    let more : 16 * units_of class * 1 ≤ 16 * units_of class * count = mul-le-mul_left (16 * units_of class) some in
    least_class_above (16 * units_of class * count + 12) class carrying known (omega (arith, more)) least

pub carrier_least : (answer : Option ℕ) (units slots class count carrying : ℕ) → IfSome answer (IsLeastClass (16 * units * slots + 12)) → answer ≡ Some carrying → units ≡ units_of class → slots ≡ count → IsLeastClass (16 * units_of class * count + 12) carrying
carrier_least answer units slots class count carrying least some same many =
    subst (λ n. IsLeastClass (16 * units_of class * n + 12) carrying) many (subst (λ u. IsLeastClass (16 * u * slots + 12) carrying) same (subst (λ (o : Option ℕ). IfSome o (IsLeastClass (16 * units * slots + 12))) some least))
