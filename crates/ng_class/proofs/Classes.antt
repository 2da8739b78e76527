-- What the table of classes says: it rises from 1 to 8191. Tests that compute over the whole table.
use Rattle.std.proofs.Common.{◌≡◌, ℕ, zero, suc, ◌+◌, ◌*◌, ◌<◌, ◌≤◌, true, false, refl, arith, nat_lt, nat_le, add-one, ⊎_elim, inl}
use Rattle.std.proofs.lemmas.Bool.{agree_below_at, leb-true, ltb-true, ltb-false, cases_lt}
use Rattle.std.specs.List.Sorted.{IsNonDecreasingBy, IsPartitionedBy, IsPartitionPoint}
use Rattle.std.proofs.lemmas.List.Sorted.{IsNonDecreasingBy-from_default, IsPartitionedBy-ltb}
use Rattle.ng_class.specs.Class.{unit_table, units_of, UnitsRise, IsLeastClass, IsAllowedClass}

-- the first class
pub units_of_first : units_of 0 ≡ 1
unfolding unit_table
units_of_first = refl

-- the last class
pub units_of_last : units_of 47 ≡ 8191
unfolding unit_table
units_of_last = refl

-- no class has more than 8191 units
pub units_of_le : (class : ℕ) → class < 48 → units_of class ≤ 8191
unfolding unit_table
units_of_le class known =
    leb-true _ _ (agree_below_at (λ c. nat_le (units_of c) 8191) (λ c. true) 48 class refl known)

-- each class has a unit
pub units_of_pos : (class : ℕ) → class < 48 → 1 ≤ units_of class
unfolding unit_table
units_of_pos class known =
    leb-true _ _ (agree_below_at (λ c. nat_le 1 (units_of c)) (λ c. true) 48 class refl known)

-- each class has more units than the one before it
pub units_of_next : (class : ℕ) → class < 47 → units_of class < units_of (class + 1)
unfolding unit_table
units_of_next class known =
    ltb-true _ _ (agree_below_at (λ c. nat_lt (units_of c) (units_of (c + 1))) (λ c. true) 47 class refl known)

-- a higher class has more units
pub units_of_rises : UnitsRise
units_of_rises lower zero below known = absurd (omega arith)
units_of_rises lower (suc class) below known =
    let next : units_of class < units_of (class + 1) = units_of_next class (omega arith) in
    let next' : units_of class < units_of (suc class) = rw add-one at next in
    ⊎_elim
    (λ further. omega (arith, units_of_rises lower class further (omega arith)))
    (λ same. let here : lower ≡ class = omega arith in rw here next')
    (cases_lt lower class)

-- no class has fewer units than a lower one, as lists of numbers say it
unit_table_rises : IsNonDecreasingBy (λ units. 16 * units) unit_table
unfolding unit_table
unit_table_rises = IsNonDecreasingBy-from_default (λ units. 16 * units) unit_table 0 (λ lower class order known.
    ⊎_elim
    (λ (below : lower < class). omega (arith, units_of_rises lower class below known))
    (λ (rest : class ≤ lower). let same : lower ≡ class = omega arith in rw same (omega arith))
    (cases_lt lower class))

-- the classes whose slots are too small for a number of bytes come before those whose slots aren't
pub unit_table_partitioned : (size : ℕ) → IsPartitionedBy (λ units. nat_lt (16 * units) size) unit_table
unit_table_partitioned size = IsPartitionedBy-ltb (λ units. 16 * units) unit_table size unit_table_rises

-- the first of the others is the least class
pub least_class_point : (n class : ℕ) → n < 131052 → class ≤ 48
    → IsPartitionPoint (λ units. nat_lt (16 * units) (n + 4) ≡ true) (λ units. nat_lt (16 * units) (n + 4) ≡ false) unit_table class
    → IsLeastClass n class
unfolding unit_table
least_class_point n class small known point =
    let smaller : (lower : ℕ) → lower < class → 16 * units_of lower < n + 4 = λ lower below. ltb-true _ _ (point.0 lower 0 (omega arith) below) in
    let within : class < 48 = ⊎_elim (λ (below : class < 48). below) (λ (rest : 48 ≤ class). absurd (omega (arith, smaller 47 (omega arith), units_of_last))) (cases_lt class 48) in
    record { known = within; holds = ltb-false _ _ (point.1 class 0 (omega arith) within); least = smaller }

-- a number of bytes has one least class
pub least_class_unique : (n class other : ℕ) → IsLeastClass n class → IsLeastClass n other → class ≡ other
least_class_unique n class other a b =
    ⊎_elim
    (λ (below : class < other). absurd (omega (arith, b.least class below, a.holds)))
    (λ (rest : other ≤ class). ⊎_elim
    (λ (below : other < class). absurd (omega (arith, a.least other below, b.holds)))
    (λ (same : class ≤ other). omega arith)
    (cases_lt other class))
    (cases_lt class other)

-- more bytes have no lower class
pub least_class_le : (n m class other : ℕ) → n ≤ m → IsLeastClass n class → IsLeastClass m other → class ≤ other
least_class_le n m class other order a b =
    ⊎_elim
    (λ (below : other < class). absurd (omega (arith, a.least other below, b.holds)))
    (λ (rest : class ≤ other). rest)
    (cases_lt other class)

-- bytes that a class doesn't hold have a higher one
pub least_class_above : (n lower class : ℕ) → lower < 48 → 16 * units_of lower < n + 4 → IsLeastClass n class → lower < class
least_class_above n lower class known small a =
    ⊎_elim
    (λ (below : lower < class). below)
    (λ (rest : class ≤ lower). ⊎_elim
    (λ (below : class < lower). absurd (omega (arith, units_of_rises class lower below known, a.holds)))
    (λ (same : lower ≤ class). let here : lower ≡ class = omega arith in absurd (omega (arith, rw here at small, a.holds)))
    (cases_lt class lower))
    (cases_lt lower class)

-- the least class may serve, and so may the next
pub allowed_least : (n least class : ℕ) → n < 131052 → IsLeastClass n least → class ≤ least + 1 → class < 48 → IsAllowedClass n class
allowed_least n least class small a near known =
    inl (record { known = known; small = small; near = λ other b. omega (arith, least_class_unique n least other a b) })
