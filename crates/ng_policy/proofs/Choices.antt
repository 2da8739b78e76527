-- The numbers of slots that musl's tables offer are ones that the classes may have.
use Rattle.std.proofs.Common.{◌≡◌, ℕ, zero, suc, ◌-◌, ◌*◌, ◌/◌, ◌<◌, ◌≤◌, Bool, true, refl, List, [], ◌∷◌, length, get_or, arith, nat_le, unwrap_or, ◌&&◌, ⊎_elim}
use Rattle.std.proofs.lemmas.Bool.{agree_below_at, leb-true, cases_lt, lt-ltb, le-ltb}
use Rattle.std.proofs.lemmas.Grind.{common_steps}
use Rattle.std.specs.List.{list_all, find}
use Rattle.std.proofs.Math.Nat.{mul-le-mul_right}
use Rattle.ng_class.proofs.Classes.{units_of_le}
use Rattle.ng_class.specs.Class.{unit_table, units_of}
use Rattle.ng_policy.specs.Ask.{IsCount}
use Rattle.ng_policy.specs.Musl.{small_table, medium_table, choices_of, first_choice, fitting}

-- from 1 to most
abbrev pub is_within : ℕ → ℕ → Bool
is_within most slots = nat_le 1 slots && nat_le slots most

-- what the test says
is_within-pos : (most slots : ℕ) → is_within most slots ≡ true → 1 ≤ slots
is_within-pos most slots within = grind (arith, common_steps)

is_within-le : (most slots : ℕ) → is_within most slots ≡ true → slots ≤ most
is_within-le most slots within = grind (arith, common_steps)

-- what is found among numbers that pass a test, or a number that does, passes it
find-passes : (test other : ℕ → Bool) (xs : List ℕ) (d : ℕ) → list_all test xs ≡ true → test d ≡ true → test (unwrap_or (find other xs) d) ≡ true
find-passes test other [] d all default = default
find-passes test other (x ∷ xs) d all default = grind (arith, common_steps, find-passes test other xs d)

-- each number of a list that passes does
get_or-passes : (test : ℕ → Bool) (xs : List ℕ) (i : ℕ) → i < length xs → list_all test xs ≡ true → test (get_or xs i 0) ≡ true
get_or-passes test [] i inside all = absurd (omega arith)
get_or-passes test (x ∷ xs) zero inside all = grind (arith, common_steps)
get_or-passes test (x ∷ xs) (suc i) inside all = grind (arith, common_steps, get_or-passes test xs i)

-- the choice passes where all choices do
pub first_choice-passes : (test : ℕ → Bool) (choices : List ℕ) (usage : ℕ) → 1 ≤ length choices → list_all test choices ≡ true → test (first_choice choices usage) ≡ true
first_choice-passes test choices usage some all =
    find-passes test _ choices _ all (get_or-passes test choices (length choices - 1) (omega arith) all)

-- every class has choices
pub choices_of-some : (class : ℕ) → class < 48 → 1 ≤ length (choices_of class)
unfolding small_table medium_table
choices_of-some class known =
    leb-true _ _ (agree_below_at (λ c. nat_le 1 (length (choices_of c))) (λ c. true) 48 class refl known)

-- they are from 1 to 32
choices_of-within : (class : ℕ) → class < 48 → list_all (is_within 32) (choices_of class) ≡ true
unfolding small_table medium_table
choices_of-within class known =
    agree_below_at (λ c. list_all (is_within 32) (choices_of c)) (λ c. true) 48 class refl known

-- and so is the one chosen
first_choice-within : (class usage : ℕ) → class < 48 → is_within 32 (first_choice (choices_of class) usage) ≡ true
first_choice-within class usage known =
    first_choice-passes (is_within 32) (choices_of class) usage (choices_of-some class known) (choices_of-within class known)

pub first_choice-pos : (class usage : ℕ) → class < 48 → 1 ≤ first_choice (choices_of class) usage
first_choice-pos class usage known = is_within-pos _ _ (first_choice-within class usage known)

pub first_choice-le : (class usage : ℕ) → class < 48 → first_choice (choices_of class) usage ≤ 32
first_choice-le class usage known = is_within-le _ _ (first_choice-within class usage known)

-- the classes below 9 have at most 9 units
units_of_small : (class : ℕ) → class < 9 → units_of class ≤ 9
unfolding unit_table
units_of_small class small =
    leb-true _ _ (agree_below_at (λ c. nat_le (units_of c) 9) (λ c. true) 9 class refl small)

-- so any choice fits them
pub allowed_small : (class slots : ℕ) → class < 9 → 1 ≤ slots → slots ≤ 32 → IsCount class slots
allowed_small class slots small some most =
    let product : units_of class * slots ≤ 9 * slots = mul-le-mul_right slots (units_of_small class small) in
    record { some = some; most = most; fits = omega (arith, product) }

-- a number of slots that is halved where it doesn't fit is one that the class may have
pub allowed_fitting : (class slots : ℕ) → class < 48 → 1 ≤ slots → slots ≤ 32 → IsCount class (fitting (units_of class) slots)
allowed_fitting class slots known some most =
    let units : units_of class ≤ 8191 = units_of_le class known in
    let whole : units_of class * slots ≤ 8191 * slots = mul-le-mul_right slots units in
    let half : units_of class * (slots / 2) ≤ 8191 * (slots / 2) = mul-le-mul_right (slots / 2) units in
    let quarter : units_of class * (slots / 4) ≤ 8191 * (slots / 4) = mul-le-mul_right (slots / 4) units in
    ⊎_elim
    (λ (fits : units_of class * slots < 65536). rw (lt-ltb _ _ fits) (record { some = some; most = most; fits = fits }))
    (λ (large : 65536 ≤ units_of class * slots). rw (le-ltb _ _ large) (⊎_elim
    (λ (fits : units_of class * (slots / 2) < 65536). rw (lt-ltb _ _ fits) (record { some = omega arith; most = omega arith; fits = fits }))
    (λ (still : 65536 ≤ units_of class * (slots / 2)). rw (le-ltb _ _ still) (record { some = omega arith; most = omega arith; fits = omega arith }))
    (cases_lt (units_of class * (slots / 2)) 65536)))
    (cases_lt (units_of class * slots) 65536)
