-- What lists contain that are joined of others, and the first of them that passes a test.
use Rattle.std.proofs.Common.{◌≡◌, ℕ, zero, suc, ◌+◌, ◌<◌, ◌≤◌, Bool, true, false, cond, List, [], ◌∷◌, ◌++◌, Some, None, length, get_or, map, arith, refl, ap, sym, subst, ⊎_elim, ◌∙◌}
use Rattle.std.specs.Prelude.{Contains, count_by, find, flat_map, sum_by}
use Rattle.std.proofs.lemmas.Bool.{cases_Bool, cases_lt}
use Rattle.std.proofs.lemmas.List.Concat.{flat_map-cons}
use Rattle.std.proofs.lemmas.List.Elements.{Contains-append_cases, Contains-append_left, Contains-append_right}
use Rattle.std.proofs.lemmas.List.Sums.{sum_by-append, sum_by-cons}

pub Contains-map : {X Y : Type 0} → (f : X → Y) (xs : List X) (x : X) → Contains xs x → Contains (map f xs) (f x)
Contains-map f [] x (i, below, is) = absurd (omega arith)
Contains-map f (y ∷ xs) x (zero, below, is) = (0, omega arith, ap f is)
Contains-map f (y ∷ xs) x (suc i, below, is) = let (j, within, same) = Contains-map f xs x (i, omega arith, is) in (suc j, omega arith, same)

pub map-place : {X Y : Type 0} → (f : X → Y) (xs : List X) (y : Y) → Contains (map f xs) y → (x : X) × Contains xs x × (f x ≡ y)
map-place f [] y (i, below, is) = absurd (omega arith)
map-place f (x ∷ xs) y (zero, below, is) = (x, (0, omega arith, refl), is)
map-place f (x ∷ xs) y (suc i, below, is) =
    let (found, (j, within, at), same) = map-place f xs y (i, omega arith, is) in
    (found, (suc j, omega arith, at), same)

-- what one of the lists contains, and only that
pub Contains-flat_map : {X Y : Type 0} → (f : X → List Y) (xs : List X) (x : X) (y : Y) → Contains xs x → Contains (f x) y → Contains (flat_map f xs) y
Contains-flat_map f [] x y (i, below, is) there = absurd (omega arith)
Contains-flat_map f (z ∷ xs) x y (zero, below, is) there =
    subst (λ (all : List _). Contains all y) (sym (flat_map-cons f z xs)) (Contains-append_left (f z) (flat_map f xs) y (subst (λ (t : _). Contains (f t) y) (sym is) there))
Contains-flat_map f (z ∷ xs) x y (suc i, below, is) there =
    subst (λ (all : List _). Contains all y) (sym (flat_map-cons f z xs)) (Contains-append_right (f z) (flat_map f xs) y (Contains-flat_map f xs x y (i, omega arith, is) there))

pub flat_map-place : {X Y : Type 0} → (f : X → List Y) (xs : List X) (d : X) (y : Y) → Contains (flat_map f xs) y
    → (i : ℕ) × (i < length xs) × Contains (f (get_or xs i d)) y
flat_map-place f [] d y (i, below, is) = absurd (omega arith)
flat_map-place f (x ∷ xs) d y there =
    ⊎_elim
    (λ here. (0, omega arith, here))
    (λ behind. let (i, within, is) = flat_map-place f xs d y behind in (suc i, omega arith, is))
    (Contains-append_cases (f x) (flat_map f xs) y (subst (λ (all : List _). Contains all y) (flat_map-cons f x xs) there))

-- the first that passes, one element on
pub find-push_no : {X : Type 0} → (p : X → Bool) (xs : List X) (y : X) → p y ≡ false → find p (xs ++ y ∷ []) ≡ find p xs
find-push_no p [] y fails = rw fails refl
find-push_no p (x ∷ xs) y fails = ⊎_elim (λ yes. rw yes refl) (λ no. rw no (find-push_no p xs y fails)) (cases_Bool (p x))

pub find-push_yes : {X : Type 0} → (p : X → Bool) (xs : List X) (y : X) → find p xs ≡ None → p y ≡ true → find p (xs ++ y ∷ []) ≡ Some y
find-push_yes p [] y none passes = rw passes refl
find-push_yes p (x ∷ xs) y none passes =
    ⊎_elim
    (λ yes. absurd (let some : find p (x ∷ xs) ≡ Some x = rw yes refl in let clash : Some x ≡ None = sym some ∙ none in cc))
    (λ no. rw no (find-push_yes p xs y (let same : find p (x ∷ xs) ≡ find p xs = rw no refl in sym same ∙ none) passes))
    (cases_Bool (p x))

-- what is found passes, and is there
pub record IsFound {X : Type 0} (p : X → Bool) (xs : List X) : Type 0 where
  pub first : X
  pub found : find p xs ≡ Some first
  pub passes : p first ≡ true
  pub there : Contains xs first

pub find-there : {X : Type 0} → (p : X → Bool) (xs : List X) (x : X) → Contains xs x → p x ≡ true → IsFound p xs
find-there p [] wanted (i, below, is) passes = absurd (omega arith)
find-there p (x ∷ xs) wanted (zero, below, same) passes =
    let here : p x ≡ true = ap p same ∙ passes in
    record { first = x; found = rw here refl; passes = here; there = (0, omega arith, refl) }
find-there p (x ∷ xs) wanted (suc i, below, same) passes =
    let rest : IsFound p xs = find-there p xs wanted (i, omega arith, same) passes in
    let (j, within, at) = rest.there in
    ⊎_elim
    (λ yes. record { first = x; found = rw yes refl; passes = yes; there = (0, omega arith, refl) })
    (λ no. record { first = rest.first; found = rw no rest.found; passes = rest.passes; there = (suc j, omega arith, at) })
    (cases_Bool (p x))

-- ---- counts
-- an element that passes is there where the count isn't 0
pub record Passes {X : Type 0} (p : X → Bool) (xs : List X) : Type 0 where
  pub one : X
  pub there : Contains xs one
  pub passes : p one ≡ true

pub count-some : {X : Type 0} → (p : X → Bool) (xs : List X) → 0 < count_by p xs → Passes p xs
count-some p [] some = absurd (omega arith)
count-some p (x ∷ xs) some =
    ⊎_elim
    (λ yes. record { one = x; there = (0, omega arith, refl); passes = yes })
    (λ no.
    let none : cond (p x) 1 0 ≡ 0 = ap (λ (b : Bool). cond {A = ℕ} b 1 0) no in
    let rest : Passes p xs = count-some p xs (omega (arith, sum_by-cons (λ (y : _). cond {A = ℕ} (p y) 1 0) x xs, none)) in
    let (i, within, at) = rest.there in
    record { one = rest.one; there = (suc i, omega arith, at); passes = rest.passes })
    (cases_Bool (p x))

count-joined : {X Y : Type 0} → (p : Y → Bool) (f : X → List Y) (x : X) (xs : List X)
    → count_by p (flat_map f (x ∷ xs)) ≡ count_by p (f x) + count_by p (flat_map f xs)
count-joined p f x xs = ap (count_by p) (flat_map-cons f x xs) ∙ sum_by-append (λ (y : _). cond {A = ℕ} (p y) 1 0) (f x) (flat_map f xs)

count-none : {X Y : Type 0} → (p : Y → Bool) (f : X → List Y) (xs : List X)
    → ((i : ℕ) (d : X) → i < length xs → count_by p (f (get_or xs i d)) ≡ 0) → count_by p (flat_map f xs) ≡ 0
count-none p f [] none = refl
count-none p f (x ∷ xs) none =
    omega (arith, count-joined p f x xs, none 0 x (omega arith), count-none p f xs (λ i d below. none (suc i) d (omega arith)))

-- at most one passes, where at most one of each list does, and those of at most one list
pub count-once : {X Y : Type 0} → (p : Y → Bool) (f : X → List Y) (xs : List X)
    → ((i : ℕ) (d : X) → i < length xs → count_by p (f (get_or xs i d)) ≤ 1)
    → ((i j : ℕ) (d : X) → i < length xs → j < length xs → 0 < count_by p (f (get_or xs i d)) → 0 < count_by p (f (get_or xs j d)) → i ≡ j)
    → count_by p (flat_map f xs) ≤ 1
count-once p f [] each once = omega arith
count-once p f (x ∷ xs) each once =
    ⊎_elim
    (λ some.
    let none : count_by p (flat_map f xs) ≡ 0 =
    count-none p f xs
    (λ i d below.
    ⊎_elim
    (λ more. absurd (let same : 0 ≡ suc i = once 0 (suc i) d (omega arith) (omega arith) some more in omega arith))
    (λ zeros. omega (arith, zeros))
    (cases_lt 0 (count_by p (f (get_or xs i d))))) in
    omega (arith, count-joined p f x xs, none, each 0 x (omega arith)))
    (λ nothing.
    let rest : count_by p (flat_map f xs) ≤ 1 =
    count-once p f xs (λ i d below. each (suc i) d (omega arith))
    (λ i j d first second a b. let same : suc i ≡ suc j = once (suc i) (suc j) d (omega arith) (omega arith) a b in omega arith) in
    omega (arith, count-joined p f x xs, rest, nothing))
    (cases_lt 0 (count_by p (f x)))

-- sums of two lists that agree place by place
pub sum-same : {X Y : Type 0} → (f : X → ℕ) (g : Y → ℕ) (xs : List X) (ys : List Y) → length xs ≡ length ys
    → ((i : ℕ) (d : X) (e : Y) → i < length xs → f (get_or xs i d) ≡ g (get_or ys i e)) → sum_by f xs ≡ sum_by g ys
sum-same f g [] [] same each = refl
sum-same f g [] (y ∷ ys) same each = absurd (omega arith)
sum-same f g (x ∷ xs) [] same each = absurd (omega arith)
sum-same f g (x ∷ xs) (y ∷ ys) same each =
    omega (arith, sum_by-cons f x xs, sum_by-cons g y ys, each 0 x y (omega arith), sum-same f g xs ys (omega arith) (λ i d e below. each (suc i) d e (omega arith)))

-- an element of a list
pub element : {X : Type 0} → (xs : List X) (i : ℕ) → i < length xs → X
element [] i below = absurd (omega arith)
element (x ∷ xs) zero below = x
element (x ∷ xs) (suc i) below = element xs i (omega arith)
