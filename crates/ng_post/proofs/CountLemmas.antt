-- Sums and counts over lists.
use Rattle.std.proofs.Common.{◌≡◌, ◌≢◌, ◌∙◌, ◌+◌, ◌<◌, ◌≤◌, ◌==◌, ◌∷◌, ◌++◌, [], suc, ℕ, List, Bool, true, ap, arith, cond, get_or, length, map, filter, not, refl, sum_by, sym, take, ⊎_elim}
use Rattle.std.specs.Prelude.{Contains, count_by, flat_map}
use Rattle.std.specs.List.{All, list_any}
use Rattle.std.proofs.lemmas.Bool.{cases_lt}
use Rattle.std.proofs.lemmas.Bool.Decides.{nat_tests}
use Rattle.std.proofs.lemmas.List.{get_or-take, get_or_default, length-take}
use Rattle.std.proofs.lemmas.List.Elements.{All-head, All-tail}
use Rattle.std.proofs.lemmas.List.Filters.{sum_by-filter_both}
use Rattle.std.proofs.lemmas.List.Folds.{Any-from_list_any}
use Rattle.std.proofs.lemmas.List.Sums.{get_or-le-sum_by, sum_by-append, sum_by-cons, sum_by_more_le}
use Rattle.ng_post.proofs.BoxLemmas.{same_or_not}

pub sum_by-map : {X Y : Type 0} (f : Y → ℕ) (g : X → Y) (xs : List X) → sum_by f (map g xs) ≡ sum_by (λ x. f (g x)) xs
sum_by-map f g [] = refl
sum_by-map f g (x ∷ xs) = sum_by-cons f (g x) (map g xs) ∙ ap (λ n. f (g x) + n) (sum_by-map f g xs) ∙ sym (sum_by-cons (λ y. f (g y)) x xs)

pub sum_by-flat_map : {X Y : Type 0} (f : Y → ℕ) (g : X → List Y) (xs : List X) → sum_by f (flat_map g xs) ≡ sum_by (λ x. sum_by f (g x)) xs
sum_by-flat_map f g [] = refl
sum_by-flat_map f g (x ∷ xs) = sum_by-append f (g x) (flat_map g xs) ∙ ap (λ n. sum_by f (g x) + n) (sum_by-flat_map f g xs) ∙ sym (sum_by-cons (λ y. sum_by f (g y)) x xs)

-- terms that agree on each item
pub sum_by_agree : {X : Type 0} (f g : X → ℕ) (xs : List X) → All (λ x. f x ≡ g x) xs → sum_by f xs ≡ sum_by g xs
sum_by_agree f g [] agree = refl
sum_by_agree f g (x ∷ xs) agree =
    let here = All-head (λ y. f y ≡ g y) x xs agree in
    let rest = sum_by_agree f g xs (All-tail (λ y. f y ≡ g y) x xs agree) in
    let left = sum_by-cons f x xs in
    let right = sum_by-cons g x xs in
    omega (arith, here, rest, left, right)

pub sum_by_both : {X : Type 0} (f g : X → ℕ) (xs : List X) → sum_by (λ x. f x + g x) xs ≡ sum_by f xs + sum_by g xs
sum_by_both f g [] = refl
sum_by_both f g (x ∷ xs) =
    let rest = sum_by_both f g xs in
    let whole = sum_by-cons (λ y. f y + g y) x xs in
    let left = sum_by-cons f x xs in
    let right = sum_by-cons g x xs in
    omega (arith, rest, whole, left, right)

pub sum_by_zero : {X : Type 0} (xs : List X) → sum_by (λ x. 0) xs ≡ 0
sum_by_zero [] = refl
sum_by_zero (x ∷ xs) = let whole = sum_by-cons (λ y. 0) x xs in let rest = sum_by_zero xs in omega (arith, whole, rest)

-- a double sum, the other way round
pub sum_by_swapped : {X Y : Type 0} (f : X → Y → ℕ) (xs : List X) (ys : List Y) → sum_by (λ x. sum_by (f x) ys) xs ≡ sum_by (λ y. sum_by (λ x. f x y) xs) ys
sum_by_swapped f [] ys = sym (sum_by_zero ys)
sum_by_swapped f (x ∷ xs) ys =
    sum_by-cons (λ x'. sum_by (f x') ys) x xs ∙ ap (λ n. sum_by (f x) ys + n) (sum_by_swapped f xs ys)
    ∙ sym (sum_by_both (f x) (λ y. sum_by (λ x'. f x' y) xs) ys)
    ∙ sum_by_agree (λ y. f x y + sum_by (λ x'. f x' y) xs) (λ y. sum_by (λ x'. f x' y) (x ∷ xs)) ys (λ k d lt. sym (sum_by-cons (λ x'. f x' (get_or ys k d)) x xs))

-- two terms at two places
pub two_terms : {X : Type 0} (f : X → ℕ) (xs : List X) (i j : ℕ) (a b : X) → i < length xs → j < length xs → i ≢ j → f (get_or xs i a) + f (get_or xs j b) ≤ sum_by f xs
two_terms f xs i j a b lt lt' apart = ⊎_elim
    (λ (less : i < j). omega (arith, ordered f xs i j a b less lt'))
    (λ (more : j ≤ i). omega (arith, ordered f xs j i b a (omega (arith, more, apart)) lt))
    (cases_lt i j)
  where
    ordered : {X : Type 0} (f : X → ℕ) (xs : List X) (i j : ℕ) (a b : X) → i < j → j < length xs → f (get_or xs i a) + f (get_or xs j b) ≤ sum_by f xs
    ordered f xs i j a b less within =
        let long : length (take j xs) ≡ j = length-take j xs ∙ omega arith in
        let first : f (get_or (take j xs) i a) ≤ sum_by f (take j xs) = get_or-le-sum_by f (take j xs) i a (omega (arith, long)) in
        let same : get_or (take j xs) i a ≡ get_or xs i a = get_or-take j xs i a less in
        let both : sum_by f (take j xs) + f (get_or xs j b) ≤ sum_by f xs = sum_by_more_le f xs j b within in
        omega (arith, first, ap f same, both)

pub count_by-cons : {X : Type 0} (p : X → Bool) (x : X) (xs : List X) → count_by p (x ∷ xs) ≡ cond (p x) 1 0 + count_by p xs
count_by-cons p x xs = sum_by-cons (λ y. cond (p y) 1 0) x xs

pub count_by-append : {X : Type 0} (p : X → Bool) (xs ys : List X) → count_by p (xs ++ ys) ≡ count_by p xs + count_by p ys
count_by-append p xs ys = sum_by-append (λ y. cond (p y) 1 0) xs ys

pub count_by-filter-le : {X : Type 0} (p q : X → Bool) (xs : List X) → count_by p (filter q xs) ≤ count_by p xs
count_by-filter-le p q xs = let both = sum_by-filter_both q (λ x. not (q x)) (λ x. refl) (λ x. cond (p x) 1 0) xs in omega (arith, both)

-- an item that passes is counted
pub counted : {X : Type 0} (p : X → Bool) (xs : List X) (x : X) → Contains xs x → p x ≡ true → 1 ≤ count_by p xs
counted p xs x in_xs passes =
    let one : cond {A = ℕ} (p (get_or xs in_xs.0 x)) 1 0 ≡ 1 = ap (λ y. cond {A = ℕ} (p y) 1 0) in_xs.2 ∙ ap (λ b. cond {A = ℕ} b 1 0) passes in
    let le : cond {A = ℕ} (p (get_or xs in_xs.0 x)) 1 0 ≤ count_by p xs = get_or-le-sum_by (λ y. cond (p y) 1 0) xs in_xs.0 x in_xs.1 in
    omega (arith, one, le)

pub counted_any : {X : Type 0} (p : X → Bool) (xs : List X) → list_any p xs ≡ true → 1 ≤ count_by p xs
counted_any p xs any =
    let found = Any-from_list_any p xs any in
    counted p xs found.1 (found.0, found.2, found.3) found.4

-- items that pass stand at one place, where but one is counted
pub same_if_once : {X : Type 0} (p : X → Bool) (xs : List X) (x y : X) → count_by p xs ≤ 1 → Contains xs x → Contains xs y → p x ≡ true → p y ≡ true → x ≡ y
same_if_once p xs x y once in_x in_y passes passes' = ⊎_elim
    (λ (same : in_x.0 ≡ in_y.0). sym in_x.2 ∙ get_or_default xs in_x.0 x y in_x.1 ∙ ap (λ k. get_or xs k y) same ∙ in_y.2)
    (λ (apart : in_x.0 ≢ in_y.0).
    let one : cond {A = ℕ} (p (get_or xs in_x.0 x)) 1 0 ≡ 1 = ap (λ z. cond {A = ℕ} (p z) 1 0) in_x.2 ∙ ap (λ b. cond {A = ℕ} b 1 0) passes in
    let other : cond {A = ℕ} (p (get_or xs in_y.0 y)) 1 0 ≡ 1 = ap (λ z. cond {A = ℕ} (p z) 1 0) in_y.2 ∙ ap (λ b. cond {A = ℕ} b 1 0) passes' in
    let both = two_terms (λ z. cond (p z) 1 0) xs in_x.0 in_y.0 x y in_x.1 in_y.1 apart in
    absurd (omega (arith, one, other, both, once)))
    (same_or_not in_x.0 in_y.0)

-- of items that are numbered in order, one has the number
pub one_numbered : {X : Type 0} (number : X → ℕ) (xs : List X) (first n c : ℕ) → ((k : ℕ) (d : X) → k < length xs → number (get_or xs k d) ≡ first + k)
    → first ≤ n → n < first + length xs → sum_by (λ x. cond (n == number x) c 0) xs ≡ c
one_numbered number [] first n c each least most = absurd (omega arith)
one_numbered {X} number (x ∷ xs) first n c each least most =
    let here : number x ≡ first = each 0 x (omega arith) ∙ omega arith in
    let later : (k : ℕ) (d : X) → k < length xs → number (get_or xs k d) ≡ (first + 1) + k = λ k d lt. each (suc k) d (omega arith) ∙ omega arith in
    let whole = sum_by-cons (λ y. cond (n == number y) c 0) x xs in
    ⊎_elim
    (λ (same : n ≡ first).
    let one : cond {A = ℕ} (n == number x) c 0 ≡ c = does n (number x) c (same ∙ sym here) in
    let rest = none_numbered number xs (first + 1) n c later (omega (arith, same)) in
    omega (arith, whole, one, rest))
    (λ (apart : n ≢ first).
    let none : cond {A = ℕ} (n == number x) c 0 ≡ 0 = not_so n (number x) c (λ e. apart (e ∙ here)) in
    let rest = one_numbered number xs (first + 1) n c later (omega (arith, least, apart)) (omega (arith, most)) in
    omega (arith, whole, none, rest))
    (same_or_not n first)
  where
    does : (a b c : ℕ) → a ≡ b → cond {A = ℕ} (a == b) c 0 ≡ c
    does a b c is = grind (arith, nat_tests)

    not_so : (a b c : ℕ) → a ≢ b → cond {A = ℕ} (a == b) c 0 ≡ 0
    not_so a b c other = grind (arith, nat_tests)

    none_numbered : {X : Type 0} (number : X → ℕ) (xs : List X) (first n c : ℕ) → ((k : ℕ) (d : X) → k < length xs → number (get_or xs k d) ≡ first + k)
        → n < first → sum_by (λ x. cond (n == number x) c 0) xs ≡ 0
    none_numbered number [] first n c each less = refl
    none_numbered {X} number (x ∷ xs) first n c each less =
        let here : number x ≡ first = each 0 x (omega arith) ∙ omega arith in
        let later : (k : ℕ) (d : X) → k < length xs → number (get_or xs k d) ≡ (first + 1) + k = λ k d lt. each (suc k) d (omega arith) ∙ omega arith in
        let whole = sum_by-cons (λ y. cond (n == number y) c 0) x xs in
        let none : cond {A = ℕ} (n == number x) c 0 ≡ 0 = not_so n (number x) c (λ e. omega (arith, e, here, less)) in
        let rest = none_numbered number xs (first + 1) n c later (omega (arith, less)) in
        omega (arith, whole, none, rest)
