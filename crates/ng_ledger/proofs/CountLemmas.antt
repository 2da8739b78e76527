-- Counting over lists: where one element alone has a number, and where the elements of two lists have the same numbers.
use Rattle.std.proofs.Common.{◌≡◌, ◌≢◌, ℕ, ◌+◌, ◌≤◌, eqb, eq-eqb, ne_eqb, cond, List, [], ◌∷◌, Contains, sum_by, refl, sym, ap, ◌∙◌, subst, ⊎_elim, inl, inr, arith}
use Rattle.std.proofs.lemmas.Bool.{cases_eq}
use Rattle.std.proofs.lemmas.List.Sums.{sum_by-cons}
use Rattle.ng_rule.proofs.geometry.Bits.{count_of-same}
use Rattle.ng_view.specs.Lists.{Among, count_of, total_by}
use Rattle.ng_ledger.proofs.ElementLemmas.{contains_behind, contains_first, first_or_behind}

module _ {A : Type 0} where
  -- ---- what is in a list is among its elements
  pub contains_among : (xs : List A) (x : A) → Contains xs x → Among x xs
  contains_among [] x (k, within, is) = absurd (omega arith)
  contains_among (y ∷ ys) x in' = ⊎_elim inl (λ behind. inr (contains_among ys x behind)) (first_or_behind y ys x in')

  pub among_contains : (xs : List A) (x : A) → Among x xs → Contains xs x
  among_contains [] x there = elim there [ ]
  among_contains (y ∷ ys) x (inl e) = subst (λ z. Contains (y ∷ ys) z) (sym e) (contains_first y ys)
  among_contains (y ∷ ys) x (inr t) = contains_behind y ys x (among_contains ys x t)

  -- ---- sums
  pub total_is_sum : (f : A → ℕ) (xs : List A) → total_by f xs ≡ sum_by f xs
  total_is_sum f [] = refl
  total_is_sum f (x ∷ xs) = let rest : total_by f xs ≡ sum_by f xs = total_is_sum f xs in omega (arith, sum_by-cons f x xs)

  pub total_none : (f : A → ℕ) (xs : List A) → ((x : A) → Among x xs → f x ≡ 0) → total_by f xs ≡ 0
  total_none f [] none = refl
  total_none f (x ∷ xs) none =
      let first : f x ≡ 0 = none x (inl refl) in
      let rest : total_by f xs ≡ 0 = total_none f xs (λ y there. none y (inr there)) in
      omega arith

  pub total_same : (f g : A → ℕ) (xs : List A) → ((x : A) → Among x xs → f x ≡ g x) → total_by f xs ≡ total_by g xs
  total_same f g [] same = refl
  total_same f g (x ∷ xs) same =
      let first : f x ≡ g x = same x (inl refl) in
      let rest : total_by f xs ≡ total_by g xs = total_same f g xs (λ y there. same y (inr there)) in
      omega arith

  pub total_sum : (f g : A → ℕ) (xs : List A) → total_by (λ x. f x + g x) xs ≡ total_by f xs + total_by g xs
  total_sum f g [] = refl
  total_sum f g (x ∷ xs) = let rest : total_by (λ y. f y + g y) xs ≡ total_by f xs + total_by g xs = total_sum f g xs in omega arith

  -- ---- how many have the number k
  abbrev pub numbered : (A → ℕ) → ℕ → List A → ℕ
  numbered number k xs = total_by (λ x. count_of (eqb (number x) k)) xs

  numbered_away : (number : A → ℕ) (k : ℕ) (xs : List A) → numbered number k xs ≡ 0 → (x : A) → Among x xs → number x ≢ k
  numbered_away number k [] none x there = elim there [ ]
  numbered_away number k (y ∷ ys) none x (inl e) =
      λ is.
      let one : count_of (eqb (number y) k) ≡ 1 = ap (λ n. count_of (eqb n k)) (sym (ap number e) ∙ is) ∙ count_of-same k in
      absurd (omega arith)
  numbered_away number k (y ∷ ys) none x (inr t) = numbered_away number k ys (omega arith) x t

  -- of those with a number there is one alone, and the others count for nothing
  pub total_one : (number f : A → ℕ) (x : A) (xs : List A) → numbered number (number x) xs ≤ 1 → Among x xs
      → ((y : A) → Among y xs → number y ≡ number x → f y ≡ f x) → ((y : A) → Among y xs → number y ≢ number x → f y ≡ 0)
      → total_by f xs ≡ f x
  total_one number f x [] once there same other = elim there [ ]
  total_one number f x (y ∷ ys) once there same other = ⊎_elim
      (λ (e : number y ≡ number x).
      let one : count_of (eqb (number y) (number x)) ≡ 1 = ap (λ n. count_of (eqb n (number x))) e ∙ count_of-same (number x) in
      let none : numbered number (number x) ys ≡ 0 = omega arith in
      let first : f y ≡ f x = same y (inl refl) e in
      let rest : total_by f ys ≡ 0 = total_none f ys (λ z t. other z (inr t) (numbered_away number (number x) ys none z t)) in
      omega arith)
      (λ (ne : number y ≢ number x).
      let first : f y ≡ 0 = other y (inl refl) ne in
      let fewer : numbered number (number x) ys ≤ 1 = omega arith in
      let behind : Among x ys = ⊎_elim (λ (e : x ≡ y). absurd (ne (ap number (sym e)))) (λ t. t) there in
      let rest : total_by f ys ≡ f x = total_one number f x ys fewer behind (λ z t. same z (inr t)) (λ z t. other z (inr t)) in
      omega arith)
      (cases_eq (number y) (number x))

-- ---- over two lists
pub total_turned : {A B : Type 0} (f : A → B → ℕ) (xs : List A) (ys : List B)
    → total_by (λ x. total_by (f x) ys) xs ≡ total_by (λ y. total_by (λ x. f x y) xs) ys
total_turned f [] ys = sym (total_none (λ y. 0) ys (λ y there. refl))
total_turned f (x ∷ xs) ys =
    ap (λ n. total_by (f x) ys + n) (total_turned f xs ys) ∙ sym (total_sum (f x) (λ y. total_by (λ z. f z y) xs) ys)

-- n where the two numbers are one
abbrev pub where_same : ℕ → ℕ → ℕ → ℕ
where_same k j n = cond (eqb k j) n 0

pub where_one : (k j n : ℕ) → k ≡ j → where_same k j n ≡ n
where_one k j n same = ap (λ b. cond b n 0) (eq-eqb k j same)

pub where_other : (k j n : ℕ) → k ≢ j → where_same k j n ≡ 0
where_other k j n other = ap (λ b. cond b n 0) (ne_eqb k j other)

where_none : (k j n : ℕ) → n ≡ 0 → where_same k j n ≡ 0
where_none k j n none = ⊎_elim
    (λ (same : k ≡ j). where_one k j n same ∙ none)
    (λ (other : k ≢ j). where_other k j n other)
    (cases_eq k j)

-- each element of the second list that counts has the number of one of the first, which alone there has it
pub total_matched : {A B : Type 0} (a : A → ℕ) (b n : B → ℕ) (xs : List A) (ys : List B) → ((k : ℕ) → numbered a k xs ≤ 1)
    → ((y : B) → Among y ys → n y ≢ 0 → (x : A) × Among x xs × (a x ≡ b y))
    → total_by (λ x. total_by (λ y. where_same (a x) (b y) (n y)) ys) xs ≡ total_by n ys
total_matched {A} {B} a b n xs ys once has =
    total_turned (λ x y. where_same (a x) (b y) (n y)) xs ys ∙ total_same (λ y. total_by (λ x. where_same (a x) (b y) (n y)) xs) n ys each
  where
    counted : (y : B) (x : A) → Among x xs → a x ≡ b y → total_by (λ z. where_same (a z) (b y) (n y)) xs ≡ n y
    counted y x there is =
        total_one a (λ z. where_same (a z) (b y) (n y)) x xs (once (a x)) there
        (λ z t same. ap (λ k. where_same k (b y) (n y)) same)
        (λ z t other. where_other (a z) (b y) (n y) (λ same. other (same ∙ sym is)))
        ∙ where_one (a x) (b y) (n y) is

    each : (y : B) → Among y ys → total_by (λ x. where_same (a x) (b y) (n y)) xs ≡ n y
    each y there = ⊎_elim
        (λ (none : n y ≡ 0). total_none (λ x. where_same (a x) (b y) (n y)) xs (λ x t. where_none (a x) (b y) (n y) none) ∙ sym none)
        (λ (some : n y ≢ 0). let r = has y there some in counted y r.0 r.1 r.2)
        (cases_eq (n y) 0)
