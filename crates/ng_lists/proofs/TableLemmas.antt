-- Rings split at one of their metas.
use Rattle.std.proofs.Common.{◌≡◌, ◌≢◌, ℕ, zero, suc, ◌+◌, ◌==◌, true, List, [], ◌∷◌, ◌++◌, length, get_or, drop, Contains, cond, refl, ap, sym, ◌∙◌, arith, ⊎_elim}
use Rattle.std.specs.Prelude.{not}
use Rattle.std.specs.List.{position_or_len}
use Rattle.std.proofs.lemmas.Bool.{cases_eq, cond-true, cond-false, eq-eqb, ne_eqb}
use Rattle.std.proofs.lemmas.List.{append_assoc, drop_at, take_at, length_push}
use Rattle.std.proofs.lemmas.List.Elements.{Contains-append_right}
use Rattle.ng_lists.specs.Rings.{after, before, next_in, rotated, without}

-- nothing is in the empty list
nowhere : (x : ℕ) → ¬ Contains [] x
nowhere x (k, within, is) = omega arith

-- what isn't the first of a list is later in it
later : (y : ℕ) (xs : List ℕ) (x : ℕ) → y ≢ x → Contains (y ∷ xs) x → Contains xs x
later y xs x other (zero, within, is) = absurd (other is)
later y xs x other (suc k, within, is) = (k, omega arith, is)

-- the parts of a list around the first place of an element
pub record Split (xs : List ℕ) (x : ℕ) : Type 0 where
  pub front : List ℕ
  pub back : List ℕ
  pub whole : xs ≡ front ++ x ∷ back
  pub away : ¬ Contains front x

-- a list is split at each of its elements
pub first_split : (xs : List ℕ) (x : ℕ) → Contains xs x → Split xs x
first_split [] x (k, within, is) = absurd (omega arith)
first_split (y ∷ xs) x (k, within, is) = ⊎_elim
    (λ same. record { front = []; back = xs; whole = ap (λ z. z ∷ xs) same; away = λ in'. nowhere x in' })
    (λ other.
    let rest : Split xs x = first_split xs x (later y xs x other (k, within, is)) in
    record {
      front = y ∷ rest.front;
      back = rest.back;
      whole = ap (λ zs. y ∷ zs) rest.whole;
      away = λ in'. rest.away (later y rest.front x other in');
    })
    (cases_eq y x)

-- the first place of an element is behind what doesn't contain it
position-split : (front : List ℕ) (x : ℕ) (back : List ℕ) → ¬ Contains front x → position_or_len (λ y. y == x) (front ++ x ∷ back) ≡ length front
position-split [] x back away =
    cond-false {A = ℕ} (not (x == x)) (1 + position_or_len (λ y. y == x) back) 0 (ap not (eq-eqb x x refl))
position-split (y ∷ front) x back away =
    let other : not (y == x) ≡ true = ap not (ne_eqb y x (λ same. away (0, omega arith, same))) in
    let rest : position_or_len (λ y. y == x) (front ++ x ∷ back) ≡ length front =
    position-split front x back (λ in'. away (Contains-append_right (y ∷ []) front x in')) in
    let here : cond {A = ℕ} (not (y == x)) (1 + position_or_len (λ y. y == x) (front ++ x ∷ back)) 0 ≡ 1 + position_or_len (λ y. y == x) (front ++ x ∷ back) =
    cond-true {A = ℕ} (not (y == x)) (1 + position_or_len (λ y. y == x) (front ++ x ∷ back)) 0 other in
    here ∙ omega (arith, rest)

pub before-split : (front : List ℕ) (x : ℕ) (back : List ℕ) → ¬ Contains front x → before x (front ++ x ∷ back) ≡ front
before-split front x back away = take_at front (x ∷ back) _ (sym (position-split front x back away))

pub after-split : (front : List ℕ) (x : ℕ) (back : List ℕ) → ¬ Contains front x → after x (front ++ x ∷ back) ≡ back
after-split front x back away =
    let place : length (front ++ x ∷ []) ≡ position_or_len (λ y. y == x) (front ++ x ∷ back) + 1 =
    omega (arith, length_push front x, position-split front x back away) in
    ap (drop (position_or_len (λ y. y == x) (front ++ x ∷ back) + 1)) (sym (append_assoc front (x ∷ []) back)) ∙ drop_at (front ++ x ∷ []) back _ place

pub without-split : (front : List ℕ) (x : ℕ) (back : List ℕ) → ¬ Contains front x → without x (front ++ x ∷ back) ≡ front ++ back
without-split front x back away = rw (before-split front x back away, after-split front x back away) refl

pub rotated-split : (front : List ℕ) (x : ℕ) (back : List ℕ) → ¬ Contains front x → rotated x (front ++ x ∷ back) ≡ x ∷ back ++ front
rotated-split front x back away = rw (before-split front x back away, after-split front x back away) refl

-- after the last comes the first
pub next_in-split : (front : List ℕ) (x : ℕ) (back : List ℕ) → ¬ Contains front x → next_in (front ++ x ∷ back) x ≡ get_or (back ++ front ++ x ∷ []) 0 0
next_in-split [] x [] away = rw (after-split [] x [] away) refl
next_in-split (y ∷ front) x [] away = rw (after-split (y ∷ front) x [] away) refl
next_in-split front x (z ∷ back) away = rw (after-split front x (z ∷ back) away) refl
