-- Names by number.
use Rattle.std.proofs.Common.{◌≡◌, ℕ, ◌+◌, ◌<◌, ◌≤◌, List, [], ◌∷◌, ◌++◌, length, map, fold, Bool, true, false, not, Some, refl, ap, sym, ◌∙◌, arith, ◌||◌, ltb, cond, is_some, position, ⊎_elim, true≢false}
use Rattle.std.specs.List.{list_any, flat_map, position_or_len}
use Rattle.std.specs.Str.{bytes_eq}
use Rattle.std.proofs.lemmas.Bool.{cases_Bool}
use Rattle.std.proofs.lemmas.Bool.Decides.{nat_tests}
use Rattle.std.proofs.lemmas.List.{length-map, length-append, map-append}
use Rattle.std.proofs.lemmas.List.Concat.{flat_map-append}
use Rattle.std.proofs.lemmas.List.Folds.{list_any-append}
use Rattle.std.proofs.lemmas.List.Sums.{fold-append}
use Rattle.std.proofs.lemmas.Slice.Eq.{bytes_eq-Decides}
use Rattle.ng_script.specs.Forms.{Form, Blank, Malloc, Free, Write, Usable, Bad}
use Rattle.ng_script.specs.Scripts.{is_among, with_name, name_made, names_behind, number_in}

module _ {X Y : Type 0} (p : Y → Bool) (f : X → Y) where
  -- a search in mapped items
  first-map : (xs : List X) → position_or_len (λ x. p (f x)) xs ≡ position_or_len p (map f xs)
  first-map [] = refl
  first-map (x ∷ xs) = ap (λ (n : ℕ). cond (not (p (f x))) (1 + n) 0) (first-map xs)

  pub position-map : (xs : List X) → position (λ x. p (f x)) xs ≡ position p (map f xs)
  position-map xs = rw (← first-map xs, length-map xs f) refl

  pub list_any-map : (xs : List X) → list_any (λ x. p (f x)) xs ≡ list_any p (map f xs)
  list_any-map [] = refl
  list_any-map (x ∷ xs) = ap (λ (b : Bool). p (f x) || b) (list_any-map xs)

module _ {X : Type 0} (p : X → Bool) where
  -- the first that passes stays the first
  first-found : (xs ys : List X) → list_any p xs ≡ true → (position_or_len p (xs ++ ys) ≡ position_or_len p xs) × (position_or_len p xs < length xs)
  first-found [] ys some = absurd (true≢false (sym some))
  first-found (x ∷ xs) ys some =
      ⊎_elim
      (λ (yes : p x ≡ true). (rw yes refl, rw yes (omega arith)))
      (λ (no : p x ≡ false).
      let later : list_any p xs ≡ true = rw no at some in
      let rest = first-found xs ys later in
      (rw no (ap (λ (n : ℕ). 1 + n) rest.0), rw no (omega (arith, rest.1))))
      (cases_Bool (p x))

  pub position-found : (xs ys : List X) → list_any p xs ≡ true → position p (xs ++ ys) ≡ position p xs
  position-found xs ys some =
      let found = first-found xs ys some in
      let long : ltb (position_or_len p xs) (length (xs ++ ys)) ≡ true = grind (arith, nat_tests, found.1, length-append xs ys) in
      let short : ltb (position_or_len p xs) (length xs) ≡ true = grind (arith, nat_tests, found.1) in
      rw found.0 (rw (long, short) refl)

  -- where none passes, the next one that does is the first
  first-pushed : (xs : List X) (x : X) → list_any p xs ≡ false → p x ≡ true → position_or_len p (xs ++ x ∷ []) ≡ length xs
  first-pushed [] x none here = rw here refl
  first-pushed (y ∷ xs) x none last =
      ⊎_elim
      (λ (here : p y ≡ true). absurd (true≢false (rw here at none)))
      (λ (no : p y ≡ false).
      let later : list_any p xs ≡ false = rw no at none in
      rw no (omega (arith, first-pushed xs x later last)))
      (cases_Bool (p y))

  pub position-pushed : (xs : List X) (x : X) → list_any p xs ≡ false → p x ≡ true → position p (xs ++ x ∷ []) ≡ Some (length xs)
  position-pushed xs x none last =
      let inside : ltb (length xs) (length (xs ++ x ∷ [])) ≡ true = grind (arith, nat_tests, length-append xs (x ∷ [])) in
      rw (first-pushed xs x none last) (rw inside refl)

  -- a place is found where one passes
  first-none : (xs : List X) → list_any p xs ≡ false → position_or_len p xs ≡ length xs
  first-none [] none = refl
  first-none (x ∷ xs) none =
      ⊎_elim
      (λ (here : p x ≡ true). absurd (true≢false (rw here at none)))
      (λ (no : p x ≡ false). let later : list_any p xs ≡ false = rw no at none in rw no (omega (arith, first-none xs later)))
      (cases_Bool (p x))

  pub is_some-position : (xs : List X) → is_some (position p xs) ≡ list_any p xs
  is_some-position xs =
      ⊎_elim
      (λ (some : list_any p xs ≡ true).
      let found = first-found xs [] some in
      let inside : ltb (position_or_len p xs) (length xs) ≡ true = grind (arith, nat_tests, found.1) in
      rw (some, inside) refl)
      (λ (none : list_any p xs ≡ false).
      let outside : ltb (position_or_len p xs) (length xs) ≡ false = grind (arith, nat_tests, first-none xs none) in
      rw (none, outside) refl)
      (cases_Bool (list_any p xs))

bytes_eq-self : (name : List ℕ) → bytes_eq name name ≡ true
bytes_eq-self name = (bytes_eq-Decides name name).1 refl

-- a name that is there adds none, and keeps its number
pub with_name-there : (names : List (List ℕ)) (name : List ℕ) → is_among names name ≡ true → with_name names name ≡ names
with_name-there names name there = rw there refl

-- a new name goes last
pub with_name-new : (names : List (List ℕ)) (name : List ℕ) → is_among names name ≡ false → with_name names name ≡ names ++ name ∷ []
with_name-new names name new = rw new refl

pub number-new : (names : List (List ℕ)) (name : List ℕ) → is_among names name ≡ false → number_in (names ++ name ∷ []) name ≡ Some (length names)
number-new names name new = position-pushed (λ other. bytes_eq name other) names name new (bytes_eq-self name)

-- more names leave what is known of a name
with-keeps : (names : List (List ℕ)) (name other : List ℕ) → is_among names name ≡ true
    → (is_among (with_name names other) name ≡ true) × (number_in (with_name names other) name ≡ number_in names name)
with-keeps names name other there =
    ⊎_elim
    (λ (old : is_among names other ≡ true). (rw old there, rw old refl))
    (λ (new : is_among names other ≡ false). (
      rw (new, list_any-append (λ known. bytes_eq name known) names (other ∷ []), there) refl,
      rw new (position-found (λ known. bytes_eq name known) names (other ∷ []) there),
    ))
    (cases_Bool (is_among names other))

fold-keeps : (names : List (List ℕ)) (name : List ℕ) (others : List (List ℕ)) → is_among names name ≡ true
    → number_in (fold with_name names others) name ≡ number_in names name
fold-keeps names name [] there = refl
fold-keeps names name (other ∷ others) there =
    let kept = with-keeps names name other there in
    fold-keeps (with_name names other) name others kept.0 ∙ kept.1

pub number-keeps : (names : List (List ℕ)) (name : List ℕ) (forms : List Form) → is_among names name ≡ true
    → number_in (names_behind names forms) name ≡ number_in names name
unfolding names_behind
number-keeps names name forms there = fold-keeps names name (flat_map name_made forms) there

-- a name is among those that it was put to
pub among-with : (names : List (List ℕ)) (name : List ℕ) → is_among (with_name names name) name ≡ true
among-with names name =
    ⊎_elim
    (λ (old : is_among names name ≡ true). rw old old)
    (λ (new : is_among names name ≡ false). rw (new, list_any-append (λ known. bytes_eq name known) names (name ∷ []), new, bytes_eq-self name) refl)
    (cases_Bool (is_among names name))

-- names behind lines behind lines
pub names_behind-append : (names : List (List ℕ)) (before behind : List Form) → names_behind names (before ++ behind) ≡ names_behind (names_behind names before) behind
unfolding names_behind
names_behind-append names before behind =
    rw (flat_map-append name_made before behind) (fold-append with_name names (flat_map name_made before) (flat_map name_made behind))

with-grows : (names : List (List ℕ)) (name : List ℕ) → (length names ≤ length (with_name names name)) × (length (with_name names name) ≤ length names + 1)
with-grows names name =
    ⊎_elim
    (λ (old : is_among names name ≡ true). (rw old (omega arith), rw old (omega arith)))
    (λ (new : is_among names name ≡ false). (rw new (omega (arith, length-append names (name ∷ []))), rw new (omega (arith, length-append names (name ∷ [])))))
    (cases_Bool (is_among names name))

-- one line more has one name more at most
pub names-grow : (names : List (List ℕ)) (form : Form) → (length names ≤ length (names_behind names (form ∷ []))) × (length (names_behind names (form ∷ [])) ≤ length names + 1)
unfolding names_behind
names-grow names (Malloc name size) = with-grows names name
names-grow names Blank = (omega arith, omega arith)
names-grow names (Free at) = (omega arith, omega arith)
names-grow names (Write name offset byte) = (omega arith, omega arith)
names-grow names (Usable name) = (omega arith, omega arith)
names-grow names Bad = (omega arith, omega arith)

-- a new key goes last
pub key-inserted : {X : Type 0} (f : X → List ℕ) (keys : List X) (key : X) (name : List ℕ) → f key ≡ name → is_among (map f keys) name ≡ false
    → map f (cond (list_any (λ other. bytes_eq (f key) (f other)) keys) keys (keys ++ key ∷ [])) ≡ map f keys ++ name ∷ []
key-inserted f keys key name same new =
    let none : list_any (λ other. bytes_eq (f key) (f other)) keys ≡ false = list_any-map (λ other. bytes_eq (f key) other) f keys ∙ ap (is_among (map f keys)) same ∙ new in
    rw none (map-append f keys (key ∷ []) ∙ ap (λ (last : List ℕ). map f keys ++ last ∷ []) same)
