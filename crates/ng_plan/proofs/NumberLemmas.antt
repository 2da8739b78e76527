-- The numbers of places that are apart.
use Rattle.std.proofs.Common.{◌≡◌, ℕ, zero, suc, ◌+◌, ◌-◌, ◌<◌, ◌≤◌, Bool, true, false, List, [], ◌∷◌, length, map, get_or, Some, None, eqb, refl, ap, ◌∙◌, arith, ⊎_elim}
use Rattle.std.specs.Prelude.{◌&&◌}
use Rattle.std.specs.List.{position_from}
use Rattle.std.proofs.lemmas.Bool.{cases_Bool, eqb-true, false≢true}
use Rattle.ng_plan.specs.declared.step.Place.{Place}
use Rattle.ng_plan.specs.Plans.{is_place}
use Rattle.ng_plan.specs.SoundTurns.{Apart}
use Rattle.ng_plan.proofs.TableLemmas.{eqb-same}

-- a place passes its own test
pub place_here : (place : Place) → is_place place place ≡ true
place_here place = rw (eqb-same place.log place.log refl, eqb-same place.op place.op refl) refl

both : (a b : Bool) → a && b ≡ true → (a ≡ true) × (b ≡ true)
both true true is = (refl, refl)
both true false is = absurd (false≢true is)
both false true is = absurd (false≢true is)
both false false is = absurd (false≢true is)

-- what passes the test of a place is that place
pub place_is : (place other : Place) → is_place place other ≡ true → other ≡ place
place_is place other is =
    let parts : (eqb other.log place.log ≡ true) × (eqb other.op place.op ≡ true) = both (eqb other.log place.log) (eqb other.op place.op) is in
    let log : other.log ≡ place.log = eqb-true other.log place.log parts.0 in
    let op : other.op ≡ place.op = eqb-true other.op place.op parts.1 in
    ap (λ (l : ℕ). let p : Place = record { log = l; op = other.op } in p) log ∙ ap (λ (o : ℕ). let p : Place = record { log = place.log; op = o } in p) op

-- where the places are apart, each has the number of its own
pub number_at : {A : Type 0} (place : A → Place) (xs : List A) (i first : ℕ) (x : A) → Apart place xs → i < length xs → position_from (is_place (place (get_or xs i x))) first (map place xs) ≡ Some (first + i)
number_at place [] i first x apart within = absurd (omega arith)
number_at place (y ∷ xs) zero first x apart within =
    let at : first ≡ first + 0 = omega arith in
    rw (place_here (place y)) (ap Some at)
number_at place (y ∷ xs) (suc i) first x apart within =
    let at : first + 1 + i ≡ first + suc i = omega arith in
    let inside : i < length xs = omega arith in
    ⊎_elim
    (λ yes. absurd (apart.0 i x inside (place_is (place (get_or xs i x)) (place y) yes)))
    (λ other. rw other (number_at place xs i (first + 1) x apart.1 inside ∙ ap Some at))
    (cases_Bool (is_place (place (get_or xs i x)) (place y)))

-- the place with a number
pub record IsNumber (place : Place) (places : List Place) (first number : ℕ) : Type 0 where
  pub least : first ≤ number
  pub within : number < first + length places
  pub is : get_or places (number - first) place ≡ place

none_some : (number : ℕ) → None ≡ Some number → ⊥
none_some number same = cc

some_same : (a b : ℕ) → Some a ≡ Some b → a ≡ b
some_same a b same = cc

-- the number of a place is that of an equal one
pub number_is : (place : Place) (places : List Place) (first number : ℕ) → position_from (is_place place) first places ≡ Some number → IsNumber place places first number
number_is place [] first number is = absurd (none_some number is)
number_is place (p ∷ places) first number is = ⊎_elim
    (λ yes.
    let same : first ≡ number = some_same first number (rw yes at is) in
    let at : number - first ≡ 0 = omega arith in
    record { least = omega arith; within = omega arith; is = rw at (place_is place p yes) })
    (λ other.
    let later : IsNumber place places (first + 1) number = number_is place places (first + 1) number (rw other at is) in
    let at : number - first ≡ suc (number - (first + 1)) = omega (arith, later.least) in
    record { least = omega (arith, later.least); within = omega (arith, later.within); is = rw at later.is })
    (cases_Bool (is_place place p))
