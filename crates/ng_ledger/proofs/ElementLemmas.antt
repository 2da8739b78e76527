-- What a list has, by its first element and the rest.
use Rattle.std.proofs.Common.{◌≡◌, ◌≢◌, ◌⊎◌, ℕ, zero, suc, List, [], ◌∷◌, drop, AllPairs, Contains, Some, refl, sym, ◌∙◌, ⊎_elim, inl, inr, arith}
use Rattle.std.specs.List.{slice_get}
use Rattle.std.proofs.lemmas.Bool.{cases_eq}
use Rattle.std.proofs.lemmas.Option.{none-some, same_Some}

-- what a list has is its first element, or stands behind it
pub first_or_behind : {X : Type 0} (x : X) (xs : List X) (y : X) → Contains (x ∷ xs) y → (y ≡ x) ⊎ Contains xs y
first_or_behind x xs y (zero, within, is) = inl (sym is)
first_or_behind x xs y (suc k, within, is) = inr (k, omega arith, is)

pub contains_first : {X : Type 0} (x : X) (xs : List X) → Contains (x ∷ xs) x
contains_first x xs = (0, omega arith, refl)

pub contains_behind : {X : Type 0} (x : X) (xs : List X) (y : X) → Contains xs y → Contains (x ∷ xs) y
contains_behind x xs y (k, within, is) = (suc k, omega arith, is)

-- a list has a number or hasn't
pub cases_contains : (xs : List ℕ) (n : ℕ) → Contains xs n ⊎ ¬ Contains xs n
cases_contains [] n = inr (λ (k, within, is). absurd (omega arith))
cases_contains (x ∷ xs) n = ⊎_elim
    (λ (same : n ≡ x). inl (0, omega arith, sym same))
    (λ (other : n ≢ x). ⊎_elim
    (λ (in' : Contains xs n). inl (contains_behind x xs n in'))
    (λ (out : ¬ Contains xs n). inr (λ there. ⊎_elim other out (first_or_behind x xs n there)))
    (cases_contains xs n))
    (cases_eq n x)

-- the first of a list is in it
pub contains_get : (xs : List ℕ) (n : ℕ) → slice_get xs 0 ≡ Some n → Contains xs n
contains_get [] n is = absurd (none-some n is)
contains_get (x ∷ xs) n is = (0, omega arith, same_Some x n is)

-- what the rest has, the list has
pub contains_drop : (xs : List ℕ) (n : ℕ) → Contains (drop 1 xs) n → Contains xs n
contains_drop [] n in' = in'
contains_drop (x ∷ xs) n in' = contains_behind x xs n in'

-- and the list has no more but the first
pub contains_rest : (xs : List ℕ) (first n : ℕ) → slice_get xs 0 ≡ Some first → Contains xs n → n ≢ first → Contains (drop 1 xs) n
contains_rest [] first n is in' apart = in'
contains_rest (x ∷ xs) first n is in' apart = ⊎_elim
    (λ (same : n ≡ x). absurd (apart (same ∙ same_Some x first is)))
    (λ behind. behind)
    (first_or_behind x xs n in')

-- the first of distinct numbers isn't in the rest
pub first_not_behind : (xs : List ℕ) (first : ℕ) → AllPairs (λ n other. n ≢ other) xs → slice_get xs 0 ≡ Some first → ¬ Contains (drop 1 xs) first
first_not_behind [] first distinct is (k, within, at) = absurd (omega arith)
first_not_behind (x ∷ xs) first distinct is (k, within, at) =
    distinct 0 (suc k) first (omega arith) (omega arith) (same_Some x first is ∙ sym at)
