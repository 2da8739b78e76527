-- What is among the elements of a list, and what they are counted to.
use Rattle.std.specs.Prelude.{◌≡◌, ◌⊎◌, ℕ, zero, suc, ◌+◌, ◌&&◌, eqb, cond, Bool, true, false, List, [], ◌∷◌, Option, Some, None}
use mathlib.Core.Option.{some}
use lib.ListN.{get_elem?}
use Rattle.ng_view.specs.declared.view.Place.{Place}
use Rattle.ng_view.specs.declared.view.Held.{Held}
use Rattle.ng_view.specs.declared.view.Excuse.{Excuse}
use Rattle.ng_view.specs.declared.view.View.{View}

-- x is among these
abbrev pub Among : {A : Type 0} → A → List A → Type 0
Among x [] = ⊥
Among x (y ∷ ys) = (x ≡ y) ⊎ Among x ys

abbrev pub total_by : {A : Type 0} → (A → ℕ) → List A → ℕ
total_by f [] = 0
total_by f (x ∷ xs) = f x + total_by f xs

abbrev pub count_of : Bool → ℕ
count_of true = 1
count_of false = 0

-- how often k is among these
abbrev pub times : ℕ → List ℕ → ℕ
times k xs = total_by (λ x. count_of (eqb x k)) xs

-- how often an excuse with that number is among these
abbrev pub excused : ℕ → List Excuse → ℕ
excused k xs = total_by (λ x. count_of (eqb x.number k)) xs

abbrev pub is_at : ℕ → ℕ → Place → Bool
is_at m i p = eqb p.group.meta m && eqb p.index i

-- the slot i of the meta m
abbrev pub find : ℕ → ℕ → List Held → Option Held
find m i [] = None
find m i (h ∷ hs) = cond (is_at m i h.place) (Some h) (find m i hs)

abbrev pub edit : ℕ → ℕ → (Held → Held) → List Held → List Held
edit m i t [] = []
edit m i t (h ∷ hs) = cond (is_at m i h.place) (t h ∷ hs) (h ∷ edit m i t hs)

abbrev pub without : ℕ → ℕ → List Held → List Held
without m i [] = []
without m i (h ∷ hs) = cond (is_at m i h.place) hs (h ∷ without m i hs)

abbrev pub Each : List View → (View → Type 0) → Type 0
Each vs P = (j : ℕ) (u : View) → get_elem? vs j ≡ some u → P u

-- the numbers below k that pass a test
abbrev pub select : (ℕ → Bool) → ℕ → List ℕ
select t zero = []
select t (suc k) = cond (t k) (k ∷ select t k) (select t k)
