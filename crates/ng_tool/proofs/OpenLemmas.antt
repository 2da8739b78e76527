-- Hands that have done nothing yet, and rooms for the books of logs.
use Rattle.std.proofs.Common.{◌≡◌, ℕ, suc, ◌+◌, ◌<◌, ◌≤◌, List, [], ◌∷◌, length, slice_index_or, refl, sym, ap, ◌∙◌, subst, inl, inr, ⊎_elim, arith}
use Rattle.std.proofs.lemmas.Bool.{cases_lt}
use Rattle.std.proofs.lemmas.List.Sums.{get_or-le-sum_by}
use Rattle.ng_space.specs.Callers.{Caller, fresh_caller, fresh_callers}
use Rattle.ng_space.specs.Closings.{AreAll, HasNumber, IsEven}
use Rattle.ng_terms.specs.Calls.{op_count}
use Rattle.ng_terms.specs.declared.plan.Op.{Op}

-- no log has more ops than all logs
pub ops_within : (logs : List (List Op)) (log : ℕ) (other : List Op) → log < length logs → length (slice_index_or logs log other) ≤ op_count logs
ops_within logs log other below = get_or-le-sum_by (λ (ops : List Op). length ops) logs log other below

-- ---- hands that are numbered from a number on
pub length-fresh : (first : ℕ) (rooms : List ℕ) → length (fresh_callers first rooms) ≡ length rooms
length-fresh first [] = refl
length-fresh first (room ∷ rooms) = ap suc (length-fresh (first + 1) rooms)

HasNumber-behind : (hand : Caller) (hands : List Caller) (number : ℕ) → HasNumber hands number → HasNumber (hand ∷ hands) number
HasNumber-behind hand hands number there = (there.0, inr there.1, there.2)

HasNumber-first : (first room : ℕ) (rooms : List ℕ) (number : ℕ) → first ≡ number → HasNumber (fresh_callers first (room ∷ rooms)) number
HasNumber-first first room rooms number same = (fresh_caller first room, inl refl, same)

-- each of these numbers is a hand's
numbers-fresh : (first : ℕ) (rooms : List ℕ) (number : ℕ) → first ≤ number → number < first + length rooms → HasNumber (fresh_callers first rooms) number
numbers-fresh first [] number from below = absurd (omega arith)
numbers-fresh first (room ∷ rooms) number from below =
    ⊎_elim
    (λ (above : first < number). HasNumber-behind (fresh_caller first room) (fresh_callers (first + 1) rooms) number
    (numbers-fresh (first + 1) rooms number (omega (arith, above)) (omega (arith, below))))
    (λ (low : number ≤ first). HasNumber-first first room rooms number (omega (arith, from, low)))
    (cases_lt first number)

-- these are all hands of a heap that was opened for so many
pub all_opened : (count : ℕ) (rooms : List ℕ) (hands : List Caller) → length rooms ≡ count → hands ≡ fresh_callers 1 rooms → AreAll count hands
all_opened count rooms hands many fresh = subst (λ (hs : List Caller). AreAll count hs) (sym fresh) (record {
  many = length-fresh 1 rooms ∙ many;
  each = λ number some_hand within. numbers-fresh 1 rooms number (omega (arith, some_hand)) (omega (arith, many, within));
})

-- and none of them has sent a parcel
even-fresh : (first : ℕ) (rooms : List ℕ) → IsEven (fresh_callers first rooms)
even-fresh first [] = refl
even-fresh first (room ∷ rooms) = ap (λ (n : ℕ). 0 + n) (even-fresh (first + 1) rooms)

pub even_opened : (rooms : List ℕ) (hands : List Caller) → hands ≡ fresh_callers 1 rooms → IsEven hands
even_opened rooms hands hands_are = subst (λ (hs : List Caller). IsEven hs) (sym hands_are) (even-fresh 1 rooms)
