-- What callers need of the slots that a hand has, and of the class that they ask for.
use Rattle.std.proofs.Common.{◌≡◌, ◌≢◌, ℕ, ◌*◌, ◌≤◌, Bool, true, false, List, [], ◌∷◌, ◌++◌, refl, sym, ap, ◌∙◌, subst, ⊎_elim, inl, inr, arith}
use mathlib.Core.Bool.{true≢false}
use Rattle.std.proofs.Math.Bool.{and-false}
use Rattle.std.proofs.lemmas.Bool.{cases_eq, eq-eqb, eqb-true}
use Rattle.std.proofs.lemmas.List.Elements.{All-cons, All-from_recursion, All-nil, All-tail, recursion_from_All}
use Rattle.std.proofs.lemmas.List.Sorted.{All-permutation, IsPermutation-sym, IsPermutation-to_front}
use Rattle.std.proofs.lemmas.Map.Keys.{IsDistinct-IsPermutation, IsDistinct-cons, IsDistinct-head, IsDistinct-tail}
use Rattle.std.specs.List.{IsDistinct}
use Rattle.std.specs.Prelude.{◌&&◌, nat_eq, slice_index_or}
use Rattle.std.specs.List.Sorted.{IsPermutation}
use Rattle.ng_class.specs.Class as class
use Rattle.ng_class.specs.Class.{units_of}
use Rattle.ng_space.specs.Callers.{Caller}
use Rattle.ng_space.specs.Leaving.{KeepsBook, KeepsSlots}
use Rattle.ng_space.specs.Tokens.{HasSlot, LiesAt, Token}
use Rattle.ng_view.specs.declared.view.Place.{Place}
use Rattle.ng_group.specs.Hands.{IsApart}
use Rattle.ng_group.specs.Tests.{HasAll, is_same_slot}

-- ---- tokens of different slots
pub apart_flips : (token other : Token) → IsApart token other → IsApart other token
apart_flips token other apart = ⊎_elim
    (λ (meta : token.meta ≢ other.meta). inl (λ e. meta (sym e)))
    (λ (index : token.index ≢ other.index). inr (λ e. index (sym e)))
    apart

-- ---- a slot that the hand had, where its slots stay
pub slot_stays : (hand new : Caller) → KeepsBook hand new → KeepsSlots hand.view new.view → (token : Token) → HasSlot hand token → HasSlot new token
slot_stays hand new book slots token has =
    let k = slots token.meta token.index has.held has.found in record {
      own = has.own ∙ sym book.number;
      held = k.0;
      found = k.1;
      free = k.2.block ∙ has.free;
      place = subst (λ (p : Place). LiesAt p token) (sym k.2.place) has.place;
    }

-- class 1 has room for 20 bytes
pub class_1_fits : 24 ≤ 16 * units_of 1
unfolding class.unit_table
class_1_fits = omega arith

-- ---- tokens of one slot
other_number : (a b : ℕ) → a ≢ b → nat_eq a b ≡ false
other_number a b differ = by_test (nat_eq a b) refl
  where
    by_test : (t : Bool) → nat_eq a b ≡ t → nat_eq a b ≡ false
    by_test true e = absurd (differ (eqb-true a b e))
    by_test false e = e

not_same : (token other : Token) → IsApart other token → is_same_slot token other ≡ false
not_same token other apart = ⊎_elim
    (λ (meta : other.meta ≢ token.meta). ap (λ (t : Bool). t && nat_eq token.index other.index) (other_number token.meta other.meta (λ e. meta (sym e))))
    (λ (index : other.index ≢ token.index).
    ap (λ (t : Bool). nat_eq token.meta other.meta && t) (other_number token.index other.index (λ e. index (sym e))) ∙ and-false (nat_eq token.meta other.meta))
    apart

from_not_same : (token other : Token) → is_same_slot token other ≡ false → IsApart other token
from_not_same token other differ = ⊎_elim
    (λ (meta : other.meta ≡ token.meta). ⊎_elim
    (λ (index : other.index ≡ token.index). absurd (true≢false (sym (both meta index) ∙ differ)))
    inr
    (cases_eq other.index token.index))
    inl
    (cases_eq other.meta token.meta)
  where
    both : other.meta ≡ token.meta → other.index ≡ token.index → is_same_slot token other ≡ true
    both meta index k = eq-eqb token.meta other.meta (sym meta) k && eq-eqb token.index other.index (sym index) k

-- ---- the slots of a hand in another order
turned : (a b : ℕ) → nat_eq a b ≡ nat_eq b a
turned a b = ⊎_elim
    (λ (same : a ≡ b). eq-eqb a b same ∙ sym (eq-eqb b a (sym same)))
    (λ (differ : a ≢ b). other_number a b differ ∙ sym (other_number b a (λ e. differ (sym e))))
    (cases_eq a b)

flips : (token other : Token) → is_same_slot token other ≡ is_same_slot other token
flips token other k = turned token.meta other.meta k && turned token.index other.index k

permuted : (hand : Caller) (tokens others : List Token) → IsPermutation tokens others → HasAll hand tokens → HasAll hand others
permuted hand tokens others moves has = record {
  each = All-permutation (HasSlot hand) tokens others moves has.each;
  apart = IsDistinct-IsPermutation is_same_slot flips tokens others moves has.apart;
}

-- ---- no slot
distinct_none : IsDistinct is_same_slot []
unfolding IsDistinct
distinct_none = tt

pub has_none : (hand : Caller) (tokens : List Token) → tokens ≡ [] → HasAll hand tokens
has_none hand tokens none = subst (HasAll hand) (sym none) (record { each = All-nil (HasSlot hand); apart = distinct_none })

-- ---- a slot comes
came_first : (hand new : Caller) (slot : Token) (tokens : List Token) → ((token : Token) → HasSlot hand token → HasSlot new token)
    → HasSlot new slot → ((token : Token) → HasSlot hand token → IsApart token slot) → HasAll hand tokens → HasAll new (slot ∷ tokens)
came_first hand new slot tokens others came apart has = record {
  each = All-cons (HasSlot new) slot tokens came (λ k d within. others (slice_index_or tokens k d) (has.each k d within));
  apart = IsDistinct-cons is_same_slot slot tokens
      (recursion_from_All (λ (other : Token). is_same_slot slot other ≡ false) tokens (λ k d within. let other : Token = slice_index_or tokens k d in not_same slot other (apart other (has.each k d within))))
      has.apart;
}

pub came_last : (hand new : Caller) (slot : Token) (tokens : List Token) → ((token : Token) → HasSlot hand token → HasSlot new token)
    → HasSlot new slot → ((token : Token) → HasSlot hand token → IsApart token slot) → HasAll hand tokens → HasAll new (tokens ++ slot ∷ [])
came_last hand new slot tokens others came apart has =
    permuted new (slot ∷ tokens) (tokens ++ slot ∷ []) (IsPermutation-sym _ _ (IsPermutation-to_front tokens slot)) (came_first hand new slot tokens others came apart has)

-- ---- a slot goes
pub went_one : (hand new : Caller) (slot : Token) (tokens rest : List Token) → IsPermutation tokens (slot ∷ rest)
    → ((token : Token) → HasSlot hand token → IsApart token slot → HasSlot new token) → HasAll hand tokens → HasAll new rest
went_one hand new slot tokens rest moves others has =
    let all = permuted hand tokens (slot ∷ rest) moves has in
    let apart = All-from_recursion (λ (other : Token). is_same_slot slot other ≡ false) rest (IsDistinct-head is_same_slot slot rest all.apart) in
    record {
      each = λ k d within. let other : Token = slice_index_or rest k d in others other (All-tail (HasSlot hand) slot rest all.each k d within) (from_not_same slot other (apart k d within));
      apart = IsDistinct-tail is_same_slot slot rest all.apart;
    }
