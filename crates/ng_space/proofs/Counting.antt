-- The hands of heaps that were opened for one caller or two.
use Rattle.std.proofs.Common.{◌≡◌, ℕ, List, [], ◌∷◌, set, sym, ap, ◌∙◌, subst, inl, inr, ⊎_elim, refl, arith}
use Rattle.std.proofs.lemmas.Bool.{cases_eq}
use Rattle.ng_space.specs.Callers.{Caller}
use Rattle.ng_space.specs.Closings.{AreAll}

pub all_of_one : (count : ℕ) (hands was : List Caller) (old new : Caller) → count ≡ 1 → was ≡ old ∷ [] → hands ≡ set was 0 new → new.number ≡ 1 → AreAll count hands
all_of_one count hands was old new many one is number = subst (AreAll count) (sym (is ∙ ap (λ hs. set hs 0 new) one)) (record {
  many = sym many;
  each = λ k some_hand below. (new, inl refl, number ∙ (let n = many in let e : 1 ≡ k = omega arith in e));
})

pub all_of_two : (count : ℕ) (hands : List Caller) (first second : Caller) → count ≡ 2 → hands ≡ first ∷ second ∷ [] → first.number ≡ 1 → second.number ≡ 2 → AreAll count hands
all_of_two count hands first second many are one two = subst (AreAll count) (sym are) (record {
  many = sym many;
  each = λ k some_hand below. ⊎_elim
      (λ (e : k ≡ 1). (first, inl refl, one ∙ sym e))
      (λ (ne : k ≡ 1 → ⊥). (second, inr (inl refl), two ∙ (let n = many in let e : 2 ≡ k = omega (arith, ne) in e)))
      (cases_eq k 1);
})
