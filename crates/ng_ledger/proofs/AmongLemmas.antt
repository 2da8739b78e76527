-- What is among the elements of a list, and among those but a number.
use Rattle.std.proofs.Common.{◌≡◌, ◌≢◌, ◌⊎◌, ℕ, eqb, cond, Bool, true, false, List, [], ◌∷◌, ◌++◌, refl, sym, ◌∙◌, ⊎_elim, inl, inr}
use Rattle.std.proofs.lemmas.Bool.{cases_eq, eqb-true, eqb-false}
use Rattle.ng_view.specs.Lists.{Among}
use Rattle.ng_view.specs.LockSteps.{others}

module _ {A : Type 0} where
  -- what is among a part is among the whole
  pub among_front : (xs ys : List A) (x : A) → Among x xs → Among x (xs ++ ys)
  among_front [] ys x there = elim there [ ]
  among_front (y ∷ xs) ys x (inl same) = inl same
  among_front (y ∷ xs) ys x (inr there) = inr (among_front xs ys x there)

  pub among_back : (xs ys : List A) (x : A) → Among x ys → Among x (xs ++ ys)
  among_back [] ys x there = there
  among_back (y ∷ xs) ys x there = inr (among_back xs ys x there)

  -- what is among the whole is among a part
  pub among_parts : (xs ys : List A) (x : A) → Among x (xs ++ ys) → Among x xs ⊎ Among x ys
  among_parts [] ys x there = inr there
  among_parts (y ∷ xs) ys x (inl same) = inl (inl same)
  among_parts (y ∷ xs) ys x (inr there) = ⊎_elim (λ left. inl (inr left)) (λ right. inr right) (among_parts xs ys x there)

-- a number that isn't taken out stays
pub among_others : (m : ℕ) (ns : List ℕ) (n : ℕ) → n ≢ m → Among n ns → Among n (others m ns)
among_others m [] n apart there = elim there [ ]
among_others m (x ∷ xs) n apart there = by_test (among_others m xs n apart) (eqb x m) refl there
  where
    by_test : (Among n xs → Among n (others m xs)) → (b : Bool) → eqb x m ≡ b → Among n (x ∷ xs) → Among n (cond b (others m xs) (x ∷ others m xs))
    by_test rest true is (inl same) = absurd (apart (same ∙ eqb-true x m is))
    by_test rest true is (inr there) = rest there
    by_test rest false is (inl same) = inl same
    by_test rest false is (inr there) = inr (rest there)

-- what is left was there, and isn't the number that was taken out
pub others_were : (m : ℕ) (ns : List ℕ) (n : ℕ) → Among n (others m ns) → Among n ns × (n ≢ m)
others_were m [] n there = elim there [ ]
others_were m (x ∷ xs) n there = by_test (others_were m xs n) (eqb x m) refl there
  where
    by_test : (Among n (others m xs) → Among n xs × (n ≢ m)) → (b : Bool) → eqb x m ≡ b → Among n (cond b (others m xs) (x ∷ others m xs)) → Among n (x ∷ xs) × (n ≢ m)
    by_test rest true is there = let left = rest there in (inr left.0, left.1)
    by_test rest false is (inl same) = (inl same, λ out. eqb-false x m is (sym same ∙ out))
    by_test rest false is (inr there) = let left = rest there in (inr left.0, left.1)

-- a number is among these or isn't
pub cases_among : (n : ℕ) (ns : List ℕ) → Among n ns ⊎ (Among n ns → ⊥)
cases_among n [] = inr (λ there. elim there [ ])
cases_among n (x ∷ xs) = ⊎_elim
    (λ (same : n ≡ x). inl (inl same))
    (λ (other : n ≢ x). ⊎_elim (λ (there : Among n xs). inl (inr there)) (λ (none : Among n xs → ⊥). inr (λ there. ⊎_elim other none there)) (cases_among n xs))
    (cases_eq n x)
