-- What the lock's seat knows of its cells after each step.
use Rattle.std.proofs.Common.{◌≡◌, ◌≢◌, ◌⊎◌, ℕ, zero, suc, ◌+◌, ◌*◌, ◌<◌, ◌≤◌, ◌%◌, ◌&&◌, eqb, leb, cond, Bool, true, false, List, [], ◌∷◌, ◌++◌, refl, sym, ap, ◌∙◌, subst, ⊎_elim, inl, inr, arith}
use Rattle.std.proofs.lemmas.Bool.{cases_eq, cases_lt}
use Rattle.std.proofs.lemmas.Bool.Decides.{nat_tests}
use Rattle.ng_view.specs.Conditions.{Sees}
use Rattle.ng_view.specs.LockSteps.{blank_cells, built, cells_off, run_noted}
use Rattle.ng_view.specs.Lists.{Among}
use Rattle.ng_view.specs.Steps.{forget}
use Rattle.ng_view.specs.declared.view.View.{View}

-- what is known of other cells is not forgotten
pub still_known : (a b y : ℕ) (cs : List (ℕ × ℕ)) → b ≢ a → Among {A = ℕ × ℕ} (b, y) cs → Among {A = ℕ × ℕ} (b, y) (forget a cs)
still_known a b y [] ne s = elim s [ ]
still_known a b y (c ∷ cs) ne s = by_test (still_known a b y cs ne) (eqb c.0 a) refl s
  where
    tested : (n k : ℕ) → eqb n k ≡ true → n ≡ k
    tested n k e = grind (arith, nat_tests)

    by_test : (Among {A = ℕ × ℕ} (b, y) cs → Among {A = ℕ × ℕ} (b, y) (forget a cs)) → (t : Bool) → eqb c.0 a ≡ t → Among {A = ℕ × ℕ} (b, y) (c ∷ cs) → Among {A = ℕ × ℕ} (b, y) (cond t (forget a cs) (c ∷ forget a cs))
    by_test ih true is (inl e) = absurd (ne (ap (λ (p : ℕ × ℕ). p.0) e ∙ tested c.0 a is))
    by_test ih true is (inr t) = ih t
    by_test ih false is (inl e) = inl e
    by_test ih false is (inr t) = inr (ih t)

-- a store in a cell that the seat builds
pub sees-built : (v w : View) (a x : ℕ) → w ≡ built v a x → Sees w a x
sees-built v w a x e = subst (λ (u : View). Sees u a x) (sym e) (inl refl)

pub sees-built_else : (v w : View) (a x b y : ℕ) → w ≡ built v a x → b ≢ a → Sees v b y → Sees w b y
sees-built_else v w a x b y e ne s = subst (λ (u : View). Sees u b y) (sym e) (inr (still_known a b y v.desk.cells ne s))

-- n cells from a on
blank : (a n b : ℕ) → b % 4 ≡ 0 → a % 4 ≡ 0 → a ≤ b → b < a + 4 * n → Among {A = ℕ × ℕ} (b, 0) (blank_cells a n)
blank a zero b al whole low high = absurd (omega arith)
blank a (suc n) b al whole low high = ⊎_elim
    (λ (e : b ≡ a + 4 * n). inl (ap (λ (k : ℕ). (k, 0)) e))
    (λ (ne : b ≡ a + 4 * n → ⊥). inr (blank a n b al whole low (⊎_elim (λ (l : b < a + 4 * n). l) (λ (l : a + 4 * n ≤ b). absurd (ne (omega arith))) (cases_lt b (a + 4 * n)))))
    (cases_eq b (a + 4 * n))

behind : {A : Type 0} (xs ys : List A) (x : A) → Among x ys → Among x (xs ++ ys)
behind [] ys x s = s
behind (y ∷ xs) ys x s = inr (behind xs ys x s)

before : {A : Type 0} (xs ys : List A) (x : A) → Among x xs → Among x (xs ++ ys)
before [] ys x s = elim s [ ]
before (y ∷ xs) ys x (inl e) = inl e
before (y ∷ xs) ys x (inr s) = inr (before xs ys x s)

-- the cells of a run that came
pub sees-run : (v : View) (a pages b : ℕ) → b % 4 ≡ 0 → a % 4 ≡ 0 → a ≤ b → b < a + 4096 * pages → Sees (run_noted v a pages) b 0
sees-run v a pages b al whole low high = before (blank_cells a (1024 * pages)) v.desk.cells (b, 0) (blank a (1024 * pages) b al whole low (omega arith))

pub sees-run_else : (v : View) (a pages b y : ℕ) → Sees v b y → Sees (run_noted v a pages) b y
sees-run_else v a pages b y s = behind (blank_cells a (1024 * pages)) v.desk.cells (b, y) s

-- cells outside a range that goes
pub off_else : (a b c y : ℕ) (cs : List (ℕ × ℕ)) → (c < a) ⊎ (b ≤ c) → Among {A = ℕ × ℕ} (c, y) cs → Among {A = ℕ × ℕ} (c, y) (cells_off a b cs)
off_else a b c y [] out s = elim s [ ]
off_else a b c y (x ∷ xs) out s = by_test (off_else a b c y xs out) (leb a x.0 && leb (x.0 + 1) b) refl s
  where
    within : (n : ℕ) → (leb a n && leb (n + 1) b) ≡ true → (n < a) ⊎ (b ≤ n) → ⊥
    within n e (inl l) = grind (arith, nat_tests)
    within n e (inr l) = grind (arith, nat_tests)

    by_test : (Among {A = ℕ × ℕ} (c, y) xs → Among {A = ℕ × ℕ} (c, y) (cells_off a b xs)) → (t : Bool) → (leb a x.0 && leb (x.0 + 1) b) ≡ t → Among {A = ℕ × ℕ} (c, y) (x ∷ xs)
        → Among {A = ℕ × ℕ} (c, y) (cond t (cells_off a b xs) (x ∷ cells_off a b xs))
    by_test ih true is (inl e) = absurd (within x.0 is (subst (λ n. (n < a) ⊎ (b ≤ n)) (ap (λ (p : ℕ × ℕ). p.0) e) out))
    by_test ih true is (inr t) = ih t
    by_test ih false is (inl e) = inl e
    by_test ih false is (inr t) = inr (ih t)
