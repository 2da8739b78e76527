-- An entry, with the block that comes or goes with it.
use Rattle.std.proofs.Common.{◌≡◌, ◌≢◌, ◌⊎◌, ℕ, suc, ◌+◌, ◌≤◌, eqb, eq-eqb, cond, Bool, true, false, true≢false, List, [], ◌∷◌, ◌++◌, length, set, refl, sym, ap, ◌∙◌, subst, ⊎_elim, inl, inr, arith}
use mathlib.Core.Option.{some}
use lib.ListN.{get_elem?}
use Rattle.std.proofs.lemmas.Bool.Decides.{nat_tests}
use Rattle.ng_terms.specs.declared.entry.Extent.{Extent}
use Rattle.ng_view.specs.declared.view.Book.{Book}
use Rattle.ng_terms.specs.declared.entry.Entry.{Entry}
use Rattle.ng_terms.specs.declared.entry.Entry.TheVariants.{Give, Take, Resize, NoMemory, TooLarge, BadAlign, Refused}
use Rattle.ng_view.specs.declared.view.View.{View}
use Rattle.ng_view.specs.declared.view.Start.{Start}
use Rattle.ng_view.specs.Lists.{Among, total_by, count_of, times}
use Rattle.ng_view.specs.History.{History, space_between}
use Rattle.ng_view.specs.Hands.{Hands}
use Rattle.ng_view.specs.Views.{excuse_of, booked, numbered, blocks, same_extent}
use Rattle.ng_view.specs.Steps.{write}
use Rattle.ng_rule.proofs.geometry.Lists.{total_by-set, total_by-two, total_by-one, total_by-append, total_by-among, each_set}
use Rattle.ng_terms.proofs.HistoryLemmas.{state_after-push, IsLegal-push}
use Rattle.ng_terms.specs.Heap.{State, after, empty, IsLegalStep}
use Rattle.ng_terms.specs.Histories.{book_of, state_after}
use Rattle.ng_rule.proofs.entry.Histories.{entries_here, entries_else}
use Rattle.ng_rule.proofs.geometry.Parts.{total_by-keep}

-- ---- the book
abbrev number_is : ℕ → Book → ℕ
number_is k b = count_of (eqb b.number k)

abbrev longer : Entry → Book → Book
longer e b = record b { entries = b.entries ++ e ∷ [] }

pub total_by-write : (g : Book → ℕ) (k : ℕ) (e : Entry) (bs : List Book) (x : ℕ) → ((b : Book) → g (longer e b) ≡ g b + x) → total_by (number_is k) bs ≡ 1 → total_by g (write k e bs) ≡ total_by g bs + x
total_by-write g k e [] x h one = absurd (omega arith)
total_by-write g k e (b ∷ bs) x h one = by_test (total_by-write g k e bs x h) (eqb b.number k) one
  where
    by_test : (total_by (number_is k) bs ≡ 1 → total_by g (write k e bs) ≡ total_by g bs + x) → (t : Bool) → count_of t + total_by (number_is k) bs ≡ 1 → total_by g (cond t (longer e b ∷ bs) (b ∷ write k e bs)) ≡ (g b + total_by g bs) + x
    by_test ih true o = let q = h b in omega arith
    by_test ih false o = let r = ih (omega arith) in omega arith

pub length-write : (k : ℕ) (e : Entry) (bs : List Book) → length (write k e bs) ≡ length bs
length-write k e [] = refl
length-write k e (b ∷ bs) = by_test (length-write k e bs) (eqb b.number k)
  where
    by_test : length (write k e bs) ≡ length bs → (t : Bool) → length (cond t (longer e b ∷ bs) (b ∷ write k e bs)) ≡ suc (length bs)
    by_test ih true = refl
    by_test ih false = ap suc ih

no_number : (k : ℕ) (bs : List Book) (b : Book) → total_by (number_is k) bs ≤ 0 → Among b bs → b.number ≢ k
no_number k bs b z s e = let w = total_by-among (number_is k) bs b s in let o : count_of (eqb b.number k) ≡ 1 = ap count_of (eq-eqb b.number k e) in omega arith

among_write : (k : ℕ) (e : Entry) (bs : List Book) (b : Book) → total_by (number_is k) bs ≡ 1 → Among b (write k e bs) → (Among b bs × (b.number ≢ k)) ⊎ ((c : Book) × Among c bs × (c.number ≡ k) × (b ≡ longer e c))
among_write k e [] b one s = elim s [ ]
among_write k e (c ∷ bs) b one s = by_test (among_write k e bs b) (eqb c.number k) refl one s
  where
    tested : (n k : ℕ) → eqb n k ≡ true → n ≡ k
    tested n k e = grind (arith, nat_tests)

    by_test : (total_by (number_is k) bs ≡ 1 → Among b (write k e bs) → (Among b bs × (b.number ≢ k)) ⊎ ((c : Book) × Among c bs × (c.number ≡ k) × (b ≡ longer e c))) → (t : Bool) → eqb c.number k ≡ t → count_of t + total_by (number_is k) bs ≡ 1
        → Among b (cond t (longer e c ∷ bs) (c ∷ write k e bs)) → (Among b (c ∷ bs) × (b.number ≢ k)) ⊎ ((d : Book) × Among d (c ∷ bs) × (d.number ≡ k) × (b ≡ longer e d))
    by_test ih true is o (inl q) = inr (c, inl refl, tested c.number k is, q)
    by_test ih true is o (inr s) = inl (inr s, no_number k bs b (omega arith) s)
    by_test ih false is o (inl q) = inl (inl q, λ n. true≢false (sym (eq-eqb c.number k (sym (ap (λ (x : Book). x.number) q) ∙ n)) ∙ is))
    by_test ih false is o (inr s) = ⊎_elim (λ p. inl (inr p.0, p.1)) (λ p. inr (p.0, inr p.1, p.2, p.3)) (ih (omega arith) s)

-- ---- the used excuses after an entry
used_after : (x : ℕ) (h : State) (e : Entry) → times x (after h e).used ≡ times x h.used + excuse_of x e
used_after x h (Give n a p) = omega arith
used_after x h (Take p) = omega arith
used_after x h (Resize p n) = omega arith
used_after x h (NoMemory n y) = omega arith
used_after x h (TooLarge c s a) = omega arith
used_after x h (BadAlign a) = omega arith
used_after x h (Refused p k) = omega arith

-- ---- History, one entry longer
pub history_by : (key : Start) (vs : List View) (id : ℕ) (v w : View) (k : ℕ) (e : Entry) → get_elem? vs id ≡ some v → Hands vs → numbered k v ≡ 1 → w.books ≡ write k e v.books → (x : History key vs) → IsLegalStep (space_between key) (state_after empty x.calls) e
    → ((b : Extent) → total_by (λ c. count_of (same_extent c b)) (after (state_after empty x.calls) e).live + blocks b v ≡ total_by (λ c. count_of (same_extent c b)) (state_after empty x.calls).live + blocks b w)
    → History key (set vs id w)
history_by key vs id v w k e at hands one books x legal step = record {
  calls = x.calls ++ (k, e) ∷ [];
  legal = IsLegal-push (space_between key) x.calls (k, e) x.legal legal;
  books = each_set (λ u. Unit {0}) (λ u. (b : Book) → Among b u.books → book_of b.number (x.calls ++ (k, e) ∷ []) ≡ b.entries) vs id w
      (λ j u n f b s. entries_else b.number k x.calls e (λ q. two j u n f b s (sym q)) ∙ x.books j u f b s)
      (λ b s. mine b (among_write k e v.books b one (subst (λ (l : List Book). Among b l) books s)));
  others = λ n z. entries_else n k x.calls e (λ q. (let a = numbers n in let b = x.others n in let o = total_by-one (numbered k) vs id v at in let z' : total_by (numbered k) (set vs id w) ≡ 0 = ap (λ i. total_by (numbered i) (set vs id w)) q ∙ z in let c = numbers k in omega arith)) ∙ x.others n (sym (numbers n) ∙ z);
  live = λ b. ap (λ (h : State). total_by (λ c. count_of (same_extent c b)) h.live) (state_after-push empty x.calls (k, e)) ∙ (let s = step b in let l = x.live b in let t = total_by-set (blocks b) vs id v w at in omega arith);
  used = λ n. ap (λ (h : State). times n h.used) (state_after-push empty x.calls (k, e)) ∙ (let u = used_after n (state_after empty x.calls) e in let l = x.used n in let t = total_by-set (booked n) vs id v w at in let q = booked_more n in omega arith);
}
  where
    numbered_same : (n : ℕ) → numbered n w ≡ numbered n v
    numbered_same n = ap (total_by (number_is n)) books ∙ (let a = total_by-write (number_is n) k e v.books 0 (λ b. omega arith) one in omega arith)

    numbers : (n : ℕ) → total_by (numbered n) (set vs id w) ≡ total_by (numbered n) vs
    numbers n = total_by-keep (numbered n) vs id v w at (numbered_same n)

    booked_more : (n : ℕ) → booked n w ≡ booked n v + excuse_of n e
    booked_more n = ap (total_by (λ (b : Book). total_by (excuse_of n) b.entries)) books
        ∙ total_by-write (λ (b : Book). total_by (excuse_of n) b.entries) k e v.books (excuse_of n e) (λ b. let a = total_by-append (excuse_of n) b.entries (e ∷ []) in omega arith) one

    two : (j : ℕ) (u : View) → j ≢ id → get_elem? vs j ≡ some u → (b : Book) → Among b u.books → b.number ≡ k → ⊥
    two j u n f b s q = let a = total_by-two (numbered k) vs id j v u n at f in let o = hands.once k in let m = total_by-among (number_is k) u.books b s in let t : count_of (eqb b.number k) ≡ 1 = ap count_of (eq-eqb b.number k q) in omega arith

    mine : (b : Book) → (Among b v.books × (b.number ≢ k)) ⊎ ((c : Book) × Among c v.books × (c.number ≡ k) × (b ≡ longer e c)) → book_of b.number (x.calls ++ (k, e) ∷ []) ≡ b.entries
    mine b (inl p) = entries_else b.number k x.calls e (λ q. p.1 (sym q)) ∙ x.books id v at b p.0
    mine b (inr p) = subst (λ (y : Book). book_of y.number (x.calls ++ (k, e) ∷ []) ≡ y.entries) (sym p.3)
        (subst (λ n. book_of p.0.number (x.calls ++ (n, e) ∷ []) ≡ p.0.entries ++ e ∷ []) p.2 (entries_here p.0.number x.calls e ∙ ap (λ l. l ++ e ∷ []) (x.books id v at p.0 p.1)))
