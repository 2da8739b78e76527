-- Histories, one entry longer, and their live lists by counting.
use Rattle.std.proofs.Common.{◌≡◌, ◌≢◌, ℕ, zero, suc, ◌+◌, ◌<◌, ◌≤◌, eqb, ne_eqb, eq-eqb, ◌&&◌, cond, Bool, true, false, true≢false, List, [], ◌∷◌, ◌++◌, refl, sym, ap, ◌∙◌, ⊎_elim, inl, inr, arith}
use Rattle.std.specs.Prelude.{Contains, map, not}
use Rattle.std.proofs.lemmas.Bool.{cases_eq}
use Rattle.std.proofs.lemmas.Bool.Decides.{nat_tests}
use Rattle.std.proofs.lemmas.List.Elements.{Contains-append_right}
use Rattle.std.proofs.lemmas.List.{append-nil}
use Rattle.ng_terms.specs.declared.entry.Extent.{Extent}
use Rattle.ng_terms.specs.declared.entry.Entry.{Entry}
use Rattle.ng_terms.specs.declared.entry.Entry.TheVariants.{Give, Take, Resize, NoMemory, TooLarge, BadAlign, Refused}
use Rattle.ng_terms.specs.Heap.{Space, State, extent, end_of, after, empty, without, resized, IsLegalStep}
use Rattle.ng_terms.specs.Histories.{Event, IsLegal, IsLegalFrom, book_of, state_after}
use Rattle.ng_terms.proofs.HistoryLemmas.{book_of-append, book_of-one}
use Rattle.ng_terms.proofs.LiveLemmas.{Contains-cons_cases}
use Rattle.ng_view.specs.Lists.{Among, total_by, count_of}
use Rattle.ng_view.specs.Views.{same_extent}

-- what a list contains is among its elements
pub contains-among : (bs : List Extent) (b : Extent) → Contains bs b → Among b bs
contains-among [] b (k, below, is) = absurd (omega arith)
contains-among (c ∷ bs) b s = ⊎_elim (λ (e : c ≡ b). inl (sym e)) (λ (t : Contains bs b). inr (contains-among bs b t)) (Contains-cons_cases c bs b s)

pub among-contains : (bs : List Extent) (b : Extent) → Among b bs → Contains bs b
among-contains [] b s = elim s [ ]
among-contains (c ∷ bs) b (inl e) = (0, omega arith, sym e)
among-contains (c ∷ bs) b (inr s) = Contains-append_right (c ∷ []) bs b (among-contains bs b s)

pub contains-number : (ns : List ℕ) (n : ℕ) → Contains ns n → Among n ns
contains-number [] n (k, below, is) = absurd (omega arith)
contains-number (m ∷ ns) n (zero, below, is) = inl (sym is)
contains-number (m ∷ ns) n (suc k, below, is) = inr (contains-number ns n (k, omega arith, is))

-- ---- books
pub entries_here : (k : ℕ) (es : List Event) (e : Entry) → book_of k (es ++ (k, e) ∷ []) ≡ book_of k es ++ e ∷ []
entries_here k es e = book_of-append k es ((k, e) ∷ []) ∙ ap (λ l. book_of k es ++ l) (book_of-one k (e ∷ []))

pub entries_else : (k n : ℕ) (es : List Event) (e : Entry) → n ≢ k → book_of k (es ++ (n, e) ∷ []) ≡ book_of k es
entries_else k n es e ne = book_of-append k es ((n, e) ∷ []) ∙ ap (λ b. book_of k es ++ map (λ (v : Event). v.1) (cond b ((n, e) ∷ []) [])) (ne_eqb n k ne) ∙ append-nil (book_of k es)

-- ---- extents
pub same_extent-true : (b c : Extent) → same_extent b c ≡ true → b ≡ c
same_extent-true b c e = λ i. record { at = p.0 i; len = p.1 i; align = p.2 i }
  where
    p : (b.at ≡ c.at) × (b.len ≡ c.len) × (b.align ≡ c.align)
    p = numbers b.at c.at b.len c.len b.align c.align e
      where
        numbers : (a a' l l' g g' : ℕ) → (eqb a a' && (eqb l l' && eqb g g')) ≡ true → (a ≡ a') × (l ≡ l') × (g ≡ g')
        numbers a a' l l' g g' e = grind (arith, nat_tests)

pub same_extent-self : (b : Extent) → same_extent b b ≡ true
same_extent-self b = numbers b.at b.len b.align
  where
    numbers : (a l g : ℕ) → (eqb a a && (eqb l l && eqb g g)) ≡ true
    numbers a l g = grind (arith, nat_tests)

-- what counts among the live blocks is one of them
pub counted : (b : Extent) (bs : List Extent) → 0 < total_by (λ (c : Extent). count_of (same_extent c b)) bs → Among b bs
counted b [] h = absurd (omega arith)
counted b (c ∷ bs) h = by_test (counted b bs) (same_extent c b) refl h
  where
    by_test : (0 < total_by (λ (c : Extent). count_of (same_extent c b)) bs → Among b bs) → (t : Bool) → same_extent c b ≡ t → 0 < count_of t + total_by (λ (c : Extent). count_of (same_extent c b)) bs → Among b (c ∷ bs)
    by_test ih true is h = inl (sym (same_extent-true c b is))
    by_test ih false is h = inr (ih (omega arith))

pub among_counts : (b : Extent) (bs : List Extent) → Among b bs → 0 < total_by (λ (c : Extent). count_of (same_extent c b)) bs
among_counts b [] s = elim s [ ]
among_counts b (c ∷ bs) (inl e) = let q : count_of (same_extent c b) ≡ 1 = ap (λ x. count_of (same_extent x b)) (sym e) ∙ ap count_of (same_extent-self b) in omega arith
among_counts b (c ∷ bs) (inr s) = let h = among_counts b bs s in omega arith

-- ---- how many live blocks an address has
abbrev pub blocks_at : ℕ → List Extent → ℕ
blocks_at p bs = total_by (λ (c : Extent). count_of (eqb c.at p)) bs

tested : (n k : ℕ) → eqb n k ≡ true → n ≡ k
tested n k e = grind (arith, nat_tests)

blocks_at-one : (b : Extent) (bs : List Extent) → Among b bs → 1 ≤ blocks_at b.at bs
blocks_at-one b [] s = elim s [ ]
blocks_at-one b (c ∷ bs) (inl e) = let q : count_of (eqb c.at b.at) ≡ 1 = ap count_of (eq-eqb c.at b.at (ap (λ (x : Extent). x.at) (sym e))) in omega arith
blocks_at-one b (c ∷ bs) (inr s) = let h = blocks_at-one b bs s in omega arith

some_at : (p : ℕ) (bs : List Extent) → 0 < blocks_at p bs → (c : Extent) × Among c bs × (c.at ≡ p)
some_at p [] h = absurd (omega arith)
some_at p (c ∷ bs) h = by_test (some_at p bs) (eqb c.at p) refl h
  where
    by_test : (0 < blocks_at p bs → (c : Extent) × Among c bs × (c.at ≡ p)) → (t : Bool) → eqb c.at p ≡ t → 0 < count_of t + blocks_at p bs → (b : Extent) × Among b (c ∷ bs) × (b.at ≡ p)
    by_test ih true is h = (c, inl refl, tested c.at p is)
    by_test ih false is h = let r = ih (omega arith) in (r.0, inr r.1, r.2)

without-fewer : (g : Extent → ℕ) (p : ℕ) (bs : List Extent) → total_by g (without p bs) ≤ total_by g bs
without-fewer g p [] = omega arith
without-fewer g p (c ∷ bs) = by_test (without-fewer g p bs) (eqb c.at p)
  where
    by_test : total_by g (without p bs) ≤ total_by g bs → (t : Bool) → total_by g (cond (not t) (c ∷ without p bs) (without p bs)) ≤ g c + total_by g bs
    by_test ih true = omega arith
    by_test ih false = omega arith

without-none : (g : Extent → ℕ) (p : ℕ) (bs : List Extent) → blocks_at p bs ≡ 0 → total_by g (without p bs) ≡ total_by g bs
without-none g p [] z = refl
without-none g p (c ∷ bs) z = by_test (without-none g p bs) (eqb c.at p) z
  where
    by_test : (blocks_at p bs ≡ 0 → total_by g (without p bs) ≡ total_by g bs) → (t : Bool) → count_of t + blocks_at p bs ≡ 0 → total_by g (cond (not t) (c ∷ without p bs) (without p bs)) ≡ g c + total_by g bs
    by_test ih true z = absurd (omega arith)
    by_test ih false z = let r = ih (omega arith) in omega arith

-- without the one block at an address
pub without-counts : (g : Extent → ℕ) (b : Extent) (bs : List Extent) → Among b bs → blocks_at b.at bs ≤ 1 → total_by g (without b.at bs) + g b ≡ total_by g bs
without-counts g b [] s one = elim s [ ]
without-counts g b (c ∷ bs) s one = by_test (without-counts g b bs) (eqb c.at b.at) refl s one
  where
    by_test : (Among b bs → blocks_at b.at bs ≤ 1 → total_by g (without b.at bs) + g b ≡ total_by g bs) → (t : Bool) → eqb c.at b.at ≡ t → Among b (c ∷ bs) → count_of t + blocks_at b.at bs ≤ 1
        → total_by g (cond (not t) (c ∷ without b.at bs) (without b.at bs)) + g b ≡ g c + total_by g bs
    by_test ih true is (inl e) one = let q : g b ≡ g c = ap g e in let r = without-none g b.at bs (omega arith) in omega arith
    by_test ih true is (inr s) one = absurd (let o = blocks_at-one b bs s in omega arith)
    by_test ih false is (inl e) one = absurd (true≢false (sym (eq-eqb c.at b.at (ap (λ (x : Extent). x.at) (sym e))) ∙ is))
    by_test ih false is (inr s) one = let r = ih s (omega arith) in omega arith

resized-none : (g : Extent → ℕ) (p n : ℕ) (bs : List Extent) → blocks_at p bs ≡ 0 → total_by g (resized p n bs) ≡ total_by g bs
resized-none g p n [] z = refl
resized-none g p n (c ∷ bs) z = by_test (resized-none g p n bs) (eqb c.at p) z
  where
    by_test : (blocks_at p bs ≡ 0 → total_by g (resized p n bs) ≡ total_by g bs) → (t : Bool) → count_of t + blocks_at p bs ≡ 0 → g (cond t (extent p n 16) c) + total_by g (resized p n bs) ≡ g c + total_by g bs
    by_test ih true z = absurd (omega arith)
    by_test ih false z = let r = ih (omega arith) in omega arith

-- with another length for the one block at an address
pub resized-counts : (g : Extent → ℕ) (n : ℕ) (b : Extent) (bs : List Extent) → Among b bs → blocks_at b.at bs ≤ 1 → total_by g (resized b.at n bs) + g b ≡ total_by g bs + g (extent b.at n 16)
resized-counts g n b [] s one = elim s [ ]
resized-counts g n b (c ∷ bs) s one = by_test (resized-counts g n b bs) (eqb c.at b.at) refl s one
  where
    by_test : (Among b bs → blocks_at b.at bs ≤ 1 → total_by g (resized b.at n bs) + g b ≡ total_by g bs + g (extent b.at n 16)) → (t : Bool) → eqb c.at b.at ≡ t → Among b (c ∷ bs) → count_of t + blocks_at b.at bs ≤ 1
        → (g (cond t (extent b.at n 16) c) + total_by g (resized b.at n bs)) + g b ≡ (g c + total_by g bs) + g (extent b.at n 16)
    by_test ih true is (inl e) one = let q : g b ≡ g c = ap g e in let r = resized-none g b.at n bs (omega arith) in omega arith
    by_test ih true is (inr s) one = absurd (let o = blocks_at-one b bs s in omega arith)
    by_test ih false is (inl e) one = absurd (true≢false (sym (eq-eqb c.at b.at (ap (λ (x : Extent). x.at) (sym e))) ∙ is))
    by_test ih false is (inr s) one = let r = ih s (omega arith) in omega arith

-- a resized block keeps its address
resized-at : (p n q : ℕ) (bs : List Extent) → blocks_at q (resized p n bs) ≡ blocks_at q bs
resized-at p n q [] = refl
resized-at p n q (c ∷ bs) = by_test (resized-at p n q bs) (eqb c.at p) refl
  where
    by_test : blocks_at q (resized p n bs) ≡ blocks_at q bs → (t : Bool) → eqb c.at p ≡ t → count_of (eqb (cond t (extent p n 16) c).at q) + blocks_at q (resized p n bs) ≡ count_of (eqb c.at q) + blocks_at q bs
    by_test ih true is = let e : count_of (eqb p q) ≡ count_of (eqb c.at q) = ap (λ y. count_of (eqb y q)) (sym (tested c.at p is)) in omega arith
    by_test ih false is = omega arith

-- ---- no address has two live blocks after a legal history
abbrev pub AreOnce : List Extent → Type 0
AreOnce bs = (p : ℕ) → blocks_at p bs ≤ 1

after-once : (space : Space) (state : State) (e : Entry) → IsLegalStep space state e → AreOnce state.live → AreOnce (after state e).live
after-once space state (Give n a q) s once p = ⊎_elim
    (λ (f : q ≡ p). ⊎_elim
    (λ (l : 0 < blocks_at p state.live).
    let c = some_at p state.live l in
    let x = s.apart c.0 (among-contains state.live c.0 c.1) in let at = c.2 in
    absurd (⊎_elim (λ (u : end_of c.0 ≤ q). omega arith) (λ (u : end_of (extent q n a) ≤ c.0.at). omega arith) x))
    (λ (l : blocks_at p state.live ≤ 0). let o : count_of (eqb q p) ≡ 1 = ap count_of (eq-eqb q p f) in omega arith)
    (Rattle.std.proofs.lemmas.Bool.cases_lt 0 (blocks_at p state.live)))
    (λ (f : q ≢ p). let o : count_of (eqb q p) ≡ 0 = ap count_of (ne_eqb q p f) in let r = once p in omega arith)
    (cases_eq q p)
after-once space state (Take q) s once p = let r = once p in let f = without-fewer (λ (c : Extent). count_of (eqb c.at p)) q state.live in omega arith
after-once space state (Resize q n) s once p = let r = once p in let f = resized-at q n p state.live in omega arith
after-once space state (NoMemory n x) s once p = once p
after-once space state (TooLarge c z a) s once p = once p
after-once space state (BadAlign a) s once p = once p
after-once space state (Refused q k) s once p = once p

history-once : (space : Space) (state : State) (es : List Event) → IsLegalFrom space state es → AreOnce state.live → AreOnce (state_after state es).live
history-once space state [] legal once = once
history-once space state (e ∷ es) legal once = history-once space (after state e.1) es legal.1 (after-once space state e.1 legal.0 once)

pub live-once : (space : Space) (es : List Event) → IsLegal space es → AreOnce (state_after empty es).live
live-once space es legal = history-once space empty es legal (λ p. omega arith)
