-- The notes of the lock's seat as code asks for them: by its view alone.
use Rattle.std.proofs.Common.{◌≡◌, ◌≢◌, ◌⊎◌, ℕ, zero, suc, ◌+◌, ◌*◌, ◌/◌, ◌%◌, ◌<◌, ◌≤◌, eqb, cond, Bool, true, false, true≢false, List, [], ◌∷◌, ◌++◌, refl, sym, ap, ◌∙◌, subst, ⊎_elim, inl, inr, arith}
use mathlib.Core.Option.{some}
use lib.ListN.{get_elem?}
use Rattle.std.specs.Int.{bit_at}
use Rattle.std.proofs.lemmas.Bool.{cases_lt}
use Rattle.std.proofs.lemmas.Nat.Bits.{bit_at_cat_low}
use Rattle.ng_view.specs.declared.view.Group.{Group}
use Rattle.ng_view.specs.declared.view.Run.{Run}
use Rattle.ng_view.specs.declared.view.Desk.{Desk}
use Rattle.ng_view.specs.declared.view.View.{View}
use Rattle.ng_view.specs.declared.view.Start.{Start}
use Rattle.ng_view.specs.Lists.{Among, select}
use Rattle.ng_view.specs.Cells.{tag, avail, freed, marked}
use Rattle.ng_view.specs.Views.{desk_of}
use Rattle.ng_view.specs.Rule.{Rule}
use Rattle.ng_view.specs.Layouts.{Inside}
use Rattle.ng_meta.specs.Place.{IsMetaPlace}
use Rattle.ng_view.specs.Knowledge.{Noted, IsZeroAvail, IsZeroFreed, IsSetFreed}
use Rattle.ng_view.specs.Listing.{Listing}
use Rattle.ng_view.specs.Steps.{read}
use Rattle.ng_view.specs.LockSteps.{refused, run_noted, blank_cells, run_left, cells_off, ring_read, avail_read, read_bits, has_number, others, active_set, counter_set}
use Rattle.ng_view.specs.May.{May}
use Rattle.ng_rule.proofs.geometry.Lists.{desk_lead}
use Rattle.ng_rule.proofs.geometry.Facts.{marked_live}
use Rattle.std.specs.Prelude.{map, ◌&&◌, ◌^◌, leb, set}
use Rattle.std.proofs.lemmas.Bool.Decides.{nat_tests}
use Rattle.ng_view.specs.declared.view.Excuse.{Excuse}
use Rattle.ng_rule.proofs.geometry.Lists.{among_append}
use Rattle.ng_rule.proofs.geometry.Readings.{loads_by}
use Rattle.ng_rule.proofs.lock.Refusal.{notes_refusal}
use Rattle.ng_rule.proofs.page.Note.{notes_run}
use Rattle.ng_rule.proofs.page.RunLeaves.{run_goes}
use Rattle.ng_rule.proofs.lock.Ring.{notes_ring}
use Rattle.ng_rule.proofs.page.Zero.{sets_active, sets_counter}

module _ (key : Start) (id : ℕ) (v : View) (leads : v.leads ≡ true) where
  pub led : (ws : List ℕ) (vs : List View) → Rule key ws vs → get_elem? vs id ≡ some v → desk_of vs ≡ v.desk
  led ws vs kept e = (desk_lead vs id v v e leads kept.hands.leaders leads).0

  pub refusal_may : (y : Excuse) → (v.desk.refusals < y.number) ⊎ (y.number ≡ 18446744073709551615) → y.number ≤ 18446744073709551615 → May key id v (0 / 4) (λ n. n) (λ v n u. u ≡ read (refused v y) 0 n)
  refusal_may y above top = loads_by key id v 0 (λ n. refused v y) (λ ws vs kept e.
      let l = subst (λ (z : Desk). (key.refusals ≤ z.refusals) × (z.refusals ≤ 18446744073709551615)) (led ws vs kept e) kept.excuses.last in
      let l0 = l.0 in let l1 = l.1 in let r = kept.words.lawful.range.refusals in
      notes_refusal key ws vs id v kept e leads y
      (⊎_elim (λ (q : v.desk.refusals < y.number). inl q) (λ (q : y.number ≡ 18446744073709551615). ⊎_elim (λ (s : v.desk.refusals < y.number). inl s) (λ (s : y.number ≤ v.desk.refusals). inr (q, omega arith)) (cases_lt v.desk.refusals y.number)) above)
      (⊎_elim (λ (q : v.desk.refusals < y.number). omega arith) (λ (q : y.number ≡ 18446744073709551615). omega arith) above) top)

  blank_are : (a n b y : ℕ) → a % 4 ≡ 0 → Among {A = ℕ × ℕ} (b, y) (blank_cells a n) → (b % 4 ≡ 0) × (a ≤ b) × (b < a + 4 * n) × (y ≡ 0)
  blank_are a zero b y al s = elim s [ ]
  blank_are a (suc n) b y al (inl e) =
      let e0 : b ≡ a + 4 * n = ap (λ (p : ℕ × ℕ). p.0) e in let e1 : y ≡ 0 = ap (λ (p : ℕ × ℕ). p.1) e in
      (omega arith, omega arith, omega arith, e1)
  blank_are a (suc n) b y al (inr s) = let r = blank_are a n b y al s in let r2 = r.2 in (r.0, r.1, omega arith, r.3)

  pub run_may : (a pages : ℕ) → a % 4096 ≡ 0 → 1 ≤ pages → key.lower ≤ a → a + 4096 * pages ≤ key.upper → ((s : Run) (b : ℕ) → Among s v.desk.layout.runs → Inside s b → (b < a) ⊎ (a + 4096 * pages ≤ b))
      → May key id v (0 / 4) (λ n. n) (λ v n u. u ≡ read (run_noted v a pages) 0 n)
  run_may a pages whole some_page lo hi apart = loads_by key id v 0 (λ n. run_noted v a pages) (λ ws vs kept e.
      notes_run key ws vs id v kept e leads (record { addr = a; pages = pages; area = false }) refl (record { whole = whole; above = lo; below = hi; some = some_page })
      (λ s b n i j. let j0 = j.0 in let j1 = j.1 in ⊎_elim (λ (l : b < a). omega arith) (λ (l : a + 4096 * pages ≤ b). omega arith) (apart s b n i))
      (blank_cells a (1024 * pages) ++ v.desk.cells)
      (λ b y q. ⊎_elim (λ (s : Among {A = ℕ × ℕ} (b, y) (blank_cells a (1024 * pages))). let r = blank_are a (1024 * pages) b y (omega arith) s in let r2 = r.2 in inr (r.0, (r.1, omega arith), r.3)) (λ (s : Among {A = ℕ × ℕ} (b, y) v.desk.cells). inl s) (among_append (blank_cells a (1024 * pages)) v.desk.cells (b, y) q)))

  pub cells_was : (a b : ℕ) (cs : List (ℕ × ℕ)) (c y : ℕ) → Among {A = ℕ × ℕ} (c, y) (cells_off a b cs) → Among {A = ℕ × ℕ} (c, y) cs × ((c < a) ⊎ (b ≤ c))
  cells_was a b [] c y s = elim s [ ]
  cells_was a b (x ∷ xs) c y s = by_test (cells_was a b xs c y) (leb a x.0 && leb (x.0 + 1) b) refl s
    where
      out : (n : ℕ) → (leb a n && leb (n + 1) b) ≡ false → (n < a) ⊎ (b ≤ n)
      out n e = ⊎_elim (λ (l : n < a). inl l) (λ (g : a ≤ n). ⊎_elim (λ (h : n < b). absurd (within n g h e)) (λ (h : b ≤ n). inr h) (cases_lt n b)) (cases_lt n a)
        where
          within : (n : ℕ) → a ≤ n → n < b → (leb a n && leb (n + 1) b) ≡ false → ⊥
          within n g h e = grind (arith, nat_tests)

      by_test : (Among {A = ℕ × ℕ} (c, y) (cells_off a b xs) → Among {A = ℕ × ℕ} (c, y) xs × ((c < a) ⊎ (b ≤ c))) → (t : Bool) → (leb a x.0 && leb (x.0 + 1) b) ≡ t
          → Among {A = ℕ × ℕ} (c, y) (cond t (cells_off a b xs) (x ∷ cells_off a b xs)) → Among {A = ℕ × ℕ} (c, y) (x ∷ xs) × ((c < a) ⊎ (b ≤ c))
      by_test ih true is s = let r = ih s in (inr r.0, r.1)
      by_test ih false is (inl e) = (inl e, subst (λ n. (n < a) ⊎ (b ≤ n)) (sym (ap (λ (p : ℕ × ℕ). p.0) e)) (out x.0 is))
      by_test ih false is (inr s) = let r = ih s in (inr r.0, r.1)

  pub run_left_may : (r : Run) → Among r v.desk.layout.runs → r.area ≡ false → ((g : Group) → Among g v.desk.groups → g.base ≢ r.addr) → ((a : ℕ) → a % 4 ≡ 0 → Inside r a → Among {A = ℕ × ℕ} (a, 0) v.desk.cells)
      → May key id v (0 / 4) (λ n. n) (λ v n u. u ≡ read (run_left v r) 0 n)
  run_left_may r there plain unused known = loads_by key id v 0 (λ n. run_left v r) (λ ws vs kept e.
      run_goes key ws vs id v kept e leads r there plain unused known (cells_off r.addr (r.addr + 4096 * r.pages) v.desk.cells)
      (λ b y q. let s = cells_was r.addr (r.addr + 4096 * r.pages) v.desk.cells b y q in (s.0, λ i. let i0 = i.0 in let i1 = i.1 in ⊎_elim (λ (l : b < r.addr). omega arith) (λ (l : r.addr + 4096 * r.pages ≤ b). omega arith) s.1)))

  -- a ring note
  numbered_in : (m : ℕ) (ns : List ℕ) → has_number m ns ≡ true → Among m ns
  numbered_in m [] e = absurd (true≢false (sym e))
  numbered_in m (n ∷ ns) e = by_test (numbered_in m ns) (eqb n m) refl e
    where
      tested : (n k : ℕ) → eqb n k ≡ true → n ≡ k
      tested n k e = grind (arith, nat_tests)

      by_test : (has_number m ns ≡ true → Among m ns) → (b : Bool) → eqb n m ≡ b → cond b true (has_number m ns) ≡ true → Among m (n ∷ ns)
      by_test ih true is e = inl (sym (tested n m is))
      by_test ih false is e = inr (ih e)

  others_keep : (m : ℕ) (ns : List ℕ) (n : ℕ) → n ≢ m → Among n ns → Among n (others m ns)
  others_keep m [] n ne s = elim s [ ]
  others_keep m (x ∷ xs) n ne s = by_test (others_keep m xs n ne) (eqb x m) refl s
    where
      tested : (n k : ℕ) → eqb n k ≡ true → n ≡ k
      tested n k e = grind (arith, nat_tests)

      by_test : (Among n xs → Among n (others m xs)) → (b : Bool) → eqb x m ≡ b → Among n (x ∷ xs) → Among n (cond b (others m xs) (x ∷ others m xs))
      by_test ih true is (inl e) = absurd (ne (e ∙ tested x m is))
      by_test ih true is (inr s) = ih s
      by_test ih false is (inl e) = inl e
      by_test ih false is (inr s) = inr (ih s)

  others_was : (m : ℕ) (ns : List ℕ) (n : ℕ) → Among n (others m ns) → Among n ns
  others_was m [] n s = elim s [ ]
  others_was m (x ∷ xs) n s = by_test (others_was m xs n) (eqb x m) s
    where
      by_test : (Among n (others m xs) → Among n xs) → (b : Bool) → Among n (cond b (others m xs) (x ∷ others m xs)) → Among n (x ∷ xs)
      by_test ih true s = inr (ih s)
      by_test ih false (inl e) = inl e
      by_test ih false (inr s) = inr (ih s)

  both_true : (b c : Bool) → (b && c) ≡ true → (b ≡ true) × (c ≡ true)
  both_true true c e = (refl, e)
  both_true false c e = absurd (true≢false (sym e))

  pub is_number : (n k : ℕ) → eqb n k ≡ true → n ≡ k
  is_number n k e = grind (arith, nat_tests)

  bits_were : (m n : ℕ) (is : List ℕ) (k i : ℕ) → Among {A = ℕ × ℕ} (k, i) (map (λ j. (m, j)) is) → (k ≡ m) × Among i is
  bits_were m n [] k i s = elim s [ ]
  bits_were m n (j ∷ is) k i (inl e) = (ap (λ (p : ℕ × ℕ). p.0) e, inl (ap (λ (p : ℕ × ℕ). p.1) e))
  bits_were m n (j ∷ is) k i (inr s) = let r = bits_were m n is k i s in (r.0, inr r.1)

  pub selected : (t : ℕ → Bool) (k i : ℕ) → Among i (select t k) → (i < k) × (t i ≡ true)
  selected t zero i s = elim s [ ]
  selected t (suc k) i s = by_test (selected t k i) (t k) refl s
    where
      by_test : (Among i (select t k) → (i < k) × (t i ≡ true)) → (b : Bool) → t k ≡ b → Among i (cond b (k ∷ select t k) (select t k)) → (i < suc k) × (t i ≡ true)
      by_test ih true is (inl e) = (omega arith, ap t e ∙ is)
      by_test ih true is (inr s) = let r = ih s in let r0 = r.0 in (omega arith, r.1)
      by_test ih false is s = let r = ih s in let r0 = r.0 in (omega arith, r.1)

  pub ring_may : (m : ℕ) (g : Group) (listed : Bool) → Among g v.desk.groups → g.meta ≡ m → May key id v ((m + 28) / 4) (λ n. n) (λ v n u. u ≡ read (ring_read v m listed n) (m + 28) n)
  ring_may m g listed there is = loads_by key id v (m + 28) (λ n. ring_read v m listed n) (λ ws vs kept e.
      let lw = subst (Listing ws) (led ws vs kept e) kept.listing in
      let nw = subst (Noted ws) (led ws vs kept e) kept.knowledge.desk in
      let l = lw.live g there in
      let al : m % 4 ≡ 0 = subst (λ k. k % 4 ≡ 0) is l.whole in
      let live : 0 < tag ws m = subst (λ k. 0 < tag ws k) is (subst (λ (y : Group). 0 < y.tag) l.group l.live) in
      notes_ring key ws vs id v kept e leads
      (cond listed (m ∷ v.desk.listed) (cond (eqb (freed ws m) 0 && has_number m v.desk.zero_avail) (others m v.desk.listed) v.desk.listed))
      v.desk.zero_avail
      (cond (eqb (freed ws m) 0) (m ∷ v.desk.zero_freed) v.desk.zero_freed)
      (read_bits m (freed ws m) ++ v.desk.set_freed)
      (λ k j kl lj some_bit q. keeps ws vs kept e al live k j kl lj some_bit q listed (eqb (freed ws m) 0 && has_number m v.desk.zero_avail) refl)
      (λ k q. was ws k al live listed (eqb (freed ws m) 0 && has_number m v.desk.zero_avail) q)
      (λ k q. inl q)
      (λ k q. zero_noted ws k al live (eqb (freed ws m) 0) refl q)
      (λ k i q. ⊎_elim
      (λ (s : Among {A = ℕ × ℕ} (k, i) (read_bits m (freed ws m))).
      let r = bits_were m (freed ws m) (select (λ i. eqb (bit_at (freed ws m) i) 1) 32) k i s in
      let t = selected (λ i. eqb (bit_at (freed ws m) i) 1) 32 i r.1 in
      inr (subst (λ y. IsSetFreed ws y i) (sym r.0) (record { whole = al; few = t.0; live = live; bit = is_number (bit_at (freed ws m) i) 1 t.1 })))
      (λ (s : Among {A = ℕ × ℕ} (k, i) v.desk.set_freed). inl s)
      (among_append (read_bits m (freed ws m)) v.desk.set_freed (k, i) q)))
    where
      keeps : (ws : List ℕ) (vs : List View) → Rule key ws vs → get_elem? vs id ≡ some v → m % 4 ≡ 0 → 0 < tag ws m → (k j : ℕ) → k % 4 ≡ 0 → j < 32 → 0 < marked ws k j → Among k v.desk.listed
          → (b c : Bool) → (eqb (freed ws m) 0 && has_number m v.desk.zero_avail) ≡ c → Among k (cond b (m ∷ v.desk.listed) (cond c (others m v.desk.listed) v.desk.listed))
      keeps ws vs kept e al live k j kl lj some_bit q true c p = inr q
      keeps ws vs kept e al live k j kl lj some_bit q false false p = q
      keeps ws vs kept e al live k j kl lj some_bit q false true p =
          let t = both_true (eqb (freed ws m) 0) (has_number m v.desk.zero_avail) p in
          let z : freed ws m ≡ 0 = is_number (freed ws m) 0 t.0 in
          let a = (subst (Noted ws) (led ws vs kept e) kept.knowledge.desk).masks.zero_avail m (numbered_in m v.desk.zero_avail t.1) in
          others_keep m v.desk.listed k (λ f.
          let s : 0 < marked ws m j = subst (λ y. 0 < marked ws y j) f some_bit in
          let o = marked_live (tag ws m) (avail ws m) (freed ws m) j live in
          let x : ℕ = bit_at (avail ws m) j in let y : ℕ = bit_at (freed ws m) j in
          let x0 : x ≡ 0 = a.zero_bits j lj in let y0 : y ≡ 0 = ap (λ n. bit_at n j) z ∙ Rattle.ng_rule.proofs.group.Publish.bit_zero j in
          let o' : marked ws m j ≡ x + y = o in omega arith) q

      was : (ws : List ℕ) (k : ℕ) → m % 4 ≡ 0 → 0 < tag ws m → (b c : Bool) → Among k (cond b (m ∷ v.desk.listed) (cond c (others m v.desk.listed) v.desk.listed)) → Among k v.desk.listed ⊎ ((k % 4 ≡ 0) × (0 < tag ws k))
      was ws k al live true c (inl f) = inr (subst (λ y. y % 4 ≡ 0) (sym f) al, subst (λ y. 0 < tag ws y) (sym f) live)
      was ws k al live true c (inr q) = inl q
      was ws k al live false true q = inl (others_was m v.desk.listed k q)
      was ws k al live false false q = inl q

      zero_noted : (ws : List ℕ) (k : ℕ) → m % 4 ≡ 0 → 0 < tag ws m → (b : Bool) → eqb (freed ws m) 0 ≡ b → Among k (cond b (m ∷ v.desk.zero_freed) v.desk.zero_freed) → Among k v.desk.zero_freed ⊎ IsZeroFreed ws k
      zero_noted ws k al live true p (inl f) = inr (subst (IsZeroFreed ws) (sym f) (record { whole = al; live = live; zero_mask = is_number (freed ws m) 0 p }))
      zero_noted ws k al live true p (inr q) = inl q
      zero_noted ws k al live false p q = inl q

  -- a load of an avail word: only the lock's seat sets bits of the mask, so one that reads 0 stays so
  pub avail_may : (m : ℕ) (g : Group) → Among g v.desk.groups → g.meta ≡ m → May key id v ((m + 24) / 4) (λ n. n) (λ v n u. (u ≡ read (avail_read v m n) (m + 24) n) × (n / 4294967296 ≡ g.tag))
  avail_may m g there is ws vs kept e fits =
      let p = loads_by key id v (m + 24) (λ n. avail_read v m n) notes ws vs kept e fits in
      (p.0, p.1, (p.2, ap (λ k. tag ws k) (sym is) ∙ sym (ap (λ (y : Group). y.tag) ((subst (Listing ws) (led ws vs kept e) kept.listing).live g there).group)))
    where
      no_bits : (n j : ℕ) → n % 4294967296 ≡ 0 → j < 32 → bit_at n j ≡ 0
      no_bits n j z lt =
          let whole : n ≡ n / 4294967296 * 2 ^ 32 + 0 = omega arith in
          ap (λ y. bit_at y j) whole ∙ bit_at_cat_low (n / 4294967296) 32 0 j lt ∙ Rattle.ng_rule.proofs.group.Publish.bit_zero j

      zero_noted : (ws : List ℕ) (k : ℕ) → m % 4 ≡ 0 → 0 < tag ws m → (b : Bool) → eqb (avail ws m % 4294967296) 0 ≡ b → Among k (cond b (m ∷ v.desk.zero_avail) v.desk.zero_avail) → Among k v.desk.zero_avail ⊎ IsZeroAvail ws k
      zero_noted ws k al live true z (inl f) = inr (subst (IsZeroAvail ws) (sym f) (record { whole = al; live = live; zero_bits = λ j lt. no_bits (avail ws m) j (is_number (avail ws m % 4294967296) 0 z) lt }))
      zero_noted ws k al live true z (inr q) = inl q
      zero_noted ws k al live false z q = inl q

      notes : (ws : List ℕ) (vs : List View) → Rule key ws vs → get_elem? vs id ≡ some v → Rule key ws (set vs id (avail_read v m (avail ws m)))
      notes ws vs kept e =
          let l = (subst (Listing ws) (led ws vs kept e) kept.listing).live g there in
          let al : m % 4 ≡ 0 = subst (λ k. k % 4 ≡ 0) is l.whole in
          let live : 0 < tag ws m = subst (λ k. 0 < tag ws k) is (subst (λ (y : Group). 0 < y.tag) l.group l.live) in
          notes_ring key ws vs id v kept e leads v.desk.listed
          (cond (eqb (avail ws m % 4294967296) 0) (m ∷ v.desk.zero_avail) v.desk.zero_avail) v.desk.zero_freed v.desk.set_freed
          (λ k j kl lj some_bit q. q) (λ k q. inl q) (λ k q. zero_noted ws k al live (eqb (avail ws m % 4294967296) 0) refl q) (λ k q. inl q) (λ k i q. inl q)

  pub active_may : (c m : ℕ) → c < 48 → m < 4294967296 → (m ≡ 0) ⊎ IsMetaPlace m key.pages → May key id v (4 * (c + 1) / 4) (λ n. m) (λ v n u. u ≡ active_set v c m)
  active_may c m lt fits place ws vs kept e _ = (active_set v c m, sets_active key ws vs id v kept e leads c m lt fits place, refl)

  pub counter_may : (x : ℕ) → x < 4294967296 → May key id v (196 / 4) (λ n. x) (λ v n u. u ≡ counter_set v x)
  counter_may x fits ws vs kept e _ = (counter_set v x, sets_counter key ws vs id v kept e leads x fits, refl)
