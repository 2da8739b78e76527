-- Stock and parent push as code asks for them.
use Rattle.std.proofs.Common.{◌≡◌, ◌≢◌, ◌⊎◌, ℕ, zero, suc, ◌+◌, ◌/◌, ◌<◌, ◌≤◌, eqb, cond, Bool, true, false, List, [], ◌∷◌, set, refl, sym, ap, ◌∙◌, subst, ⊎_elim, inl, inr, arith}
use mathlib.Core.Option.{some}
use lib.ListN.{get_elem?}
use Rattle.std.specs.Int.{bit_at}
use Rattle.std.proofs.lemmas.Bool.{cases_eq, cases_lt}
use Rattle.ng_view.specs.declared.view.Group.{Group}
use Rattle.ng_view.specs.declared.view.View.{View}
use Rattle.ng_view.specs.declared.view.Start.{Start}
use Rattle.ng_view.specs.Lists.{Among, count_of, select, times}
use Rattle.ng_view.specs.Cells.{cell, avail, freed}
use Rattle.ng_view.specs.Rule.{Rule}
use Rattle.ng_view.specs.Slots.{IsPlain}
use Rattle.ng_view.specs.Steps.{read}
use Rattle.ng_view.specs.LockSteps.{let_go, AreOut, bits_of, bits_stocked, bits_pushed, others}
use Rattle.ng_view.specs.May.{May}
use Rattle.std.specs.Prelude.{◌^◌, bit_or, max, min}
use Rattle.std.specs.Int.{w64}
use Rattle.std.proofs.lemmas.Nat.Bits.{bit_at_set_same, bit_at_set_other, bit_at_above, bit_at_or, bit_at-lt, same_from_bits}
use Rattle.ng_rule.proofs.geometry.Lists.{select-times, set_self}
use Rattle.ng_rule.proofs.geometry.Bits.{raised, count_of-same, count_of-other}
use Rattle.ng_rule.proofs.group.Retire.{among_others}
use Rattle.ng_rule.proofs.geometry.Readings.{with_reading}
use Rattle.ng_rule.proofs.lock.Ring.{notes_ring}
use Rattle.ng_rule.proofs.lock.Several.{raise_by, raises_all}

-- the bits that are set in the end
raise_bits : (is : List ℕ) (n j : ℕ) → ((i : ℕ) → Among i is → i < 64) → bit_at (raise_by n is) j ≡ max (bit_at n j) (min 1 (times j is))
raise_bits [] n j low = let y : ℕ = bit_at n j in omega arith
raise_bits (i ∷ is) n j low =
    let ih = raise_bits is (raised n i) j (λ k s. low k (inr s)) in
    let l = low i (inl refl) in
    ⊎_elim
    (λ (e : i ≡ j).
    let o : bit_at (raised n i) j ≡ 1 = ap (bit_at (raised n i)) (sym e) ∙ bit_at_set_same w64 n i l in
    let p : count_of (eqb i j) ≡ 1 = ap (λ k. count_of (eqb i k)) (sym e) ∙ count_of-same i in
    let b = bit_at-lt n j in
    let x : ℕ = bit_at (raise_by (raised n i) is) j in let y : ℕ = bit_at (raised n i) j in let z : ℕ = bit_at n j in let t : ℕ = times j is in let q : ℕ = count_of (eqb i j) in
    let ih' : x ≡ max y (min 1 t) = ih in let r : x ≡ max z (min 1 (q + t)) = omega (arith, ih', o, p, b) in r)
    (λ (ne : i ≢ j).
    let o : bit_at (raised n i) j ≡ bit_at n j = bit_at_set_other w64 n i l j (λ s. ne (sym s)) in
    let p = count_of-other i j ne in
    let x : ℕ = bit_at (raise_by (raised n i) is) j in let y : ℕ = bit_at (raised n i) j in let z : ℕ = bit_at n j in let t : ℕ = times j is in let q : ℕ = count_of (eqb i j) in
    let ih' : x ≡ max y (min 1 t) = ih in let p' : q ≡ 0 = p in let o' : y ≡ z = o in let r : x ≡ max z (min 1 (q + t)) = omega (arith, ih', o', p') in r)
    (cases_eq i j)

low_select : (t : ℕ → Bool) (k i : ℕ) → Among i (select t k) → i < k
low_select t zero i s = elim s [ ]
low_select t (suc k) i s = by_test (low_select t k i) (t k) s
  where
    by_test : (Among i (select t k) → i < k) → (b : Bool) → Among i (cond b (k ∷ select t k) (select t k)) → i < suc k
    by_test ih true (inl e) = omega arith
    by_test ih true (inr s) = let r = ih s in omega arith
    by_test ih false s = let r = ih s in omega arith

none_above : (t : ℕ → Bool) (k j : ℕ) → k ≤ j → times j (select t k) ≡ 0
none_above t zero j le = refl
none_above t (suc k) j le = by_test (none_above t k j (omega arith)) (t k)
  where
    by_test : times j (select t k) ≡ 0 → (b : Bool) → times j (cond b (k ∷ select t k) (select t k)) ≡ 0
    by_test ih true = let p = count_of-other k j (λ e. omega arith) in omega arith
    by_test ih false = ih

pub or_is : (n bits : ℕ) → bits < 4294967296 → raise_by n (bits_of bits) ≡ bit_or n bits
or_is n bits fits = same_from_bits (raise_by n (bits_of bits)) (bit_or n bits) (λ j.
    let r = raise_bits (bits_of bits) n j (λ i s. let l = low_select (λ i. eqb (bit_at bits i) 1) 32 i s in omega arith) in
    let o = bit_at_or n bits j in
    let x : ℕ = bit_at (raise_by n (bits_of bits)) j in let y : ℕ = bit_at n j in let z : ℕ = bit_at bits j in let w : ℕ = bit_at (bit_or n bits) j in let t : ℕ = times j (bits_of bits) in
    let r' : x ≡ max y (min 1 t) = r in let o' : w ≡ max y z = o in let b : z < 2 = bit_at-lt bits j in
    let tz : t ≡ z = ⊎_elim (λ (l : j < 32). select-times (λ i. eqb (bit_at bits i) 1) 32 j l ∙ one_bit_of (bit_at bits j) (bit_at-lt bits j)) (λ (l : 32 ≤ j). none_above (λ i. eqb (bit_at bits i) 1) 32 j l ∙ sym (bit_at_above bits 32 j fits l)) (cases_lt j 32) in
    let e : x ≡ w = omega (arith, r', o', b, tz) in e)
  where
    one_bit_of : (y : ℕ) → y < 2 → count_of (eqb y 1) ≡ y
    one_bit_of zero h = refl
    one_bit_of (suc zero) h = refl
    one_bit_of (suc (suc y)) h = absurd (omega arith)

module _ (key : Start) (id : ℕ) (v : View) (leads : v.leads ≡ true) where
  by_list : (c : ℕ) (mask : (c ≡ 24) ⊎ (c ≡ 28)) (bits : ℕ) (is : List ℕ) → bits_of bits ≡ is → bits < 4294967296 → (ws : List ℕ) (vs : List View) → Rule key ws vs → get_elem? vs id ≡ some v
      → (g : Group) → Among g v.desk.groups → IsPlain g → Among g.meta v.desk.listed → AreOut g.meta (bits_of bits) v.held → cell ws (g.meta + c) < 2 ^ 64 → (ba bf : List ℕ)
      → ((n : ℕ) → Among n ba → Among n v.desk.zero_avail × (c ≡ 24 → n ≢ g.meta)) → ((n : ℕ) → Among n bf → Among n v.desk.zero_freed × (c ≡ 28 → n ≢ g.meta))
      → Rule key (set ws ((g.meta + c) / 4) (bit_or (cell ws (g.meta + c)) bits)) (set vs id (record v { held = let_go g.meta (bits_of bits) v.held; desk = record v.desk { zero_avail = ba; zero_freed = bf } }))
  by_list c mask bits [] eq fits ws vs kept e g there plain listed out small ba bf na nf =
      subst (λ x. Rule key (set ws ((g.meta + c) / 4) x) (set vs id (record v { held = let_go g.meta (bits_of bits) v.held; desk = record v.desk { zero_avail = ba; zero_freed = bf } }))) (or_is (cell ws (g.meta + c)) bits fits)
      (subst (λ (l : List ℕ). Rule key (set ws ((g.meta + c) / 4) (raise_by (cell ws (g.meta + c)) l)) (set vs id (record v { held = let_go g.meta l v.held; desk = record v.desk { zero_avail = ba; zero_freed = bf } }))) (sym eq)
      (subst (λ (l : List ℕ). Rule key l (set vs id (record v { desk = record v.desk { zero_avail = ba; zero_freed = bf } }))) (sym (set_self ws ((g.meta + c) / 4)))
      (notes_ring key ws vs id v kept e leads v.desk.listed ba bf v.desk.set_freed (λ n j nl lj some_bit q. q) (λ n q. inl q) (λ n q. inl (na n q).0) (λ n q. inl (nf n q).0) (λ n i q. inl q))))
  by_list c mask bits (i ∷ is) eq fits ws vs kept e g there plain listed out small ba bf na nf =
      subst (λ x. Rule key (set ws ((g.meta + c) / 4) x) (set vs id (record v { held = let_go g.meta (bits_of bits) v.held; desk = record v.desk { zero_avail = ba; zero_freed = bf } }))) (or_is (cell ws (g.meta + c)) bits fits)
      (subst (λ (l : List ℕ). Rule key (set ws ((g.meta + c) / 4) (raise_by (cell ws (g.meta + c)) l)) (set vs id (record v { held = let_go g.meta l v.held; desk = record v.desk { zero_avail = ba; zero_freed = bf } }))) (sym eq)
      (raises_all key id g.meta c mask i is ws vs v kept e leads (subst (λ (l : List ℕ). AreOut g.meta l v.held) eq out) listed g there refl plain small ba bf na nf))

  pub stock_may : (g : Group) (bits : ℕ) → Among g v.desk.groups → IsPlain g → Among g.meta v.desk.listed → AreOut g.meta (bits_of bits) v.held → bits < 4294967296
      → May key id v ((g.meta + 24) / 4) (λ n. bit_or n bits) (λ v n u. u ≡ read (bits_stocked v g.meta bits) (g.meta + 24) n)
  stock_may g bits there plain listed out fits ws vs kept e small = (
    read (bits_stocked v g.meta bits) (g.meta + 24) (avail ws g.meta),
    with_reading key (set ws ((g.meta + 24) / 4) (bit_or (avail ws g.meta) bits)) vs id v (bits_stocked v g.meta bits) (g.meta + 24) (avail ws g.meta) e
        (by_list 24 (inl refl) bits (bits_of bits) refl fits ws vs kept e g there plain listed out small (others g.meta v.desk.zero_avail) v.desk.zero_freed
        (λ n q. let r = among_others g.meta v.desk.zero_avail n q in (r.0, λ s. r.1)) (λ n q. (q, λ s. absurd (omega arith)))),
    refl,
  )

  pub push_parent_may : (g : Group) (bits : ℕ) → Among g v.desk.groups → IsPlain g → Among g.meta v.desk.listed → AreOut g.meta (bits_of bits) v.held → bits < 4294967296
      → May key id v ((g.meta + 28) / 4) (λ n. bit_or n bits) (λ v n u. u ≡ read (bits_pushed v g.meta bits) (g.meta + 28) n)
  push_parent_may g bits there plain listed out fits ws vs kept e small = (
    read (bits_pushed v g.meta bits) (g.meta + 28) (freed ws g.meta),
    with_reading key (set ws ((g.meta + 28) / 4) (bit_or (freed ws g.meta) bits)) vs id v (bits_pushed v g.meta bits) (g.meta + 28) (freed ws g.meta) e
        (by_list 28 (inr refl) bits (bits_of bits) refl fits ws vs kept e g there plain listed out small v.desk.zero_avail (others g.meta v.desk.zero_freed)
        (λ n q. (q, λ s. absurd (omega arith))) (λ n q. let r = among_others g.meta v.desk.zero_freed n q in (r.0, λ s. r.1))),
    refl,
  )
