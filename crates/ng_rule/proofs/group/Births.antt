-- What the desk says of groups and masks when a group comes, and when one goes.
use Rattle.std.proofs.Common.{◌≡◌, ◌≢◌, ◌⊎◌, ℕ, ◌+◌, ◌*◌, ◌%◌, ◌<◌, ◌≤◌, eqb, eq-eqb, ne_eqb, cond, Bool, true, false, true≢false, List, [], ◌∷◌, length, refl, sym, ap, ◌∙◌, subst, ⊎_elim, inl, inr, arith}
use Rattle.std.specs.Int.{bit_at}
use Rattle.std.proofs.lemmas.Bool.{cases_eq, cases_lt}
use Rattle.std.proofs.lemmas.Bool.Decides.{nat_tests}
use Rattle.ng_view.specs.declared.view.Group.{Group}
use Rattle.ng_view.specs.declared.view.Desk.{Desk}
use Rattle.ng_view.specs.Lists.{Among, total_by, count_of}
use Rattle.ng_view.specs.Cells.{cell, tag, marked, group_at}
use Rattle.ng_view.specs.Layouts.{InArea}
use Rattle.ng_view.specs.Slots.{IsPlain}
use Rattle.ng_view.specs.Listing.{Listing, IsLiveGroup}
use Rattle.ng_view.specs.Knowledge.{Masks, Numbers, IsZeroAvail, IsZeroFreed, IsSetFreed}
use Rattle.ng_view.specs.LockSteps.{groups_but, bits_but}
use Rattle.ng_rule.proofs.geometry.Lists.{total_by-some, counted, count_of-most}
use Rattle.ng_rule.proofs.geometry.Parts.{marked_tag}

pub numbers_page : (ws ws' : List ℕ) (d e : Desk) → ((a : ℕ) → a % 4 ≡ 0 → a < 4096 → cell ws' a ≡ cell ws a) → e.active ≡ d.active → e.counter ≡ d.counter → Numbers ws d → Numbers ws' e
numbers_page ws ws' d e s p q x = record {
  count = ap length p ∙ x.count;
  active = λ c lt. s (4 * (c + 1)) (omega arith) (omega arith) ∙ x.active c lt ∙ ap (λ l. Rattle.std.specs.Prelude.slice_index l c) (sym p);
  counter = s 196 refl (omega arith) ∙ x.counter ∙ sym q;
}

tested : (n k : ℕ) → eqb n k ≡ true → n ≡ k
tested n k e = grind (arith, nat_tests)

untested : (n k : ℕ) → eqb n k ≡ false → n ≢ k
untested n k e q = true≢false (sym (eq-eqb n k q) ∙ e)

pub group_was : (m : ℕ) (gs : List Group) (g : Group) → Among g (groups_but m gs) → Among g gs × (g.meta ≢ m)
group_was m [] g s = elim s [ ]
group_was m (x ∷ xs) g s = by_test (group_was m xs g) (eqb x.meta m) refl s
  where
    by_test : (Among g (groups_but m xs) → Among g xs × (g.meta ≢ m)) → (b : Bool) → eqb x.meta m ≡ b → Among g (cond b (groups_but m xs) (x ∷ groups_but m xs)) → Among g (x ∷ xs) × (g.meta ≢ m)
    by_test ih true is s = let r = ih s in (inr r.0, r.1)
    by_test ih false is (inl e) = (inl e, subst (λ (z : Group). z.meta ≢ m) (sym e) (untested x.meta m is))
    by_test ih false is (inr s) = let r = ih s in (inr r.0, r.1)

pub group_stays : (m : ℕ) (gs : List Group) (g : Group) → Among g gs → g.meta ≢ m → Among g (groups_but m gs)
group_stays m [] g s ne = elim s [ ]
group_stays m (x ∷ xs) g s ne = by_test (λ t. group_stays m xs g t ne) (eqb x.meta m) refl s
  where
    by_test : (Among g xs → Among g (groups_but m xs)) → (b : Bool) → eqb x.meta m ≡ b → Among g (x ∷ xs) → Among g (cond b (groups_but m xs) (x ∷ groups_but m xs))
    by_test ih true is (inl e) = absurd (ne (ap (λ (z : Group). z.meta) e ∙ tested x.meta m is))
    by_test ih true is (inr s) = ih s
    by_test ih false is (inl e) = inl e
    by_test ih false is (inr s) = inr (ih s)

pub bit_was : (m : ℕ) (bs : List (ℕ × ℕ)) (n i : ℕ) → Among {A = ℕ × ℕ} (n, i) (bits_but m bs) → Among {A = ℕ × ℕ} (n, i) bs × (n ≢ m)
bit_was m [] n i s = elim s [ ]
bit_was m (x ∷ xs) n i s = by_test (bit_was m xs n i) (eqb x.0 m) refl s
  where
    by_test : (Among {A = ℕ × ℕ} (n, i) (bits_but m xs) → Among {A = ℕ × ℕ} (n, i) xs × (n ≢ m)) → (b : Bool) → eqb x.0 m ≡ b → Among {A = ℕ × ℕ} (n, i) (cond b (bits_but m xs) (x ∷ bits_but m xs)) → Among {A = ℕ × ℕ} (n, i) (x ∷ xs) × (n ≢ m)
    by_test ih true is s = let r = ih s in (inr r.0, r.1)
    by_test ih false is (inl e) = (inl e, λ q. untested x.0 m is (sym (ap (λ (z : ℕ × ℕ). z.0) e) ∙ q))
    by_test ih false is (inr s) = let r = ih s in (inr r.0, r.1)

groups_but-total : (f : Group → ℕ) (m : ℕ) (gs : List Group) → total_by f (groups_but m gs) ≤ total_by f gs
groups_but-total f m [] = omega arith
groups_but-total f m (x ∷ xs) = by_test (groups_but-total f m xs) (eqb x.meta m)
  where
    by_test : total_by f (groups_but m xs) ≤ total_by f xs → (b : Bool) → total_by f (cond b (groups_but m xs) (x ∷ groups_but m xs)) ≤ f x + total_by f xs
    by_test ih true = omega arith
    by_test ih false = omega arith

-- the avail word of the meta m changes, and no other word of a meta
module _ (ws ws' : List ℕ) (d e : Desk) (m : ℕ) (al : m % 4 ≡ 0)
    (tags : (n : ℕ) → n % 4 ≡ 0 → n ≢ m → tag ws' n ≡ tag ws n)
    (same : (n : ℕ) → n % 4 ≡ 0 → n ≢ m → 0 < tag ws n → group_at ws' n ≡ group_at ws n)
    (marks : (n j : ℕ) → n % 4 ≡ 0 → n ≢ m → marked ws' n j ≡ marked ws n j)
    (areas : (n : ℕ) → InArea d.layout n → InArea e.layout n) (old : Listing ws d) where
  was_live : (n : ℕ) → n % 4 ≡ 0 → n ≢ m → 0 < tag ws' n → 0 < tag ws n
  was_live n nl ne l = subst (λ y. 0 < y) (tags n nl ne) l

  bits_else : (n j : ℕ) → n % 4 ≡ 0 → j < 32 → n ≢ m → 0 < marked ws' n j → Among n d.listed
  bits_else n j nl lj ne b =
      old.bits n j nl lj (let q = marks n j nl ne in omega arith)

  -- a bit of another group
  pub plain_else : ((n j : ℕ) → n % 4 ≡ 0 → j < 32 → 0 < marked ws n j → IsPlain (group_at ws n)) → (n j : ℕ) → n % 4 ≡ 0 → j < 32 → n ≢ m → 0 < marked ws' n j → IsPlain (group_at ws' n)
  plain_else plains n j nl lj ne b = subst IsPlain (sym (same n nl ne (was_live n nl ne (marked_tag ws' n j b)))) (plains n j nl lj (let q = marks n j nl ne in omega arith))

  pub plain_new : ((n j : ℕ) → n % 4 ≡ 0 → j < 32 → 0 < marked ws n j → IsPlain (group_at ws n)) → (g : Group) → group_at ws' m ≡ g → ((j : ℕ) → j < 32 → 0 < marked ws' m j → IsPlain g)
      → (n j : ℕ) → n % 4 ≡ 0 → j < 32 → 0 < marked ws' n j → IsPlain (group_at ws' n)
  plain_new plains g new plain n j nl lj b = ⊎_elim
      (λ (q : n ≡ m). subst (λ k. IsPlain (group_at ws' k)) (sym q) (subst IsPlain (sym new) (plain j lj (subst (λ k. 0 < marked ws' k j) q b))))
      (λ (ne : n ≢ m). plain_else plains n j nl lj ne b)
      (cases_eq n m)

  pub plain_gone : ((n j : ℕ) → n % 4 ≡ 0 → j < 32 → 0 < marked ws n j → IsPlain (group_at ws n)) → tag ws' m ≡ 0 → (n j : ℕ) → n % 4 ≡ 0 → j < 32 → 0 < marked ws' n j → IsPlain (group_at ws' n)
  plain_gone plains gone n j nl lj b = plain_else plains n j nl lj (λ q. let l = marked_tag ws' n j b in let z : tag ws' n ≡ 0 = ap (tag ws') q ∙ gone in omega arith) b

  live_else : (g : Group) → Among g d.groups → g.meta ≢ m → IsLiveGroup ws' g
  live_else g t ne = let r = old.live g t in record { group = r.group ∙ sym (same g.meta r.whole ne (subst (λ (y : Group). 0 < y.tag) r.group r.live)); whole = r.whole; live = r.live }

  pub listing_new : (g : Group) → tag ws m ≡ 0 → 0 < g.tag → group_at ws' m ≡ g
      → e.listed ≡ m ∷ d.listed → e.groups ≡ g ∷ d.groups → InArea e.layout m → Listing ws' e
  listing_new g dead born new listed groups area = record {
    bits = λ n j nl lj b. ⊎_elim
        (λ (q : n ≡ m). subst (Among n) (sym listed) (inl q))
        (λ (ne : n ≢ m). subst (Among n) (sym listed) (inr (bits_else n j nl lj ne b)))
        (cases_eq n m);
    metas = λ n t. ⊎_elim
        (λ (q : n ≡ m). record { whole = subst (λ k. k % 4 ≡ 0) (sym q) al; in_area = subst (InArea e.layout) (sym q) area })
        (λ (s : Among n d.listed). let r = old.metas n s in record { whole = r.whole; in_area = areas n r.in_area })
        (subst (Among n) listed t);
    known = λ n nl l. subst (Among (group_at ws' n)) (sym groups) (⊎_elim
        (λ (q : n ≡ m). inl (ap (group_at ws') q ∙ new))
        (λ (ne : n ≢ m). let l' = was_live n nl ne l in inr (subst (λ y. Among y d.groups) (sym (same n nl ne l')) (old.known n nl l')))
        (cases_eq n m));
    once = λ k. subst (λ (l : List Group). total_by (λ (y : Group). count_of (eqb y.meta k)) l ≤ 1) (sym groups) (⊎_elim
        (λ (l : 0 < total_by (λ (y : Group). count_of (eqb y.meta k)) d.groups).
        let o = old.once k in
        let t = total_by-some (λ (y : Group). count_of (eqb y.meta k)) d.groups l in
        let is : t.0.meta ≡ k = counted t.0.meta k t.2 in
        let r = old.live t.0 t.1 in
        let alive : 0 < tag ws t.0.meta = subst (λ (u : Group). 0 < u.tag) r.group r.live in
        let none : count_of (eqb g.meta k) ≡ 0 = ap count_of (ne_eqb g.meta k (λ q. let z : tag ws t.0.meta ≡ 0 = ap (tag ws) (is ∙ sym q ∙ sym (ap (λ (z : Group). z.meta) new)) ∙ dead in omega arith)) in omega arith)
        (λ (l : total_by (λ (y : Group). count_of (eqb y.meta k)) d.groups ≤ 0). let m1 = count_of-most (eqb g.meta k) in omega arith)
        (cases_lt 0 (total_by (λ (y : Group). count_of (eqb y.meta k)) d.groups)));
    live = λ y t. ⊎_elim
        (λ (q : y ≡ g). subst (IsLiveGroup ws') (sym q)
        (let a : m ≡ g.meta = ap (λ (z : Group). z.meta) new in record { group = subst (λ k. g ≡ group_at ws' k) a (sym new); whole = subst (λ k. k % 4 ≡ 0) a al; live = born }))
        (λ (s : Among y d.groups).
        live_else y s (λ q. let r = old.live y s in let z : tag ws y.meta ≡ 0 = ap (tag ws) q ∙ dead in let l : 0 < tag ws y.meta = subst (λ (u : Group). 0 < u.tag) r.group r.live in omega arith))
        (subst (Among y) groups t);
  }

  pub listing_gone : tag ws' m ≡ 0 → e.listed ≡ d.listed → e.groups ≡ groups_but m d.groups → Listing ws' e
  listing_gone gone listed groups = record {
    bits = λ n j nl lj b. let ne : n ≢ m = (λ q. let l = marked_tag ws' n j b in let z : tag ws' n ≡ 0 = ap (tag ws') q ∙ gone in omega arith) in subst (Among n) (sym listed) (bits_else n j nl lj ne b);
    metas = λ n t. let r = old.metas n (subst (Among n) listed t) in record { whole = r.whole; in_area = areas n r.in_area };
    known = λ n nl l.
        let ne : n ≢ m = (λ q. let z : tag ws' n ≡ 0 = ap (tag ws') q ∙ gone in omega arith) in
        let l' = was_live n nl ne l in
        subst (Among (group_at ws' n)) (sym groups) (group_stays m d.groups (group_at ws' n) (subst (λ y. Among y d.groups) (sym (same n nl ne l')) (old.known n nl l')) ne);
    once = λ k. subst (λ (l : List Group). total_by (λ (y : Group). count_of (eqb y.meta k)) l ≤ 1) (sym groups) (let o = old.once k in let f = groups_but-total (λ (y : Group). count_of (eqb y.meta k)) m d.groups in omega arith);
    live = λ y t. let s = group_was m d.groups y (subst (Among y) groups t) in live_else y s.0 s.1;
  }

  -- notes of the masks of other metas
  module _ (words : (n b : ℕ) → n % 4 ≡ 0 → 0 < tag ws n → n ≢ m → (b ≡ 24) ⊎ (b ≡ 28) → cell ws' (n + b) ≡ cell ws (n + b)) where
    pub avail_else : (n : ℕ) → n ≢ m → IsZeroAvail ws n → IsZeroAvail ws' n
    avail_else n ne k = record { whole = k.whole; live = subst (λ y. 0 < y) (sym (tags n k.whole ne)) k.live; zero_bits = λ j lj. ap (λ y. bit_at y j) (words n 24 k.whole k.live ne (inl refl)) ∙ k.zero_bits j lj }

    pub freed_else : (n : ℕ) → n ≢ m → IsZeroFreed ws n → IsZeroFreed ws' n
    freed_else n ne k = record { whole = k.whole; live = subst (λ y. 0 < y) (sym (tags n k.whole ne)) k.live; zero_mask = words n 28 k.whole k.live ne (inr refl) ∙ k.zero_mask }

    pub bit_else : (n i : ℕ) → n ≢ m → IsSetFreed ws n i → IsSetFreed ws' n i
    bit_else n i ne k = record { whole = k.whole; few = k.few; live = subst (λ y. 0 < y) (sym (tags n k.whole ne)) k.live; bit = ap (λ y. bit_at y i) (words n 28 k.whole k.live ne (inr refl)) ∙ k.bit }

    -- a group comes
    pub masks_new : tag ws m ≡ 0 → ((n : ℕ) → Among n e.zero_avail → Among n d.zero_avail ⊎ IsZeroAvail ws' n) → e.zero_freed ≡ d.zero_freed → e.set_freed ≡ d.set_freed → Masks ws d → Masks ws' e
    masks_new dead a f s x = record {
      zero_avail = λ n t. ⊎_elim (λ (o : Among n d.zero_avail). let k = x.zero_avail n o in avail_else n (not_dead n k.live) k) (λ k. k) (a n t);
      zero_freed = λ n t. let k = x.zero_freed n (subst (Among n) f t) in freed_else n (not_dead n k.live) k;
      set_freed = λ n i t. let k = x.set_freed n i (subst (Among {A = ℕ × ℕ} (n, i)) s t) in bit_else n i (not_dead n k.live) k;
    }
      where
        not_dead : (n : ℕ) → 0 < tag ws n → n ≢ m
        not_dead n l q = let z : tag ws n ≡ 0 = ap (tag ws) q ∙ dead in omega arith
