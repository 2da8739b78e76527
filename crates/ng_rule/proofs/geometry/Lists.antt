-- Lists of views and of what they hold.
use Rattle.std.proofs.Common.{◌≡◌, ◌≢◌, ◌⊎◌, ℕ, zero, suc, ◌+◌, ◌/◌, ◌%◌, ◌<◌, ◌≤◌, eqb, eq-eqb, ne_eqb, cond, Bool, true, false, true≢false, List, [], ◌∷◌, ◌++◌, map, length, set, refl, sym, ap, ◌∙◌, subst, ⊎_elim, inl, inr, arith}
use Rattle.std.specs.Prelude.{slice_index}
use mathlib.Core.Option.{some, some-ne-none, some-injective}
use lib.ListN.{get_elem?}
use Rattle.atomic_table.proofs.Lists.{at_set, at_snoc}
use Rattle.std.proofs.lemmas.Bool.Decides.{nat_tests}
use Rattle.ng_view.specs.declared.view.Run.{Run}
use Rattle.ng_view.specs.LockSteps.{runs_but}
use Rattle.ng_view.specs.Lists.{Among, total_by, count_of, Each, is_at, find, edit, without, select}
use Rattle.ng_view.specs.Views.{desk_of, no_desk}
use Rattle.ng_view.specs.Cells.{cell}
use Rattle.ng_view.specs.declared.view.View.{View}
use Rattle.ng_view.specs.declared.view.Desk.{Desk}
use Rattle.std.specs.Prelude.{Some}
use Rattle.ng_view.specs.declared.view.Held.{Held}
use Rattle.std.proofs.lemmas.Bool.{cases_lt, cases_eq}
use Rattle.ng_view.specs.declared.view.Place.{Place}

module _ {A : Type 0} where
  pub total_by-set : (f : A → ℕ) (vs : List A) (id : ℕ) (v w : A) → get_elem? vs id ≡ some v → total_by f (set vs id w) + f v ≡ total_by f vs + f w
  total_by-set f [] id v w e = absurd (some-ne-none v (sym e))
  total_by-set f (x ∷ xs) zero v w e = let h : f x ≡ f v = ap f (some-injective x v e) in omega arith
  total_by-set f (x ∷ xs) (suc id) v w e = let h = total_by-set f xs id v w e in omega arith

  pub total_by-snoc : (f : A → ℕ) (vs : List A) (w : A) → total_by f (vs ++ w ∷ []) ≡ total_by f vs + f w
  total_by-snoc f [] w = omega arith
  total_by-snoc f (x ∷ xs) w = let h = total_by-snoc f xs w in omega arith

  pub total_by-append : (f : A → ℕ) (vs ws : List A) → total_by f (vs ++ ws) ≡ total_by f vs + total_by f ws
  total_by-append f [] ws = omega arith
  total_by-append f (x ∷ xs) ws = let h = total_by-append f xs ws in omega arith

  -- one of them counts for no more than all
  pub total_by-one : (f : A → ℕ) (vs : List A) (id : ℕ) (v : A) → get_elem? vs id ≡ some v → f v ≤ total_by f vs
  total_by-one f [] id v e = absurd (some-ne-none v (sym e))
  total_by-one f (x ∷ xs) zero v e = let h : f x ≡ f v = ap f (some-injective x v e) in omega arith
  total_by-one f (x ∷ xs) (suc id) v e = let h = total_by-one f xs id v e in omega arith

  -- nor do two
  pub total_by-two : (f : A → ℕ) (vs : List A) (id j : ℕ) (v u : A) → j ≢ id → get_elem? vs id ≡ some v → get_elem? vs j ≡ some u → f v + f u ≤ total_by f vs
  total_by-two f [] id j v u n e e' = absurd (some-ne-none v (sym e))
  total_by-two f (x ∷ xs) zero zero v u n e e' = absurd (n refl)
  total_by-two f (x ∷ xs) zero (suc j) v u n e e' = let h : f x ≡ f v = ap f (some-injective x v e) in let k = total_by-one f xs j u e' in omega arith
  total_by-two f (x ∷ xs) (suc id) zero v u n e e' = let h : f x ≡ f u = ap f (some-injective x u e') in let k = total_by-one f xs id v e in omega arith
  total_by-two f (x ∷ xs) (suc id) (suc j) v u n e e' = let h = total_by-two f xs id j v u (λ t. n (ap suc t)) e e' in omega arith

  pub total_by-among : (f : A → ℕ) (xs : List A) (x : A) → Among x xs → f x ≤ total_by f xs
  total_by-among f [] x s = elim s [ ]
  total_by-among f (y ∷ ys) x (inl e) = let h : f x ≡ f y = ap f e in omega arith
  total_by-among f (y ∷ ys) x (inr s) = let h = total_by-among f ys x s in omega arith

  pub total_by-same : (f g : A → ℕ) (xs : List A) → ((x : A) → f x ≡ g x) → total_by f xs ≡ total_by g xs
  total_by-same f g [] h = refl
  total_by-same f g (x ∷ xs) h = let a = h x in let b = total_by-same f g xs h in omega arith

  pub total_by-map : (f : A → ℕ) (t : A → A) (xs : List A) → ((x : A) → f (t x) ≡ f x) → total_by f (map t xs) ≡ total_by f xs
  total_by-map f t [] h = refl
  total_by-map f t (x ∷ xs) h = let a = h x in let b = total_by-map f t xs h in omega arith

  pub among_map : (t : A → A) (xs : List A) (y : A) → Among y (map t xs) → (x : A) × Among x xs × (y ≡ t x)
  among_map t [] y s = elim s [ ]
  among_map t (x ∷ xs) y (inl e) = (x, inl refl, e)
  among_map t (x ∷ xs) y (inr s) = let r = among_map t xs y s in (r.0, inr r.1, r.2)

  pub among_append : (xs ys : List A) (x : A) → Among x (xs ++ ys) → Among x xs ⊎ Among x ys
  among_append [] ys x s = inr s
  among_append (y ∷ xs) ys x (inl e) = inl (inl e)
  among_append (y ∷ xs) ys x (inr s) = ⊎_elim (λ p. inl (inr p)) (λ p. inr p) (among_append xs ys x s)

-- what each view has, where one view changes and the others may need a new proof
pub each_set : (P Q : View → Type 0) (vs : List View) (id : ℕ) (w : View) → ((j : ℕ) (u : View) → j ≢ id → get_elem? vs j ≡ some u → Q u) → Q w → Each (set vs id w) Q
each_set P Q vs id w others mine j u e = ⊎_elim (λ (x : (j ≡ id) × (w ≡ u)). subst Q x.1 mine) (λ (x : (j ≢ id) × (get_elem? vs j ≡ some u)). others j u x.0 x.1) (at_set vs id j w u e)

pub each_snoc : (Q : View → Type 0) (vs : List View) (w : View) → Each vs Q → Q w → Each (vs ++ w ∷ []) Q
each_snoc Q vs w h mine j u e = ⊎_elim (λ (x : get_elem? vs j ≡ some u). h j u x) (λ (x : w ≡ u). subst Q x mine) (at_snoc vs w u j e)

-- the desk stays where the view that changes keeps it
pub desk_same : (vs : List View) (id : ℕ) (v w : View) → get_elem? vs id ≡ some v → w.leads ≡ v.leads → w.desk ≡ v.desk → desk_of (set vs id w) ≡ desk_of vs
desk_same [] id v w e l d = refl
desk_same (x ∷ xs) zero v w e l d =
    let q : x ≡ v = some-injective x v e in
    ap (λ (y : Bool × Desk). cond y.0 y.1 (desk_of xs)) (λ i. ((l ∙ ap (λ (z : View). z.leads) (sym q)) i, (d ∙ ap (λ (z : View). z.desk) (sym q)) i))
desk_same (x ∷ xs) (suc id) v w e l d = ap (λ y. cond x.leads x.desk y) (desk_same xs id v w e l d)

pub desk_snoc : (vs : List View) (w : View) → w.leads ≡ false → w.desk ≡ desk_of [] → desk_of (vs ++ w ∷ []) ≡ desk_of vs
desk_snoc [] w l d = rw l refl
desk_snoc (x ∷ xs) w l d = ap (λ y. cond x.leads x.desk y) (desk_snoc xs w l d)

-- ---- words
pub index_same : (ws : List ℕ) (k x : ℕ) → k < length ws → slice_index (set ws k x) k ≡ x
index_same [] k x h = absurd (omega arith)
index_same (y ∷ ys) zero x h = refl
index_same (y ∷ ys) (suc k) x h = index_same ys k x (omega arith)

pub index_other : (ws : List ℕ) (k j x : ℕ) → j ≢ k → slice_index (set ws k x) j ≡ slice_index ws j
index_other [] k j x n = refl
index_other (y ∷ ys) zero zero x n = absurd (n refl)
index_other (y ∷ ys) zero (suc j) x n = refl
index_other (y ∷ ys) (suc k) zero x n = refl
index_other (y ∷ ys) (suc k) (suc j) x n = index_other ys k j x (λ e. n (ap suc e))

pub set_self : (xs : List ℕ) (k : ℕ) → set xs k (slice_index xs k) ≡ xs
set_self [] k = refl
set_self (y ∷ ys) zero = refl
set_self (y ∷ ys) (suc k) = ap (λ l. y ∷ l) (set_self ys k)

pub at_other : (ws : List ℕ) (a b x : ℕ) → a % 4 ≡ 0 → b % 4 ≡ 0 → b ≢ a → cell (set ws (a / 4) x) b ≡ cell ws b
at_other ws a b x p q n = index_other ws (a / 4) (b / 4) x (λ e. n (omega arith))

pub count_of-zero : (b : Bool) → count_of b ≤ 0 → b ≡ false
count_of-zero true h = absurd (omega arith)
count_of-zero false h = refl

-- ---- the slots of a view
pub find_among : (m i : ℕ) (hs : List Held) (h : Held) → find m i hs ≡ Some h → Among h hs × (is_at m i h.place ≡ true)
find_among m i [] h e = absurd (cc)
find_among m i (x ∷ xs) h e = by_test (find_among m i xs h) (is_at m i x.place) refl e
  where
    by_test : (find m i xs ≡ Some h → Among h xs × (is_at m i h.place ≡ true)) → (b : Bool) → is_at m i x.place ≡ b → cond b (Some x) (find m i xs) ≡ Some h → Among h (x ∷ xs) × (is_at m i h.place ≡ true)
    by_test ih true is e = let q : x ≡ h = cc in (inl (sym q), subst (λ y. is_at m i y.place ≡ true) q is)
    by_test ih false is e = let r = ih e in (inr r.0, r.1)

pub total_by-edit : (g : Held → ℕ) (m i : ℕ) (t : Held → Held) (hs : List Held) (h : Held) → find m i hs ≡ Some h → total_by g (edit m i t hs) + g h ≡ total_by g hs + g (t h)
total_by-edit g m i t [] h e = absurd (cc)
total_by-edit g m i t (x ∷ xs) h e = by_test (total_by-edit g m i t xs h) (is_at m i x.place) e
  where
    by_test : (find m i xs ≡ Some h → total_by g (edit m i t xs) + g h ≡ total_by g xs + g (t h)) → (b : Bool) → cond b (Some x) (find m i xs) ≡ Some h → total_by g (cond b (t x ∷ xs) (x ∷ edit m i t xs)) + g h ≡ (g x + total_by g xs) + g (t h)
    by_test ih true e = let q : x ≡ h = cc in let p : g x ≡ g h = ap g q in let r : g (t x) ≡ g (t h) = ap (λ y. g (t y)) q in omega arith
    by_test ih false e = let r = ih e in omega arith

pub total_by-without : (g : Held → ℕ) (m i : ℕ) (hs : List Held) (h : Held) → find m i hs ≡ Some h → total_by g (without m i hs) + g h ≡ total_by g hs
total_by-without g m i [] h e = absurd (cc)
total_by-without g m i (x ∷ xs) h e = by_test (total_by-without g m i xs h) (is_at m i x.place) e
  where
    by_test : (find m i xs ≡ Some h → total_by g (without m i xs) + g h ≡ total_by g xs) → (b : Bool) → cond b (Some x) (find m i xs) ≡ Some h → total_by g (cond b xs (x ∷ without m i xs)) + g h ≡ g x + total_by g xs
    by_test ih true e = let q : x ≡ h = cc in let p : g x ≡ g h = ap g q in omega arith
    by_test ih false e = let r = ih e in omega arith

pub among_edit : (m i : ℕ) (t : Held → Held) (hs : List Held) (h x : Held) → find m i hs ≡ Some h → Among x (edit m i t hs) → Among x hs ⊎ (x ≡ t h)
among_edit m i t [] h x e s = absurd (cc)
among_edit m i t (y ∷ ys) h x e s = by_test (among_edit m i t ys h x) (is_at m i y.place) e s
  where
    by_test : (find m i ys ≡ Some h → Among x (edit m i t ys) → Among x ys ⊎ (x ≡ t h)) → (b : Bool) → cond b (Some y) (find m i ys) ≡ Some h → Among x (cond b (t y ∷ ys) (y ∷ edit m i t ys)) → Among x (y ∷ ys) ⊎ (x ≡ t h)
    by_test ih true e (inl s) = let q : y ≡ h = cc in inr (s ∙ ap t q)
    by_test ih true e (inr s) = inl (inr s)
    by_test ih false e (inl s) = inl (inl s)
    by_test ih false e (inr s) = ⊎_elim (λ p. inl (inr p)) (λ p. inr p) (ih e s)

pub among_without : (m i : ℕ) (hs : List Held) (x : Held) → Among x (without m i hs) → Among x hs
among_without m i [] x s = elim s [ ]
among_without m i (y ∷ ys) x s = by_test (among_without m i ys x) (is_at m i y.place) s
  where
    by_test : (Among x (without m i ys) → Among x ys) → (b : Bool) → Among x (cond b ys (y ∷ without m i ys)) → Among x (y ∷ ys)
    by_test ih true s = inr s
    by_test ih false (inl s) = inl s
    by_test ih false (inr s) = inr (ih s)

-- the same, where the slot stands there once: the other entries are of other slots
pub among_edit_once : (m i : ℕ) (t : Held → Held) (hs : List Held) (h x : Held) → find m i hs ≡ Some h → total_by (λ y. count_of (is_at m i y.place)) hs ≤ 1 → Among x (edit m i t hs) → (Among x hs × (is_at m i x.place ≡ false)) ⊎ (x ≡ t h)
among_edit_once m i t [] h x e o s = absurd (cc)
among_edit_once m i t (y ∷ ys) h x e o s = by_test (among_edit_once m i t ys h x) (is_at m i y.place) refl e o s
  where
    by_test : (find m i ys ≡ Some h → total_by (λ y. count_of (is_at m i y.place)) ys ≤ 1 → Among x (edit m i t ys) → (Among x ys × (is_at m i x.place ≡ false)) ⊎ (x ≡ t h)) → (b : Bool) → is_at m i y.place ≡ b → cond b (Some y) (find m i ys) ≡ Some h
        → count_of b + total_by (λ y. count_of (is_at m i y.place)) ys ≤ 1 → Among x (cond b (t y ∷ ys) (y ∷ edit m i t ys)) → (Among x (y ∷ ys) × (is_at m i x.place ≡ false)) ⊎ (x ≡ t h)
    by_test ih true is e o (inl s) = let q : y ≡ h = cc in inr (s ∙ ap t q)
    by_test ih true is e o (inr s) = inl (inr s, count_of-zero (is_at m i x.place) (let w = total_by-among (λ y. count_of (is_at m i y.place)) ys x s in omega arith))
    by_test ih false is e o (inl s) = inl (inl s, subst (λ z. is_at m i z.place ≡ false) (sym s) is)
    by_test ih false is e o (inr s) = ⊎_elim (λ p. inl (inr p.0, p.1)) (λ p. inr p) (ih e (omega arith) s)

pub among_without_once : (m i : ℕ) (hs : List Held) (h x : Held) → find m i hs ≡ Some h → total_by (λ y. count_of (is_at m i y.place)) hs ≤ 1 → Among x (without m i hs) → Among x hs × (is_at m i x.place ≡ false)
among_without_once m i [] h x e o s = elim s [ ]
among_without_once m i (y ∷ ys) h x e o s = by_test (among_without_once m i ys h x) (is_at m i y.place) refl e o s
  where
    by_test : (find m i ys ≡ Some h → total_by (λ y. count_of (is_at m i y.place)) ys ≤ 1 → Among x (without m i ys) → Among x ys × (is_at m i x.place ≡ false)) → (b : Bool) → is_at m i y.place ≡ b → cond b (Some y) (find m i ys) ≡ Some h
        → count_of b + total_by (λ y. count_of (is_at m i y.place)) ys ≤ 1 → Among x (cond b ys (y ∷ without m i ys)) → Among x (y ∷ ys) × (is_at m i x.place ≡ false)
    by_test ih true is e o s = (inr s, count_of-zero (is_at m i x.place) (let w = total_by-among (λ y. count_of (is_at m i y.place)) ys x s in omega arith))
    by_test ih false is e o (inl s) = (inl s, subst (λ z. is_at m i z.place ≡ false) (sym s) is)
    by_test ih false is e o (inr s) = let r = ih e (omega arith) s in (inr r.0, r.1)

-- a place at which the test holds
pub is_at-true : (m i : ℕ) (p : Place) → is_at m i p ≡ true → (p.group.meta ≡ m) × (p.index ≡ i)
is_at-true m i p e = grind (arith, nat_tests)

pub is_at-here : (p : Place) → is_at p.group.meta p.index p ≡ true
is_at-here p = grind (arith, nat_tests)

-- where all count for something, one does
pub total_by-some_at : {A : Type 0} (f : A → ℕ) (xs : List A) → 0 < total_by f xs → (j : ℕ) × (x : A) × (get_elem? xs j ≡ some x) × (0 < f x)
total_by-some_at f [] h = absurd (omega arith)
total_by-some_at f (x ∷ xs) h = ⊎_elim (λ (l : 0 < f x). (0, x, refl, l)) (λ (l : f x ≤ 0). let r = total_by-some_at f xs (omega arith) in (suc r.0, r.1, r.2, r.3)) (cases_lt 0 (f x))

-- the desk is a view's
pub desk_at : (vs : List View) → (desk_of vs ≡ no_desk) ⊎ ((j : ℕ) × (u : View) × (get_elem? vs j ≡ some u) × (u.desk ≡ desk_of vs))
desk_at [] = inl refl
desk_at (v ∷ vs) = by_test (desk_at vs) v.leads
  where
    by_test : ((desk_of vs ≡ no_desk) ⊎ ((j : ℕ) × (u : View) × (get_elem? vs j ≡ some u) × (u.desk ≡ desk_of vs))) → (b : Bool) → (cond b v.desk (desk_of vs) ≡ no_desk) ⊎ ((j : ℕ) × (u : View) × (get_elem? (v ∷ vs) j ≡ some u) × (u.desk ≡ cond b v.desk (desk_of vs)))
    by_test ih true = inr (0, v, refl, refl)
    by_test ih false = ⊎_elim (λ n. inl n) (λ r. inr (suc r.0, r.1, r.2, r.3)) ih

-- the entry of a slot that stands there once
pub among_one : (m i : ℕ) (hs : List Held) (h x : Held) → find m i hs ≡ Some h → total_by (λ y. count_of (is_at m i y.place)) hs ≤ 1 → Among x hs → is_at m i x.place ≡ true → x ≡ h
among_one m i [] h x e o s is = elim s [ ]
among_one m i (y ∷ ys) h x e o s is = by_test (among_one m i ys h x) (is_at m i y.place) refl e o s
  where
    by_test : (find m i ys ≡ Some h → total_by (λ y. count_of (is_at m i y.place)) ys ≤ 1 → Among x ys → is_at m i x.place ≡ true → x ≡ h) → (b : Bool) → is_at m i y.place ≡ b → cond b (Some y) (find m i ys) ≡ Some h
        → count_of b + total_by (λ y. count_of (is_at m i y.place)) ys ≤ 1 → Among x (y ∷ ys) → x ≡ h
    by_test ih true q e o (inl s) = let r : y ≡ h = cc in s ∙ r
    by_test ih true q e o (inr s) = absurd (let w = total_by-among (λ y. count_of (is_at m i y.place)) ys x s in let p : count_of (is_at m i x.place) ≡ 1 = ap count_of is in omega arith)
    by_test ih false q e o (inl s) = absurd (true≢false (sym is ∙ ap (λ (z : Held). is_at m i z.place) s ∙ q))
    by_test ih false q e o (inr s) = ih e (omega arith) s is

-- the leader's desk is the desk
pub desk_lead : (vs : List View) (id : ℕ) (v w : View) → get_elem? vs id ≡ some v → v.leads ≡ true → total_by (λ (u : View). count_of u.leads) vs ≡ 1 → w.leads ≡ true → (desk_of vs ≡ v.desk) × (desk_of (set vs id w) ≡ w.desk)
desk_lead [] id v w e l one l' = absurd (some-ne-none v (sym e))
desk_lead (x ∷ xs) zero v w e l one l' =
    let q = some-injective x v e in
    (subst (λ (y : View). cond y.leads y.desk (desk_of xs) ≡ v.desk) (sym q) (ap (λ b. cond b v.desk (desk_of xs)) l), ap (λ b. cond b w.desk (desk_of xs)) l')
desk_lead (x ∷ xs) (suc id) v w e l one l' =
    let o = total_by-one (λ (u : View). count_of u.leads) xs id v e in
    let p : count_of v.leads ≡ 1 = ap count_of l in
    let f : x.leads ≡ false = count_of-zero x.leads (omega arith) in
    let z : count_of x.leads ≡ 0 = ap count_of f in
    let r = desk_lead xs id v w e l (omega arith) l' in
    (ap (λ b. cond b x.desk (desk_of xs)) f ∙ r.0, ap (λ b. cond b x.desk (desk_of (set xs id w))) f ∙ r.1)

-- the numbers below k that pass a test
pub select-times : (t : ℕ → Bool) (k i : ℕ) → i < k → total_by (λ j. count_of (eqb j i)) (select t k) ≡ count_of (t i)
select-times t zero i h = absurd (omega arith)
select-times t (suc k) i h = by_test (select-times t k i) (t k) refl
  where
    none : (k : ℕ) (i : ℕ) → k ≤ i → total_by (λ j. count_of (eqb j i)) (select t k) ≡ 0
    none zero i h = refl
    none (suc k) i h = none_test (none k i (omega arith)) (t k)
      where
        none_test : total_by (λ j. count_of (eqb j i)) (select t k) ≡ 0 → (b : Bool) → total_by (λ j. count_of (eqb j i)) (cond b (k ∷ select t k) (select t k)) ≡ 0
        none_test r true = let q : count_of (eqb k i) ≡ 0 = ap count_of (ne_eqb k i (λ e. omega arith)) in omega arith
        none_test r false = r

    by_test : (i < k → total_by (λ j. count_of (eqb j i)) (select t k) ≡ count_of (t i)) → (b : Bool) → t k ≡ b → total_by (λ j. count_of (eqb j i)) (cond b (k ∷ select t k) (select t k)) ≡ count_of (t i)
    by_test ih true is =
        ⊎_elim
        (λ (e : i ≡ k). let a : count_of (eqb k i) ≡ 1 = ap count_of (eq-eqb k i (sym e)) in let c = none k i (omega arith) in let d : count_of (t i) ≡ 1 = ap (λ n. count_of (t n)) e ∙ ap count_of is in omega arith)
        (λ (n : i ≢ k). let a : count_of (eqb k i) ≡ 0 = ap count_of (ne_eqb k i (λ q. n (sym q))) in let r = ih (omega arith) in omega arith)
        (cases_eq i k)
    by_test ih false is = ⊎_elim (λ (e : i ≡ k). let c = none k i (omega arith) in let d : count_of (t i) ≡ 0 = ap (λ n. count_of (t n)) e ∙ ap count_of is in omega arith) (λ (n : i ≢ k). ih (omega arith)) (cases_eq i k)

pub find_edit : (m i : ℕ) (t : Held → Held) (hs : List Held) (h : Held) → ((y : Held) → (t y).place ≡ y.place) → find m i hs ≡ Some h → find m i (edit m i t hs) ≡ Some (t h)
find_edit m i t [] h k e = absurd (cc)
find_edit m i t (x ∷ xs) h k e = by_test (find_edit m i t xs h k) (is_at m i x.place) refl e
  where
    by_test : (find m i xs ≡ Some h → find m i (edit m i t xs) ≡ Some (t h)) → (b : Bool) → is_at m i x.place ≡ b → cond b (Some x) (find m i xs) ≡ Some h → find m i (cond b (t x ∷ xs) (x ∷ edit m i t xs)) ≡ Some (t h)
    by_test ih true is e = let q : x ≡ h = cc in ap (λ b. cond b (Some (t x)) (find m i xs)) (ap (is_at m i) (k x) ∙ is) ∙ ap (λ y. Some (t y)) q
    by_test ih false is e = ap (λ b. cond b (Some x) (find m i (edit m i t xs))) is ∙ ih e

pub set_twice : {A : Type 0} (xs : List A) (k : ℕ) (a b : A) → set (set xs k a) k b ≡ set xs k b
set_twice [] k a b = refl
set_twice (x ∷ xs) zero a b = refl
set_twice (x ∷ xs) (suc k) a b = ap (λ l. x ∷ l) (set_twice xs k a b)

pub at_now : {A : Type 0} (xs : List A) (k : ℕ) (a b : A) → get_elem? xs k ≡ some a → get_elem? (set xs k b) k ≡ some b
at_now [] k a b e = absurd (some-ne-none a (sym e))
at_now (x ∷ xs) zero a b e = refl
at_now (x ∷ xs) (suc k) a b e = at_now xs k a b e

-- where all count for something, one among them does
pub total_by-some : {A : Type 0} (f : A → ℕ) (xs : List A) → 0 < total_by f xs → (x : A) × Among x xs × (0 < f x)
total_by-some f [] h = absurd (omega arith)
total_by-some f (x ∷ xs) h = ⊎_elim (λ (l : 0 < f x). (x, inl refl, l)) (λ (l : f x ≤ 0). let r = total_by-some f xs (omega arith) in (r.0, inr r.1, r.2)) (cases_lt 0 (f x))

pub count_of-most : (b : Bool) → count_of b ≤ 1
count_of-most true = omega arith
count_of-most false = omega arith

pub counted : (n k : ℕ) → 0 < count_of (eqb n k) → n ≡ k
counted n k h = by_test (eqb n k) refl h
  where
    tested : (n k : ℕ) → eqb n k ≡ true → n ≡ k
    tested n k e = grind (arith, nat_tests)

    by_test : (b : Bool) → eqb n k ≡ b → 0 < count_of b → n ≡ k
    by_test true is h = tested n k is
    by_test false is h = absurd (omega arith)

-- the runs but those at an address
pub run_was : (a : ℕ) (rs : List Run) (r : Run) → Among r (runs_but a rs) → Among r rs × (r.addr ≢ a)
run_was a [] r s = elim s [ ]
run_was a (x ∷ xs) r s = by_test (run_was a xs r) (eqb x.addr a) refl s
  where
    untested : (n k : ℕ) → eqb n k ≡ false → n ≢ k
    untested n k e q = true≢false (sym (eq-eqb n k q) ∙ e)

    by_test : (Among r (runs_but a xs) → Among r xs × (r.addr ≢ a)) → (b : Bool) → eqb x.addr a ≡ b → Among r (cond b (runs_but a xs) (x ∷ runs_but a xs)) → Among r (x ∷ xs) × (r.addr ≢ a)
    by_test ih true is s = let t = ih s in (inr t.0, t.1)
    by_test ih false is (inl e) = (inl e, subst (λ (z : Run). z.addr ≢ a) (sym e) (untested x.addr a is))
    by_test ih false is (inr s) = let t = ih s in (inr t.0, t.1)

pub run_stays : (a : ℕ) (rs : List Run) (r : Run) → Among r rs → r.addr ≢ a → Among r (runs_but a rs)
run_stays a [] r s ne = elim s [ ]
run_stays a (x ∷ xs) r s ne = by_test (λ t. run_stays a xs r t ne) (eqb x.addr a) refl s
  where
    tested : (n k : ℕ) → eqb n k ≡ true → n ≡ k
    tested n k e = grind (arith, nat_tests)

    by_test : (Among r xs → Among r (runs_but a xs)) → (b : Bool) → eqb x.addr a ≡ b → Among r (x ∷ xs) → Among r (cond b (runs_but a xs) (x ∷ runs_but a xs))
    by_test ih true is (inl e) = absurd (ne (ap (λ (z : Run). z.addr) e ∙ tested x.addr a is))
    by_test ih true is (inr s) = ih s
    by_test ih false is (inl e) = inl e
    by_test ih false is (inr s) = inr (ih s)

pub runs_but-total : (f : Run → ℕ) (a : ℕ) (rs : List Run) → total_by f (runs_but a rs) ≤ total_by f rs
runs_but-total f a [] = omega arith
runs_but-total f a (x ∷ xs) = by_test (runs_but-total f a xs) (eqb x.addr a)
  where
    by_test : total_by f (runs_but a xs) ≤ total_by f xs → (b : Bool) → total_by f (cond b (runs_but a xs) (x ∷ runs_but a xs)) ≤ f x + total_by f xs
    by_test ih true = omega arith
    by_test ih false = omega arith

pub runs_but-none : (a : ℕ) (rs : List Run) → total_by (λ (r : Run). count_of (eqb r.addr a)) (runs_but a rs) ≡ 0
runs_but-none a [] = refl
runs_but-none a (x ∷ xs) = by_test (runs_but-none a xs) (eqb x.addr a) refl
  where
    by_test : total_by (λ (r : Run). count_of (eqb r.addr a)) (runs_but a xs) ≡ 0 → (b : Bool) → eqb x.addr a ≡ b → total_by (λ (r : Run). count_of (eqb r.addr a)) (cond b (runs_but a xs) (x ∷ runs_but a xs)) ≡ 0
    by_test ih true is = ih
    by_test ih false is = let z : count_of (eqb x.addr a) ≡ 0 = ap count_of is in omega arith
