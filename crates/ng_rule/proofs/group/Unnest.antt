-- Retire of a mapped group, and of one that a slot carries.
use Rattle.std.proofs.Common.{◌≡◌, ◌≢◌, ℕ, ◌+◌, ◌/◌, ◌%◌, ◌<◌, ◌≤◌, eqb, eq-eqb, cond, Bool, true, false, true≢false, List, [], ◌∷◌, set, refl, sym, ap, ◌∙◌, subst, ⊎_elim, inl, inr, arith}
use mathlib.Core.Option.{some}
use lib.ListN.{get_elem?}
use Rattle.std.specs.Prelude.{Some, None}
use Rattle.ng_view.specs.declared.view.Held.{Held}
use Rattle.ng_view.specs.declared.view.Nest.{Nest}
use Rattle.ng_view.specs.declared.view.Layout.{Layout}
use Rattle.ng_view.specs.declared.view.Desk.{Desk}
use Rattle.ng_view.specs.declared.view.View.{View}
use Rattle.ng_view.specs.declared.view.Start.{Start}
use Rattle.ng_view.specs.Lists.{Among, total_by, count_of, find}
use Rattle.ng_view.specs.Cells.{tag, last}
use Rattle.ng_view.specs.Views.{desk_of}
use Rattle.ng_view.specs.Rule.{Rule}
use Rattle.ng_view.specs.LockSteps.{nest_of, without_nest, retired}
use Rattle.ng_rule.proofs.geometry.Lists.{desk_lead}
use Rattle.std.proofs.lemmas.Bool.Decides.{nat_tests}
use Rattle.ng_rule.proofs.geometry.Lists.{total_by-among}
use Rattle.ng_rule.proofs.group.Retire.{retires}

nest_among : (m : ℕ) (ns : List Nest) (n : Nest) → nest_of m ns ≡ Some n → Among n ns
nest_among m [] n e = absurd (cc)
nest_among m (x ∷ xs) n e = by_test (nest_among m xs n) (eqb x.child m) e
  where
    by_test : (nest_of m xs ≡ Some n → Among n xs) → (b : Bool) → cond b (Some x) (nest_of m xs) ≡ Some n → Among n (x ∷ xs)
    by_test ih true e = let q : x ≡ n = cc in inl (sym q)
    by_test ih false e = inr (ih e)

total_by-nest : (f : Nest → ℕ) (m : ℕ) (ns : List Nest) (n : Nest) → nest_of m ns ≡ Some n → total_by f (without_nest m ns) + f n ≡ total_by f ns
total_by-nest f m [] n e = absurd (cc)
total_by-nest f m (x ∷ xs) n e = by_test (total_by-nest f m xs n) (eqb x.child m) e
  where
    by_test : (nest_of m xs ≡ Some n → total_by f (without_nest m xs) + f n ≡ total_by f xs) → (b : Bool) → cond b (Some x) (nest_of m xs) ≡ Some n → total_by f (cond b xs (x ∷ without_nest m xs)) + f n ≡ f x + total_by f xs
    by_test ih true e = let q : x ≡ n = cc in let p : f x ≡ f n = ap f q in omega arith
    by_test ih false e = let r = ih e in omega arith

tested : (n k : ℕ) → eqb n k ≡ true → n ≡ k
tested n k e = grind (arith, nat_tests)

-- the nests of other children stay, and no other comes
nest_stays : (m : ℕ) (ns : List Nest) (n : Nest) → Among n ns → n.child ≢ m → Among n (without_nest m ns)
nest_stays m [] n s ne = elim s [ ]
nest_stays m (x ∷ xs) n s ne = by_test (λ t. nest_stays m xs n t ne) (eqb x.child m) refl s
  where
    by_test : (Among n xs → Among n (without_nest m xs)) → (b : Bool) → eqb x.child m ≡ b → Among n (x ∷ xs) → Among n (cond b xs (x ∷ without_nest m xs))
    by_test ih true is (inl e) = absurd (ne (ap (λ (y : Nest). y.child) e ∙ tested x.child m is))
    by_test ih true is (inr s) = s
    by_test ih false is (inl e) = inl e
    by_test ih false is (inr s) = inr (ih s)

nest_was : (m : ℕ) (ns : List Nest) (n : Nest) → total_by (λ (y : Nest). count_of (eqb y.child m)) ns ≤ 1 → Among n (without_nest m ns) → Among n ns × (n.child ≢ m)
nest_was m [] n one s = elim s [ ]
nest_was m (x ∷ xs) n one s = by_test (nest_was m xs n) (eqb x.child m) refl one s
  where
    by_test : (total_by (λ (y : Nest). count_of (eqb y.child m)) xs ≤ 1 → Among n (without_nest m xs) → Among n xs × (n.child ≢ m)) → (b : Bool) → eqb x.child m ≡ b → count_of b + total_by (λ (y : Nest). count_of (eqb y.child m)) xs ≤ 1
        → Among n (cond b xs (x ∷ without_nest m xs)) → Among n (x ∷ xs) × (n.child ≢ m)
    by_test ih true is one s = (inr s, λ q. let w = total_by-among (λ (y : Nest). count_of (eqb y.child m)) xs n s in let p : count_of (eqb n.child m) ≡ 1 = ap count_of (eq-eqb n.child m q) in omega arith)
    by_test ih false is one (inl e) = (inl e, λ q. true≢false (sym (eq-eqb x.child m (sym (ap (λ (y : Nest). y.child) e) ∙ q)) ∙ is))
    by_test ih false is one (inr s) = let r = ih (omega arith) s in (inr r.0, r.1)

module _ (key : Start) (ws : List ℕ) (vs : List View) (id : ℕ) (v : View) (kept : Rule key ws vs) (here_v : get_elem? vs id ≡ some v) (leads : v.leads ≡ true)
    (m : ℕ) (al : m % 4 ≡ 0) (live : 0 < tag ws m) (all : (i : ℕ) → i ≤ last ws m → (h : Held) × (find m i v.held ≡ Some h) × (h.block ≡ None)) where
  layout_was : (desk_of vs).layout ≡ v.desk.layout
  layout_was = ap (λ (z : Desk). z.layout) (desk_lead vs id v v here_v leads kept.hands.leaders leads).0

  single : (k : ℕ) → total_by (λ (n : Nest). count_of (eqb n.child k)) v.desk.layout.nests ≤ 1
  single k = subst (λ (d : Layout). total_by (λ (n : Nest). count_of (eqb n.child k)) d.nests ≤ 1) layout_was (kept.words.lawful.single k)

  -- no slot carries it
  pub retires_mapped : ((n : Nest) → Among n v.desk.layout.nests → n.child ≢ m) → Rule key (set ws ((m + 24) / 4) 0) (set vs id (retired v m [] v.desk.layout.nests))
  retires_mapped none = retires key ws vs id v kept here_v leads m al live all [] v.desk.layout.nests
      (λ n t. (subst (λ (d : Layout). Among n d.nests) (sym layout_was) t, none n t)) (λ n t ne. subst (λ (d : Layout). Among n d.nests) layout_was t)
      (λ k. subst (λ (d : Layout). total_by (λ (n : Nest). count_of (eqb n.child k)) v.desk.layout.nests ≤ total_by (λ (n : Nest). count_of (eqb n.child k)) d.nests) (sym layout_was) (omega arith))
      (λ f. omega arith) (λ h t. elim t [ ])

  -- one does, and is in motion again
  pub retires_nested : (n : Nest) → nest_of m v.desk.layout.nests ≡ Some n → Rule key (set ws ((m + 24) / 4) 0) (set vs id (retired v m (record { place = n.place; block = None; cells = [] } ∷ []) (without_nest m v.desk.layout.nests)))
  retires_nested n found = retires key ws vs id v kept here_v leads m al live all (record { place = n.place; block = None; cells = [] } ∷ []) (without_nest m v.desk.layout.nests)
      (λ y t. let r = nest_was m v.desk.layout.nests y (single m) t in (subst (λ (d : Layout). Among y d.nests) (sym layout_was) r.0, r.1))
      (λ y t ne. nest_stays m v.desk.layout.nests y (subst (λ (d : Layout). Among y d.nests) layout_was t) ne)
      (λ k. subst (λ (d : Layout). total_by (λ (y : Nest). count_of (eqb y.child k)) (without_nest m v.desk.layout.nests) ≤ total_by (λ (y : Nest). count_of (eqb y.child k)) d.nests) (sym layout_was) (let w = total_by-nest (λ (y : Nest). count_of (eqb y.child k)) m v.desk.layout.nests n found in omega arith))
      (λ f. let w = total_by-nest (λ (y : Nest). f y.place) m v.desk.layout.nests n found in omega arith)
      (λ h t. ⊎_elim (λ (e : h ≡ record { place = n.place; block = None; cells = [] }). subst (λ (z : Held). (z.block ≡ None) × (z.cells ≡ []) × (y : Nest) × Among y v.desk.layout.nests × (z.place ≡ y.place)) (sym e) (refl, refl, n, nest_among m v.desk.layout.nests n found, refl)) (λ (e : ⊥). absurd e) t)
