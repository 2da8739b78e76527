-- The slots that carry nested groups, when groups come and go.
use Rattle.std.proofs.Common.{◌≡◌, ◌≢◌, ℕ, ◌+◌, ◌≤◌, eqb, cond, Bool, true, false, List, [], ◌∷◌, Some, refl, sym, ap, subst, ◌∙◌, ⊎_elim, inl, inr, arith}
use Rattle.std.proofs.lemmas.Bool.{cases_eq, eqb-true, eqb-false}
use Rattle.std.proofs.lemmas.Option.{none-some, same_Some}
use Rattle.ng_rule.proofs.geometry.Bits.{count_of-same, count_of-other}
use Rattle.ng_rule.proofs.geometry.Lists.{count_of-most, total_by-among}
use Rattle.ng_meta.specs.Place.{IsMetaPlace}
use Rattle.ng_shelf.specs.Parents.{IsSameBut, ParentTable, parent_of}
use Rattle.ng_view.specs.LockSteps.{groups_but, nest_of, without_nest}
use Rattle.ng_view.specs.Lists.{Among, count_of, total_by}
use Rattle.ng_view.specs.declared.view.Group.{Group}
use Rattle.ng_view.specs.declared.view.Nest.{Nest}
use Rattle.ng_view.specs.declared.view.Place.{Place}
use Rattle.ng_ledger.specs.Carriers.{AreCarried, AreNested, IsBorn, IsUncarried}
use Rattle.ng_ledger.specs.Groups.{AreGroups, IsUnborn}
use Rattle.ng_ledger.proofs.GroupLemmas.{group_left}

-- how many of the slots carry a group of the meta
abbrev carried_at : ℕ → List Nest → ℕ
carried_at m ns = total_by (λ (n : Nest). count_of (eqb n.child m)) ns

-- ---- the slots that carry

-- the slot that is found carries the group
pub nest_found : (m : ℕ) (ns : List Nest) (n : Nest) → nest_of m ns ≡ Some n → Among n ns × (n.child ≡ m)
nest_found m [] n is = absurd (none-some n is)
nest_found m (x ∷ xs) n is = by_test (nest_found m xs n) (eqb x.child m) refl is
  where
    by_test : (nest_of m xs ≡ Some n → Among n xs × (n.child ≡ m)) → (b : Bool) → eqb x.child m ≡ b → cond b (Some x) (nest_of m xs) ≡ Some n → Among n (x ∷ xs) × (n.child ≡ m)
    by_test step true same is =
        let e : x ≡ n = same_Some x n is in
        (inl (sym e), ap (λ (y : Nest). y.child) (sym e) ∙ eqb-true x.child m same)
    by_test step false other is = let t = step is in (inr t.0, t.1)

-- what carries still once the slot of a meta doesn't
pub nests_were : (m : ℕ) (ns : List Nest) (n : Nest) → Among n (without_nest m ns) → Among n ns
nests_were m [] n there = there
nests_were m (x ∷ xs) n there = by_test (nests_were m xs n) (eqb x.child m) there
  where
    by_test : (Among n (without_nest m xs) → Among n xs) → (b : Bool) → Among n (cond b xs (x ∷ without_nest m xs)) → Among n (x ∷ xs)
    by_test step true there = inr there
    by_test step false (inl same) = inl same
    by_test step false (inr there) = inr (step there)

-- no slot carries what is counted nowhere
uncarried_none : (m : ℕ) (ns : List Nest) → carried_at m ns ≡ 0 → IsUncarried ns m
uncarried_none m ns none n there same =
    let one : count_of (eqb n.child m) ≡ 1 = ap (λ k. count_of (eqb k m)) same ∙ count_of-same m in
    let part = total_by-among (λ (x : Nest). count_of (eqb x.child m)) ns n there in
    omega arith

none_uncarried : (m : ℕ) (ns : List Nest) → IsUncarried ns m → carried_at m ns ≡ 0
none_uncarried m [] out = refl
none_uncarried m (x ∷ xs) out =
    let first : count_of (eqb x.child m) ≡ 0 = count_of-other x.child m (out x (inl refl)) in
    let rest = none_uncarried m xs (λ n t. out n (inr t)) in
    omega arith

-- without the slot of a meta none carries it, where one did at most
pub uncarried_without : (m : ℕ) (ns : List Nest) → carried_at m ns ≤ 1 → IsUncarried (without_nest m ns) m
uncarried_without m [] once n there same = elim there [ ]
uncarried_without m (x ∷ xs) once n there same = by_test (λ few t. uncarried_without m xs few n t same) (eqb x.child m) refl there
  where
    by_test : (carried_at m xs ≤ 1 → Among n (without_nest m xs) → ⊥) → (b : Bool) → eqb x.child m ≡ b → Among n (cond b xs (x ∷ without_nest m xs)) → ⊥
    by_test step true is there =
        let one : count_of (eqb x.child m) ≡ 1 = ap count_of is in
        uncarried_none m xs (omega arith) n there same
    by_test step false is (inl e) = eqb-false x.child m is (ap (λ (y : Nest). y.child) (sym e) ∙ same)
    by_test step false is (inr there) = step (omega arith) there

without-most : (m k : ℕ) (ns : List Nest) → carried_at k (without_nest m ns) ≤ carried_at k ns
without-most m k [] = omega arith
without-most m k (x ∷ xs) = by_test (without-most m k xs) (eqb x.child m)
  where
    by_test : carried_at k (without_nest m xs) ≤ carried_at k xs → (b : Bool) → carried_at k (cond b xs (x ∷ without_nest m xs)) ≤ count_of (eqb x.child k) + carried_at k xs
    by_test step true = omega arith
    by_test step false = omega arith

-- ---- the slots that carry, and the live groups

-- no slot carries an unborn group
pub uncarried : (gs : List Group) (ns : List Nest) (m : ℕ) → AreNested gs ns → IsUnborn gs m → IsUncarried ns m
uncarried gs ns m are unborn n there same = let b = are.born n there in unborn b.group b.there (b.of_meta ∙ same)

-- what a slot carries has its meta in the space
pub child_place : (pages : ℕ) (gs : List Group) (ns : List Nest) → AreGroups pages gs → AreNested gs ns → (n : Nest) → Among n ns → IsMetaPlace n.child pages
child_place pages gs ns groups are n there = let b = are.born n there in subst (λ m. IsMetaPlace m pages) b.of_meta (groups.each b.group b.there).place

-- a group comes
pub nested_more : (gs : List Group) (ns : List Nest) (g : Group) → AreNested gs ns → AreNested (g ∷ gs) ns
nested_more gs ns g are = record {
  born = λ n there. let b = are.born n there in record { group = b.group; there = inr b.there; of_meta = b.of_meta };
  once = are.once;
}

-- a group comes in a slot
pub nested_in_slot : (gs : List Group) (ns : List Nest) (g : Group) (p : Place) → AreNested gs ns → IsUnborn gs g.meta → AreNested (g ∷ gs) (record { place = p; child = g.meta } ∷ ns)
nested_in_slot gs ns g p are unborn = record { born = born; once = once }
  where
    born : (n : Nest) → Among n (record { place = p; child = g.meta } ∷ ns) → IsBorn (g ∷ gs) n.child
    born n (inl e) = record { group = g; there = inl refl; of_meta = ap (λ (x : Nest). x.child) (sym e) }
    born n (inr t) = let b = are.born n t in record { group = b.group; there = inr b.there; of_meta = b.of_meta }

    once : (m : ℕ) → count_of (eqb g.meta m) + carried_at m ns ≤ 1
    once m = ⊎_elim
        (λ (same : g.meta ≡ m).
        let none = none_uncarried m ns (subst (IsUncarried ns) same (uncarried gs ns g.meta are unborn)) in
        let most = count_of-most (eqb g.meta m) in
        omega arith)
        (λ (other : g.meta ≢ m).
        let none : count_of (eqb g.meta m) ≡ 0 = count_of-other g.meta m other in
        let few = are.once m in
        omega arith)
        (cases_eq g.meta m)

-- a group goes, and the slot that carried it, if one did, carries none
pub nested_less : (gs : List Group) (ns : List Nest) (m : ℕ) → AreNested gs ns → AreNested (groups_but m gs) (without_nest m ns)
nested_less gs ns m are = record {
  born = λ n there.
      let b = are.born n (nests_were m ns n there) in
      record { group = b.group; there = group_left gs m b.group b.there (λ same. uncarried_without m ns (are.once m) n there (sym b.of_meta ∙ same)); of_meta = b.of_meta };
  once = λ k. let few = are.once k in let less = without-most m k ns in omega arith;
}

-- ---- the table of the slots that carry

-- a group comes in a slot, which is set in the table
pub carried_set : (ns : List Nest) (t t' : ParentTable) (p : Place) (m : ℕ) → AreCarried ns t → IsUncarried ns m → ((n : Nest) → Among n ns → IsMetaPlace n.child t.pages) → parent_of t' m ≡ Some (p.group.meta, p.index) → IsSameBut m t t' → AreCarried (record { place = p; child = m } ∷ ns) t'
carried_set ns t t' p m are out places is others n (inl e) =
    subst (λ (x : Nest). parent_of t' x.child ≡ Some (x.place.group.meta, x.place.index)) (sym e) is
carried_set ns t t' p m are out places is others n (inr there) =
    others n.child (places n there) (out n there) ∙ are n there

-- a group goes
pub carried_less : (ns : List Nest) (t : ParentTable) (m : ℕ) → AreCarried ns t → AreCarried (without_nest m ns) t
carried_less ns t m are n there = are n (nests_were m ns n there)

-- the table has the slot that is found
pub carrier : (ns : List Nest) (t : ParentTable) (m : ℕ) (n : Nest) → nest_of m ns ≡ Some n → AreCarried ns t → parent_of t m ≡ Some (n.place.group.meta, n.place.index)
carrier ns t m n found are =
    let at = nest_found m ns n found in
    ap (parent_of t) (sym at.1) ∙ are n at.0
