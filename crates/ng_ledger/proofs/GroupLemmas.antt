-- The live groups as one comes or goes.
use Rattle.std.proofs.Common.{◌≡◌, ◌≢◌, ◌⊎◌, ℕ, ◌+◌, ◌≤◌, eqb, cond, Bool, true, false, List, [], ◌∷◌, refl, ap, sym, subst, ◌∙◌, ⊎_elim, inl, inr, arith}
use Rattle.std.proofs.lemmas.Bool.{cases_eq, eqb-true, eqb-false, eq-eqb, ne_eqb}
use Rattle.ng_view.specs.Lists.{Among, count_of}
use Rattle.ng_view.specs.LockSteps.{groups_but}
use Rattle.ng_view.specs.declared.view.Group.{Group}
use Rattle.ng_rule.proofs.geometry.Lists.{total_by-among}
use Rattle.ng_ledger.specs.Groups.{AreGroups, IsGroup, IsOfClass, IsUnborn, metas_at}

-- no group is counted at a meta without one
pub metas_at-unborn : (gs : List Group) (m : ℕ) → IsUnborn gs m → metas_at m gs ≡ 0
metas_at-unborn [] m unborn = refl
metas_at-unborn (g ∷ gs) m unborn =
    let here : count_of (eqb g.meta m) ≡ 0 = ap count_of (ne_eqb g.meta m (unborn g (inl refl))) in
    let rest : metas_at m gs ≡ 0 = metas_at-unborn gs m (λ h there. unborn h (inr there)) in
    omega (arith, here, rest)

-- a group is counted at its meta
pub metas_at-among : (gs : List Group) (m : ℕ) (g : Group) → Among g gs → g.meta ≡ m → 1 ≤ metas_at m gs
metas_at-among gs m g there of_meta =
    let here : count_of (eqb g.meta m) ≡ 1 = ap count_of (eq-eqb g.meta m of_meta) in
    let all : count_of (eqb g.meta m) ≤ metas_at m gs = total_by-among (λ (h : Group). count_of (eqb h.meta m)) gs g there in
    omega (arith, here, all)

-- no more groups are counted at any meta once those of one are gone
pub metas_at-groups_but : (gs : List Group) (m k : ℕ) → metas_at k (groups_but m gs) ≤ metas_at k gs
metas_at-groups_but [] m k = omega arith
metas_at-groups_but (g ∷ gs) m k = by_test (metas_at-groups_but gs m k) (eqb g.meta m)
  where
    by_test : metas_at k (groups_but m gs) ≤ metas_at k gs → (b : Bool) → metas_at k (cond b (groups_but m gs) (g ∷ groups_but m gs)) ≤ count_of (eqb g.meta k) + metas_at k gs
    by_test rest true = omega arith
    by_test rest false = omega arith

-- two groups with one meta are one group
pub same_group : (pages : ℕ) (gs : List Group) (g h : Group) → AreGroups pages gs → Among g gs → Among h gs → g.meta ≡ h.meta → g ≡ h
same_group pages gs g h are here there same = one gs (are.once h.meta) here there
  where
    one : (ks : List Group) → metas_at h.meta ks ≤ 1 → Among g ks → Among h ks → g ≡ h
    one [] once here there = elim here [ ]
    one (k ∷ ks) once (inl is) (inl also) = is ∙ sym also
    one (k ∷ ks) once (inl is) (inr there) =
        let first : count_of (eqb k.meta h.meta) ≡ 1 = ap count_of (eq-eqb k.meta h.meta (ap (λ (x : Group). x.meta) (sym is) ∙ same)) in
        let later : 1 ≤ metas_at h.meta ks = metas_at-among ks h.meta h there refl in
        absurd (omega (arith, first, later, once))
    one (k ∷ ks) once (inr here) (inl also) =
        let first : count_of (eqb k.meta h.meta) ≡ 1 = ap count_of (eq-eqb k.meta h.meta (ap (λ (x : Group). x.meta) (sym also))) in
        let later : 1 ≤ metas_at h.meta ks = metas_at-among ks h.meta g here same in
        absurd (omega (arith, first, later, once))
    one (k ∷ ks) once (inr here) (inr there) = one ks (omega (arith, once)) here there

-- a group comes at a meta without one
pub add_group : (pages : ℕ) (gs : List Group) (g : Group) → AreGroups pages gs → IsGroup pages g → IsUnborn gs g.meta → AreGroups pages (g ∷ gs)
add_group pages gs g are is unborn = record { each = each; once = once }
  where
    each : (h : Group) → Among h (g ∷ gs) → IsGroup pages h
    each h (inl same) = subst (IsGroup pages) (sym same) is
    each h (inr there) = are.each h there

    once : (m : ℕ) → metas_at m (g ∷ gs) ≤ 1
    once m = ⊎_elim
        (λ (same : g.meta ≡ m).
        let here : count_of (eqb g.meta m) ≡ 1 = ap count_of (eq-eqb g.meta m same) in
        let rest : metas_at m gs ≡ 0 = metas_at-unborn gs m (subst (IsUnborn gs) same unborn) in
        omega (arith, here, rest))
        (λ (other : g.meta ≢ m).
        let here : count_of (eqb g.meta m) ≡ 0 = ap count_of (ne_eqb g.meta m other) in
        let rest : metas_at m gs ≤ 1 = are.once m in
        omega (arith, here, rest))
        (cases_eq g.meta m)

-- a group that is left was there, and has another meta
pub groups_were : (gs : List Group) (m : ℕ) (h : Group) → Among h (groups_but m gs) → Among h gs × (h.meta ≢ m)
groups_were [] m h there = elim there [ ]
groups_were (g ∷ gs) m h there = by_test (groups_were gs m h) (eqb g.meta m) refl there
  where
    by_test : (Among h (groups_but m gs) → Among h gs × (h.meta ≢ m)) → (b : Bool) → eqb g.meta m ≡ b → Among h (cond b (groups_but m gs) (g ∷ groups_but m gs)) → Among h (g ∷ gs) × (h.meta ≢ m)
    by_test rest true is there = let left = rest there in (inr left.0, left.1)
    by_test rest false is (inl same) = (inl same, λ out. eqb-false g.meta m is (ap (λ (x : Group). x.meta) (sym same) ∙ out))
    by_test rest false is (inr there) = let left = rest there in (inr left.0, left.1)

-- a group with another meta is left
pub group_left : (gs : List Group) (m : ℕ) (h : Group) → Among h gs → h.meta ≢ m → Among h (groups_but m gs)
group_left [] m h there apart = elim there [ ]
group_left (g ∷ gs) m h there apart = by_test (λ there. group_left gs m h there apart) (eqb g.meta m) refl there
  where
    by_test : (Among h gs → Among h (groups_but m gs)) → (b : Bool) → eqb g.meta m ≡ b → Among h (g ∷ gs) → Among h (cond b (groups_but m gs) (g ∷ groups_but m gs))
    by_test rest true is (inl same) = absurd (apart (ap (λ (x : Group). x.meta) same ∙ eqb-true g.meta m is))
    by_test rest true is (inr there) = rest there
    by_test rest false is (inl same) = inl same
    by_test rest false is (inr there) = inr (rest there)

-- the groups of a meta go
pub drop_group : (pages : ℕ) (gs : List Group) (m : ℕ) → AreGroups pages gs → AreGroups pages (groups_but m gs)
drop_group pages gs m are = record {
  each = λ h there. are.each h (groups_were gs m h there).0;
  once = λ k. let fewer : metas_at k (groups_but m gs) ≤ metas_at k gs = metas_at-groups_but gs m k in
      let one : metas_at k gs ≤ 1 = are.once k in
      omega (arith, fewer, one);
}

-- the meta of the groups that went has none
pub unborn_dropped : (gs : List Group) (m : ℕ) → IsUnborn (groups_but m gs) m
unborn_dropped gs m h there of_meta = (groups_were gs m h there).1 of_meta

-- a meta without a group has none once others went
pub unborn_stays : (gs : List Group) (m k : ℕ) → IsUnborn gs k → IsUnborn (groups_but m gs) k
unborn_stays gs m k unborn h there = unborn h (groups_were gs m h there).0

-- a meta other than that of the groups that went had none before either
pub unborn_before : (gs : List Group) (m k : ℕ) → IsUnborn (groups_but m gs) k → k ≢ m → IsUnborn gs k
unborn_before gs m k unborn apart h there of_meta = unborn h (group_left gs m h there (λ out. apart (sym of_meta ∙ out))) of_meta

-- a meta without a group has none once another has one
pub unborn_more : (gs : List Group) (g : Group) (m : ℕ) → IsUnborn gs m → g.meta ≢ m → IsUnborn (g ∷ gs) m
unborn_more gs g m unborn apart h there of_meta = ⊎_elim
    (λ (same : h ≡ g). apart (ap (λ (x : Group). x.meta) (sym same) ∙ of_meta))
    (λ (in' : Among h gs). unborn h in' of_meta)
    there

-- a meta without a group had none before one came
pub unborn_fewer : (gs : List Group) (g : Group) (m : ℕ) → IsUnborn (g ∷ gs) m → IsUnborn gs m × (g.meta ≢ m)
unborn_fewer gs g m unborn = (λ h there. unborn h (inr there), unborn g (inl refl))

-- a meta has a group or has none
pub is_unborn : (gs : List Group) (m : ℕ) → IsUnborn gs m ⊎ ((g : Group) × Among g gs × (g.meta ≡ m))
is_unborn [] m = inl (λ g there. elim there [ ])
is_unborn (g ∷ gs) m = ⊎_elim
    (λ (same : g.meta ≡ m). inr (g, inl refl, same))
    (λ (other : g.meta ≢ m). ⊎_elim
    (λ (unborn : IsUnborn gs m). inl (unborn_more gs g m unborn other))
    (λ (found : (h : Group) × Among h gs × (h.meta ≡ m)). inr (found.0, inr found.1, found.2))
    (is_unborn gs m))
    (cases_eq g.meta m)

-- the class of a meta stays as the groups of another go
pub class_stays : (gs : List Group) (m k class : ℕ) → IsOfClass gs k class → k ≢ m → IsOfClass (groups_but m gs) k class
class_stays gs m k class is apart = record {
  group = is.group;
  there = group_left gs m is.group is.there (λ out. apart (sym is.of_meta ∙ out));
  of_meta = is.of_meta;
  of_class = is.of_class;
}

-- and as a group comes
pub class_more : (gs : List Group) (g : Group) (m class : ℕ) → IsOfClass gs m class → IsOfClass (g ∷ gs) m class
class_more gs g m class is = record {
  group = is.group;
  there = inr is.there;
  of_meta = is.of_meta;
  of_class = is.of_class;
}

-- the group that comes has its class
pub class_first : (gs : List Group) (g : Group) (class : ℕ) → g.tag ≡ class + 1 → IsOfClass (g ∷ gs) g.meta class
class_first gs g class of_class = record { group = g; there = inl refl; of_meta = refl; of_class = of_class }

-- a meta without a group has no class
pub unborn_class : (gs : List Group) (m class : ℕ) → IsUnborn gs m → IsOfClass gs m class → ⊥
unborn_class gs m class unborn is = unborn is.group is.there is.of_meta

-- a meta has one class
pub one_class : (pages : ℕ) (gs : List Group) (m class other : ℕ) → AreGroups pages gs → IsOfClass gs m class → IsOfClass gs m other → class ≡ other
one_class pages gs m class other are is also =
    let same : is.group ≡ also.group = same_group pages gs is.group also.group are is.there also.there (is.of_meta ∙ sym also.of_meta) in
    let tag : is.group.tag ≡ also.group.tag = ap (λ (x : Group). x.tag) same in
    omega (arith, tag, is.of_class, also.of_class)
