-- The numbers of slots in live groups, when groups come and go, and how large they get.
use Rattle.std.proofs.Common.{◌≡◌, ◌≢◌, ℕ, zero, suc, ◌+◌, ◌-◌, ◌*◌, ◌^◌, ◌<◌, ◌≤◌, eqb, cond, Bool, true, false, List, [], ◌∷◌, length, slice_index, slice_set, refl, sym, ap, ◌∙◌, ⊎_elim, inl, inr, arith}
use Rattle.std.proofs.lemmas.Bool.{cases_eq, eq-eqb, ne_eqb}
use Rattle.std.proofs.lemmas.List.{get_or-set_same, get_or-set_other, length-set}
use Rattle.ng_rule.proofs.geometry.Bits.{count_of-same, count_of-other}
use Rattle.ng_rule.proofs.geometry.Lists.{count_of-most}
use Rattle.ng_meta.specs.Place.{IsMetaPlace}
use Rattle.ng_lists.specs.Place.{address_at, index_at}
use Rattle.ng_lists.proofs.PlaceLemmas.{address_at-index_at, index_below}
use Rattle.ng_view.specs.LockSteps.{groups_but}
use Rattle.ng_view.specs.Lists.{Among, count_of, total_by}
use Rattle.ng_view.specs.declared.view.Group.{Group}
use Rattle.ng_ledger.specs.Groups.{AreGroups, metas_at}
use Rattle.ng_ledger.specs.Usage.{AreUsed, used}
use Rattle.ng_ledger.proofs.GroupLemmas.{metas_at-among}

-- the slots of a group, where it is of the class
abbrev share : ℕ → Group → ℕ
share class g = cond (eqb g.tag (class + 1)) (g.last + 1) 0

share_same : (class : ℕ) (g : Group) → g.tag ≡ class + 1 → share class g ≡ g.last + 1
share_same class g is = ap (λ (b : Bool). cond {A = ℕ} b (g.last + 1) 0) (eq-eqb g.tag (class + 1) is)

share_other : (class : ℕ) (g : Group) → g.tag ≢ class + 1 → share class g ≡ 0
share_other class g apart = ap (λ (b : Bool). cond {A = ℕ} b (g.last + 1) 0) (ne_eqb g.tag (class + 1) apart)

-- a sum over the groups stays without a meta that none has
total_by-absent : (f : Group → ℕ) (m : ℕ) (gs : List Group) → metas_at m gs ≡ 0 → total_by f (groups_but m gs) ≡ total_by f gs
total_by-absent f m [] none = refl
total_by-absent f m (x ∷ xs) none = by_test (λ z. total_by-absent f m xs z) (eqb x.meta m) refl
  where
    by_test : (metas_at m xs ≡ 0 → total_by f (groups_but m xs) ≡ total_by f xs) → (b : Bool) → eqb x.meta m ≡ b → total_by f (cond b (groups_but m xs) (x ∷ groups_but m xs)) ≡ f x + total_by f xs
    by_test step true is = let one : count_of (eqb x.meta m) ≡ 1 = ap count_of is in absurd (omega arith)
    by_test step false is = let rest : total_by f (groups_but m xs) ≡ total_by f xs = step (omega arith) in omega arith

-- and without a meta that one has, it is less by that group's part
pub total_by-groups_but : (f : Group → ℕ) (m : ℕ) (gs : List Group) (g : Group) → metas_at m gs ≤ 1 → Among g gs → g.meta ≡ m → total_by f (groups_but m gs) + f g ≡ total_by f gs
total_by-groups_but f m [] g once there is = elim there [ ]
total_by-groups_but f m (x ∷ xs) g once (inl e) is =
    let same : f g ≡ f x = ap f e in
    let here : x.meta ≡ m = ap (λ (y : Group). y.meta) (sym e) ∙ is in
    let one : count_of (eqb x.meta m) ≡ 1 = ap (λ n. count_of (eqb n m)) here ∙ count_of-same m in
    let rest : total_by f (groups_but m xs) ≡ total_by f xs = total_by-absent f m xs (omega arith) in
    let skip : total_by f (groups_but m (x ∷ xs)) ≡ total_by f (groups_but m xs) = ap (λ (b : Bool). total_by f (cond b (groups_but m xs) (x ∷ groups_but m xs))) (eq-eqb x.meta m here) in
    omega arith
total_by-groups_but f m (x ∷ xs) g once (inr t) is = by_test (λ few. total_by-groups_but f m xs g few t is) (eqb x.meta m) refl
  where
    by_test : (metas_at m xs ≤ 1 → total_by f (groups_but m xs) + f g ≡ total_by f xs) → (b : Bool) → eqb x.meta m ≡ b → total_by f (cond b (groups_but m xs) (x ∷ groups_but m xs)) + f g ≡ f x + total_by f xs
    by_test step true same =
        let one : count_of (eqb x.meta m) ≡ 1 = ap count_of same in
        let more = metas_at-among xs m g t is in
        absurd (omega arith)
    by_test step false other = let rest : total_by f (groups_but m xs) + f g ≡ total_by f xs = step (omega arith) in omega arith

-- a group of a class comes: its slots are added
pub published : (gs : List Group) (usage : List ℕ) (g : Group) (class : ℕ) → AreUsed gs usage → g.tag ≡ class + 1 → class < 48 → AreUsed (g ∷ gs) (slice_set usage class (slice_index usage class + (g.last + 1)))
published gs usage g class are is known = record {
  many = length-set usage class (slice_index usage class + (g.last + 1)) ∙ are.many;
  each = λ c low. ⊎_elim (same c) (other c low) (cases_eq c class);
}
  where
    new : List ℕ
    new = slice_set usage class (slice_index usage class + (g.last + 1))

    same : (c : ℕ) → c ≡ class → slice_index new c ≡ used (g ∷ gs) c
    same c e =
        let read : slice_index new c ≡ slice_index usage class + (g.last + 1) = ap (λ k. slice_index new k) e ∙ get_or-set_same usage class (slice_index usage class + (g.last + 1)) 0 (omega (arith, are.many)) in
        let was : slice_index usage class ≡ used gs c = are.each class known ∙ ap (used gs) (sym e) in
        omega (arith, share_same c g (is ∙ ap (λ k. k + 1) (sym e)))

    other : (c : ℕ) → c < 48 → c ≢ class → slice_index new c ≡ used (g ∷ gs) c
    other c low apart =
        let read : slice_index new c ≡ slice_index usage c = get_or-set_other usage class c (slice_index usage class + (g.last + 1)) 0 apart in
        let was : slice_index usage c ≡ used gs c = are.each c low in
        omega (arith, share_other c g (λ e. apart (omega arith)))

-- a group of no class comes
pub published_lone : (gs : List Group) (usage : List ℕ) (g : Group) → AreUsed gs usage → g.tag ≡ 64 → AreUsed (g ∷ gs) usage
published_lone gs usage g are lone = record {
  many = are.many;
  each = λ c low. let was : slice_index usage c ≡ used gs c = are.each c low in omega (arith, share_other c g (λ e. omega arith));
}

module _ (pages : ℕ) (gs : List Group) (usage : List ℕ) (g : Group) (are : AreUsed gs usage) (groups : AreGroups pages gs) (there : Among g gs) where
  less : (c : ℕ) → used (groups_but g.meta gs) c + share c g ≡ used gs c
  less c = total_by-groups_but (share c) g.meta gs g (groups.once g.meta) there refl

  -- the slots of a live group are among those of its class
  pub retired_most : (class : ℕ) → g.tag ≡ class + 1 → class < 48 → g.last + 1 ≤ slice_index usage class
  retired_most class is known = let was = are.each class known in omega (arith, less class, share_same class g is)

  -- it goes: its slots are taken off
  pub retired : (class : ℕ) → g.tag ≡ class + 1 → class < 48 → AreUsed (groups_but g.meta gs) (slice_set usage class (slice_index usage class - (g.last + 1)))
  retired class is known = record {
    many = length-set usage class (slice_index usage class - (g.last + 1)) ∙ are.many;
    each = λ c low. ⊎_elim (same c) (other c low) (cases_eq c class);
  }
    where
      new : List ℕ
      new = slice_set usage class (slice_index usage class - (g.last + 1))

      same : (c : ℕ) → c ≡ class → slice_index new c ≡ used (groups_but g.meta gs) c
      same c e =
          let read : slice_index new c ≡ slice_index usage class - (g.last + 1) = ap (λ k. slice_index new k) e ∙ get_or-set_same usage class (slice_index usage class - (g.last + 1)) 0 (omega (arith, are.many)) in
          let was : slice_index usage class ≡ used gs c = are.each class known ∙ ap (used gs) (sym e) in
          omega (arith, less c, share_same c g (is ∙ ap (λ k. k + 1) (sym e)))

      other : (c : ℕ) → c < 48 → c ≢ class → slice_index new c ≡ used (groups_but g.meta gs) c
      other c low apart =
          let read : slice_index new c ≡ slice_index usage c = get_or-set_other usage class c (slice_index usage class - (g.last + 1)) 0 apart in
          let was : slice_index usage c ≡ used gs c = are.each c low in
          omega (arith, less c, share_other c g (λ e. apart (omega arith)))

  -- a group of no class goes
  pub retired_lone : g.tag ≡ 64 → AreUsed (groups_but g.meta gs) usage
  retired_lone lone = record {
    many = are.many;
    each = λ c low. let was : slice_index usage c ≡ used gs c = are.each c low in omega (arith, less c, share_other c g (λ e. omega arith));
  }

-- the sum of a function over the numbers below n
sum_below : ℕ → (ℕ → ℕ) → ℕ
sum_below zero h = 0
sum_below (suc n) h = h n + sum_below n h

sum_below-most : (n : ℕ) (h : ℕ → ℕ) → ((k : ℕ) → h k ≤ 1) → sum_below n h ≤ n
unfolding sum_below
sum_below-most zero h most = omega arith
sum_below-most (suc n) h most = let first = most n in let rest = sum_below-most n h most in omega arith

sum_below-none : (n : ℕ) → sum_below n (λ k. 0) ≡ 0
unfolding sum_below
sum_below-none zero = refl
sum_below-none (suc n) = let rest = sum_below-none n in omega arith

sum_below-add : (n : ℕ) (a b : ℕ → ℕ) → sum_below n (λ k. a k + b k) ≡ sum_below n a + sum_below n b
unfolding sum_below
sum_below-add zero a b = refl
sum_below-add (suc n) a b = let rest = sum_below-add n a b in omega arith

sum_below-past : (n x : ℕ) → n ≤ x → sum_below n (λ k. count_of (eqb x k)) ≡ 0
unfolding sum_below
sum_below-past zero x past = refl
sum_below-past (suc n) x past =
    let here : count_of (eqb x n) ≡ 0 = count_of-other x n (λ e. omega arith) in
    let rest = sum_below-past n x (omega arith) in
    omega arith

sum_below-one : (n x : ℕ) → x < n → sum_below n (λ k. count_of (eqb x k)) ≡ 1
unfolding sum_below
sum_below-one zero x below = absurd (omega arith)
sum_below-one (suc n) x below = ⊎_elim
    (λ (same : x ≡ n).
    let here : count_of (eqb x n) ≡ 1 = ap (λ k. count_of (eqb k n)) same ∙ count_of-same n in
    let rest = sum_below-past n x (omega arith) in
    omega arith)
    (λ (other : x ≢ n).
    let here : count_of (eqb x n) ≡ 0 = count_of-other x n other in
    let rest = sum_below-one n x (omega arith) in
    omega arith)
    (cases_eq x n)

-- the groups whose meta has a number
numbered : ℕ → List Group → ℕ
numbered k gs = total_by (λ (g : Group). count_of (eqb (index_at g.meta) k)) gs

-- groups are as many as their numbers
groups_numbered : (n : ℕ) (gs : List Group) → ((g : Group) → Among g gs → index_at g.meta < n) → sum_below n (λ k. numbered k gs) ≡ length gs
unfolding numbered
groups_numbered n [] below = sum_below-none n
groups_numbered n (x ∷ xs) below =
    let split = sum_below-add n (λ k. count_of (eqb (index_at x.meta) k)) (λ k. numbered k xs) in
    let first = sum_below-one n (index_at x.meta) (below x (inl refl)) in
    let rest = groups_numbered n xs (λ g t. below g (inr t)) in
    omega arith

-- of each number there are no more than of its address
numbered-most : (pages k : ℕ) (gs : List Group) → ((g : Group) → Among g gs → IsMetaPlace g.meta pages) → numbered k gs ≤ metas_at (address_at k) gs
unfolding numbered
numbered-most pages k [] places = omega arith
numbered-most pages k (x ∷ xs) places =
    let rest = numbered-most pages k xs (λ g t. places g (inr t)) in
    ⊎_elim
    (λ (same : index_at x.meta ≡ k).
    let one : count_of (eqb x.meta (address_at k)) ≡ 1 = ap (λ n. count_of (eqb n (address_at k))) (sym (address_at-index_at x.meta pages (places x (inl refl))) ∙ ap address_at same) ∙ count_of-same (address_at k) in
    let most = count_of-most (eqb (index_at x.meta) k) in
    omega arith)
    (λ (other : index_at x.meta ≢ k).
    let none : count_of (eqb (index_at x.meta) k) ≡ 0 = count_of-other (index_at x.meta) k other in
    omega arith)
    (cases_eq (index_at x.meta) k)

-- there are no more groups than metas
pub groups_few : (pages : ℕ) (gs : List Group) → AreGroups pages gs → length gs ≤ 101 * pages
groups_few pages gs are =
    let total = groups_numbered (101 * pages) gs (λ g t. index_below g.meta pages (are.each g t).place) in
    let most = sum_below-most (101 * pages) (λ k. numbered k gs) (λ k.
    let few = numbered-most pages k gs (λ g t. (are.each g t).place) in let one = are.once (address_at k) in omega arith) in
    omega arith

-- the slots of a class are at most 32 a group
used_most : (gs : List Group) (class : ℕ) → ((g : Group) → Among g gs → g.last < 32) → used gs class ≤ 32 * length gs
used_most [] class few = omega arith
used_most (x ∷ xs) class few =
    let rest = used_most xs class (λ g t. few g (inr t)) in
    let last = few x (inl refl) in
    ⊎_elim
    (λ (same : x.tag ≡ class + 1). omega (arith, share_same class x same))
    (λ (other : x.tag ≢ class + 1). omega (arith, share_other class x other))
    (cases_eq x.tag (class + 1))

-- the slots of a class, and those of one group more, are far below 2 ^ 32
pub bounded : (pages : ℕ) (gs : List Group) (class : ℕ) → AreGroups pages gs → pages ≤ 16384 → used gs class + 32 < 2 ^ 32
bounded pages gs class are small = let few = groups_few pages gs are in let most = used_most gs class (λ g t. (are.each g t).few) in omega arith
