-- The cells of a new group's meta.
use Rattle.std.proofs.Common.{◌≡◌, ◌⊎◌, ℕ, ◌+◌, ◌-◌, ◌*◌, ◌%◌, ◌<◌, ◌≤◌, refl, ap, ◌∙◌, inl, inr, arith}
use Rattle.ng_class.proofs.Slots.{stride_of_several}
use Rattle.ng_view.specs.Conditions.{Builds, Sees}
use Rattle.ng_view.specs.Layouts.{IsKind}
use Rattle.ng_view.specs.LockSteps.{built}
use Rattle.ng_view.specs.Places.{stride}
use Rattle.ng_view.specs.Slots.{IsPlain}
use Rattle.ng_view.specs.declared.view.View.{View}
use Rattle.ng_meta.specs.Place.{IsMetaPlace}
use Rattle.ng_view.specs.Groups.{BuiltMeta}
use Rattle.ng_view.specs.Stores.{Stores}
use Rattle.ng_rule.proofs.lock.Knowing.{sees-built}
use Rattle.ng_build.specs.Cells.{IsIdleMeta, OnlyCells, knowing}
use Rattle.ng_build.specs.Drafts.{IsBlankMeta, draft_group}
use Rattle.ng_build.specs.declared.draft.Draft.{Draft}
use Rattle.ng_build.specs.Written.{flags_of, freed_of, with_meta}
use Rattle.ng_build.proofs.Cells.{builds_meta, idle_meta_only, only_both, only_built, only_none, sees_else}

pub meta_whole : (meta pages : ℕ) → IsMetaPlace meta pages → meta % 4 ≡ 0
meta_whole meta pages p = let e : meta ≡ 4096 * p.page + 24 + 40 * p.i = p.stands in omega arith

pub meta_cell : (v w : View) (meta pages k : ℕ) → IsMetaPlace meta pages → IsIdleMeta v meta → OnlyCells v w → k < 40 → k % 4 ≡ 0 → Builds w (meta + k)
meta_cell v w meta pages k place idle only lt al =
    let whole = meta_whole meta pages place in
    builds_meta w meta (meta + k) whole (idle_meta_only v w meta only idle) (omega arith) (omega arith) (omega arith)

-- ---- the three stores
module _ (v w1 w2 w3 : View) (d : Draft) (pages : ℕ) (place : IsMetaPlace d.meta pages) (idle : IsIdleMeta v d.meta) where
  module _ (s1 : Stores v (d.meta + 16) d.base w1) where
    e1 : w1 ≡ built v (d.meta + 16) d.base
    e1 = s1.page (meta_cell v v d.meta pages 16 place idle (only_none v) (omega arith) refl)

    pub meta_1 : OnlyCells v w1
    meta_1 = only_built v w1 (d.meta + 16) d.base e1

    module _ (f : ℕ) (s2 : Stores w1 (d.meta + 28) f w2) where
      e2 : w2 ≡ built w1 (d.meta + 28) f
      e2 = s2.page (meta_cell v w1 d.meta pages 28 place idle meta_1 (omega arith) refl)

      pub meta_2 : OnlyCells v w2
      meta_2 = only_both v w1 w2 meta_1 (only_built w1 w2 (d.meta + 28) f e2)

      pub meta_3 : (x : ℕ) → f ≡ freed_of d.active d.last → x ≡ flags_of d → Stores w2 (d.meta + 32) x w3 → w3 ≡ with_meta v d
      meta_3 x is_f is_x s3 =
          s3.page (meta_cell v w2 d.meta pages 32 place idle meta_2 (omega arith) refl)
          ∙ ap (λ n. built w2 (d.meta + 32) n) is_x
          ∙ ap (λ u. built u (d.meta + 32) (flags_of d)) (e2 ∙ ap (λ n. built w1 (d.meta + 28) n) is_f ∙ ap (λ u. built u (d.meta + 28) (freed_of d.active d.last)) e1)

-- ---- what is known then
module _ (v w : View) (d : Draft) (e : w ≡ with_meta v d) where
  abbrev a : View
  a = built v (d.meta + 16) d.base

  abbrev b : View
  b = built a (d.meta + 28) (freed_of d.active d.last)

  pub meta_only : OnlyCells v w
  meta_only = only_both v a w (only_built v a (d.meta + 16) d.base refl) (only_both a b w (only_built a b (d.meta + 28) (freed_of d.active d.last) refl) (only_built b w (d.meta + 32) (flags_of d) e))

  pub meta_view : w ≡ knowing v w.desk.cells v.readings
  meta_view = meta_only.view ∙ ap (λ rs. knowing v w.desk.cells rs) (ap (λ (x : View). x.readings) e)

  pub meta_else : (n y : ℕ) → (n < d.meta + 16) ⊎ (d.meta + 16 < n) → (n < d.meta + 28) ⊎ (d.meta + 28 < n) → (n < d.meta + 32) ⊎ (d.meta + 32 < n) → Sees v n y → Sees w n y
  meta_else n y n1 n2 n3 s = sees_else b w (d.meta + 32) (flags_of d) n y e n3 (sees_else a b (d.meta + 28) (freed_of d.active d.last) n y refl n2 (sees_else v a (d.meta + 16) d.base n y refl n1 s))

  pub meta_kept : (n y : ℕ) → (n < d.meta) ⊎ (d.meta + 40 ≤ n) → Sees v n y → Sees w n y
  meta_kept n y (inl l) s = meta_else n y (inl (omega arith)) (inl (omega arith)) (inl (omega arith)) s
  meta_kept n y (inr l) s = meta_else n y (inr (omega arith)) (inr (omega arith)) (inr (omega arith)) s

  module _ (whole : d.meta % 4 ≡ 0) (blank : IsBlankMeta v d.meta) (kind : IsKind (draft_group d)) (few : d.last < 32) (low : d.class < 64) where
    zero : (k : ℕ) → k < 40 → k % 4 ≡ 0 → Sees v (d.meta + k) 0
    zero k lt al = blank.zero (d.meta + k) (omega arith) (omega arith) (omega arith)

    pub built_meta : BuiltMeta w (draft_group d) (freed_of d.active d.last)
    built_meta =
        let idle = idle_meta_only v w d.meta meta_only blank.idle in
        record {
          whole = whole;
          area = idle.area;
          unborn = idle.unborn;
          live = omega arith;
          low = omega arith;
          kind = kind;
          links = λ k lt al. meta_else (d.meta + k) 0 (inl (omega arith)) (inl (omega arith)) (inl (omega arith)) (zero k (omega arith) al);
          mem = sees_else b w (d.meta + 32) (flags_of d) (d.meta + 16) d.base e (inl (omega arith)) (sees_else a b (d.meta + 28) (freed_of d.active d.last) (d.meta + 16) d.base refl (inl (omega arith)) (sees-built v a (d.meta + 16) d.base refl));
          mem_high = meta_else (d.meta + 20) 0 (inr (omega arith)) (inl (omega arith)) (inl (omega arith)) (zero 20 (omega arith) refl);
          freed = sees_else b w (d.meta + 32) (flags_of d) (d.meta + 28) (freed_of d.active d.last) e (inl (omega arith)) (sees-built a b (d.meta + 28) (freed_of d.active d.last) refl);
          flags = flags_of d;
          flags_known = sees-built b w (d.meta + 32) (flags_of d) e;
          flags_are = record { last = omega arith; freeable = omega arith; class = omega arith; maplen = omega arith };
          flags_high = meta_else (d.meta + 36) 0 (inr (omega arith)) (inr (omega arith)) (inr (omega arith)) (zero 36 (omega arith) refl);
        }

-- a group of several slots has them of its whole class size
pub several_plain : (d : Draft) → d.class < 48 → 0 < d.last → IsPlain (draft_group d)
unfolding stride
several_plain d low some = record { small = omega arith; wide = (let e = stride_of_several (d.class + 1 - 1) d.last d.maplen some in omega arith) }
