-- The bounds of a slot.
use Rattle.std.proofs.Common.{◌≡◌, ◌⊎◌, ℕ, ◌+◌, ◌*◌, ◌<◌, ◌≤◌, min, Bool, true, false, cond, ◌&&◌, refl, sym, ap, ◌∙◌, inl, inr, ⊎_elim, eqb, eqb-true, false-eqb, ltb-true, ltb-false, arith}
use Rattle.std.specs.Prelude.{Option, Some, None, nat_lt, ◌==◌}
use Rattle.ng_class.specs.Slot.{end_at, start_at, stride_of}
use Rattle.ng_class.proofs.Slots.{stride_of_several, stride_of_single}
use Rattle.ng_meta.specs.declared.flags.Fields.{Fields}
use Rattle.std.specs.Option.{option_and_then, option_map}
use Rattle.ng_check.specs.Queries as query
use Rattle.ng_check.specs.Queries.{Query, both, is_class}
use Rattle.ng_check.specs.Readings.{bounds_in, is_longer_than}
use Rattle.ng_check.specs.declared.ending.Bounds.{Bounds}
use Rattle.ng_check.proofs.Tests.{above_test, and_left, and_right, below_test}

abbrev pub step_of : Fields → ℕ
step_of f = stride_of f.class f.last f.maplen

abbrev pub bounds_at : ℕ → ℕ → Fields → Bounds
bounds_at base i f = record { start = start_at (base + 16) (step_of f) i; end = end_at (base + 16) (step_of f) i }

pub unknown_class : (pages base i : ℕ) (f : Fields) → is_class f ≡ false → bounds_in pages base i f ≡ None
unknown_class pages base i f e = ap (λ b. cond (b && nat_lt (end_at (base + 16) (step_of f) i) (4096 * pages)) (Some (bounds_at base i f)) None) e

and_false : (a : Bool) → (a && false) ≡ false
and_false true = refl
and_false false = refl

pub past_end : (pages base i : ℕ) (f : Fields) → 4096 * pages ≤ end_at (base + 16) (step_of f) i → bounds_in pages base i f ≡ None
past_end pages base i f le =
    ap (λ b. cond (is_class f && b) (Some (bounds_at base i f)) None) (above_test (end_at (base + 16) (step_of f) i) (4096 * pages) le)
    ∙ ap (λ b. cond b (Some (bounds_at base i f)) None) (and_false (is_class f))

pub within_space : (pages base i : ℕ) (f : Fields) → is_class f ≡ true → end_at (base + 16) (step_of f) i < 4096 * pages → bounds_in pages base i f ≡ Some (bounds_at base i f)
within_space pages base i f e lt =
    λ k. cond (e k && below_test (end_at (base + 16) (step_of f) i) (4096 * pages) lt k) (Some (bounds_at base i f)) None

-- a base outside of the space
pub base_past : (pages base i : ℕ) (f : Fields) → 4096 * pages ≤ base → 4096 * pages ≤ end_at (base + 16) (step_of f) i
base_past pages base i f le = let s : ℕ = step_of f in omega arith

-- a slot with more pages than the space
pub longer_past : (pages base i : ℕ) (f : Fields) → is_longer_than pages f ≡ true → 4096 * pages ≤ end_at (base + 16) (step_of f) i
longer_past pages base i f e =
    let none : f.last ≡ 0 = eqb-true f.last 0 (and_left _ _ e) in
    let more : pages < f.maplen = ltb-true pages f.maplen (and_right _ _ e) in
    let step = stride_of_single f.class f.last f.maplen none (omega arith) in
    omega (arith, step)

and_cases : (a b : Bool) → (a && b) ≡ false → (a ≡ false) ⊎ (b ≡ false)
and_cases true b e = inr e
and_cases false b e = inl refl

-- the stride by the pages, or by as many as a space has at most
pub same_step : (pages n : ℕ) (f : Fields) → is_longer_than pages f ≡ false → pages ≤ 16384 → n ≡ min f.maplen 16384 → stride_of f.class f.last n ≡ step_of f
same_step pages n f e few is = ⊎_elim
    (λ (several : eqb f.last 0 ≡ false).
    let some_last : 0 < f.last = omega (arith, false-eqb f.last 0 (sym several)) in
    stride_of_several f.class f.last n some_last ∙ sym (stride_of_several f.class f.last f.maplen some_last))
    (λ (short : nat_lt pages f.maplen ≡ false).
    let le : f.maplen ≤ pages = ltb-false pages f.maplen short in
    ap (λ m. stride_of f.class f.last m) (let same : n ≡ f.maplen = omega arith in same))
    (and_cases (f.last == 0) (nat_lt pages f.maplen) e)

-- ---- the end of a query's slot, by its base, fields and index
unfoldable pub end_with : ℕ → Option ℕ → Option Fields → Option ℕ → Option ℕ
end_with pages ob of oi =
    option_and_then (λ e. cond (nat_lt e (4096 * pages)) (Some e) None)
    (option_and_then (λ b. both (end_at (b + 16)) (option_and_then (λ f. cond (is_class f) (Some (step_of f)) None) of) oi) ob)

pub end_is : (q : Query) → query.end q ≡ end_with q.pages (query.base q) (query.fields q) (query.index q)
unfolding end_with query.end query.slot_end query.stride
end_is q = refl

pub no_base : (pages : ℕ) (of : Option Fields) (oi : Option ℕ) → end_with pages None of oi ≡ None
unfolding end_with
no_base pages of oi = refl

pub no_fields : (pages b : ℕ) (oi : Option ℕ) → end_with pages (Some b) None oi ≡ None
unfolding end_with
no_fields pages b oi = refl

pub no_index : (pages b : ℕ) (f : Fields) → end_with pages (Some b) (Some f) None ≡ None
unfolding end_with
no_index pages b f = by_test (is_class f)
  where
    by_test : (t : Bool) → option_and_then (λ e. cond (nat_lt e (4096 * pages)) (Some e) None) (both (end_at (b + 16)) (cond t (Some (step_of f)) None) None) ≡ None
    by_test true = refl
    by_test false = refl

pub end_by : (pages b i : ℕ) (f : Fields) → end_with pages (Some b) (Some f) (Some i) ≡ option_map (λ (x : Bounds). x.end) (bounds_in pages b i f)
unfolding end_with
end_by pages b i f = by_test (is_class f) (nat_lt (end_at (b + 16) (step_of f) i) (4096 * pages)) refl
  where
    by_test : (t u : Bool) → nat_lt (end_at (b + 16) (step_of f) i) (4096 * pages) ≡ u
        → option_and_then (λ e. cond (nat_lt e (4096 * pages)) (Some e) None) (both (end_at (b + 16)) (cond t (Some (step_of f)) None) (Some i))
        ≡ option_map (λ (x : Bounds). x.end) (cond (t && u) (Some (bounds_at b i f)) None)
    by_test true true e = ap (λ v. cond v (Some (end_at (b + 16) (step_of f) i)) None) e
    by_test true false e = ap (λ v. cond v (Some (end_at (b + 16) (step_of f) i)) None) e
    by_test false u e = refl
