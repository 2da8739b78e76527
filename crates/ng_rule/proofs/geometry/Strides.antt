-- Strides, and that a slot has room.
use Rattle.std.proofs.Common.{◌≡◌, ◌⊎◌, ℕ, zero, suc, ◌+◌, ◌-◌, ◌*◌, ◌%◌, ◌<◌, ◌≤◌, eqb, ltb, ◌&&◌, cond, Bool, true, false, true≢false, List, [], ◌∷◌, length, refl, sym, ◌∙◌, ⊎_elim, inl, inr, arith}
use Rattle.std.specs.Prelude.{slice_index, nat_lt}
use Rattle.std.proofs.lemmas.Bool.Decides.{nat_tests}
use Rattle.ng_view.specs.declared.view.Group.{Group}
use Rattle.ng_view.specs.declared.view.Place.{Place}
use Rattle.ng_view.specs.declared.view.Layout.{Layout}
use Rattle.ng_class.specs.Class.{unit_table}
use Rattle.ng_class.specs.Slot.{stride_of, IsOwnCell}
use Rattle.ng_view.specs.Places.{Owns, units, class_size, stride, header}
use Rattle.ng_view.specs.Layouts.{IsLaid, OnRun, InNest, IsSmallKind, IsLoneKind}

-- a stride is whole
pub stride_whole : (g : Group) → stride g % 16 ≡ 0
unfolding stride stride_of
stride_whole g = by_test (eqb g.last 0 && nat_lt 0 g.maplen)
  where
    by_test : (b : Bool) → cond b (g.maplen * 4096 - 16) (class_size g.tag) % 16 ≡ 0
    by_test true = omega arith
    by_test false = let u : ℕ = units g.tag in omega arith

pub times_whole : (s i : ℕ) → s % 16 ≡ 0 → s * i % 16 ≡ 0
times_whole s zero h = omega arith
times_whole s (suc i) h = let r = times_whole s i h in let e : s * suc i ≡ s * i + s = omega arith in let x : ℕ = s * i in let y : ℕ = s * suc i in omega (arith, r, e, h)

-- header cells are cells
pub header_cell : (g : Group) (i : ℕ) → g.base % 16 ≡ 0 → (header g i + 4) % 16 ≡ 0
header_cell g i h = let r = times_whole (stride g) i (stride_whole g) in let x : ℕ = stride g * i in omega (arith, r, h)

-- each class has some size
abbrev all_more : List ℕ → Bool
all_more [] = true
all_more (x ∷ xs) = ltb 0 x && all_more xs

first_true : (b c : Bool) → (b && c) ≡ true → b ≡ true
first_true true c h = refl
first_true false c h = absurd (true≢false (sym h))

rest_true : (b c : Bool) → (b && c) ≡ true → c ≡ true
rest_true true c h = h
rest_true false c h = absurd (true≢false (sym h))

below_tested : (n : ℕ) → ltb 0 n ≡ true → 0 < n
below_tested n e = grind (arith, nat_tests)

more : (xs : List ℕ) (k : ℕ) → all_more xs ≡ true → k < length xs → 0 < slice_index xs k
more [] k h l = absurd (omega arith)
more (x ∷ xs) zero h l = below_tested x (first_true (ltb 0 x) (all_more xs) h)
more (x ∷ xs) (suc k) h l = more xs k (rest_true (ltb 0 x) (all_more xs) h) (omega arith)

pub some_units : (t : ℕ) → 0 < t → t < 49 → 0 < units t
unfolding unit_table
some_units t p l = more unit_table (t - 1) refl (omega arith)

-- a live group's slots have some cell
pub some_stride : (ws : List ℕ) (d : Layout) (g : Group) → 0 < g.tag → IsLaid ws d g → 0 < stride g
unfolding stride stride_of
some_stride ws d g live l = by_test (eqb g.last 0 && nat_lt 0 g.maplen) refl
  where
    both : (n k : ℕ) → (eqb n 0 && nat_lt 0 k) ≡ true → 1 ≤ k
    both n k e = grind (arith, nat_tests)

    lone : (n k : ℕ) → n ≡ 0 → 1 ≤ k → (eqb n 0 && nat_lt 0 k) ≡ true
    lone n k e f = grind (arith, nat_tests)

    paged : OnRun d.runs g ⊎ InNest d.nests g → g.tag ≡ 64 → 1 ≤ g.maplen
    paged (inl r) e = let p = r.fits in let q = r.pages in omega arith
    paged (inr n) e = absurd (let q = n.nested.low in omega arith)

    by_test : (b : Bool) → (eqb g.last 0 && nat_lt 0 g.maplen) ≡ b → 0 < cond b (g.maplen * 4096 - 16) (class_size g.tag)
    by_test true is = let k = both g.last g.maplen is in omega arith
    by_test false is = ⊎_elim
        (λ (k : IsSmallKind g). let u = some_units g.tag live k.low in omega arith)
        (λ (k : IsLoneKind g). absurd (true≢false (sym (lone g.last g.maplen k.single (paged l.lies k.lone)) ∙ is)))
        l.kind

-- a slot's own cells are those of the class table's own words
pub own_cell-owns : (p : Place) (a : ℕ) → IsOwnCell (p.group.base + 16) (stride p.group) p.index a → Owns p a
own_cell-owns p a o = let f = o.from in let b = o.below in (omega arith, omega arith)

pub owns-own_cell : (p : Place) (a : ℕ) → Owns p a → IsOwnCell (p.group.base + 16) (stride p.group) p.index a
owns-own_cell p a o = let f = o.0 in let b = o.1 in record { from = omega arith; below = omega arith }
