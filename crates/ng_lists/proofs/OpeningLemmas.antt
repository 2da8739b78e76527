-- The arrays at the start.
use Rattle.std.proofs.Common.{◌≡◌, ℕ, zero, suc, ◌+◌, ◌*◌, ◌≤◌, ◌==◌, [], ◌∷◌, replicate, get_or, map, cond, refl, ap, sym, subst, ◌∙◌, arith, ⊎_elim}
use Rattle.std.proofs.lemmas.Bool.{cases_lt, ne_eqb}
use Rattle.std.proofs.lemmas.List.{get_or-replicate, get_or_past, length-replicate}
use Rattle.std.proofs.lemmas.List.Folds.{sum_by-replicate}
use Rattle.ng_lists.specs.Arrays.{IsRing, IsSound, members, ring_at, rings_from, walk}
use Rattle.ng_lists.specs.Place.{address_at}

-- each read of zeros is 0
pub zero_read : (n i : ℕ) → get_or (replicate {A = ℕ} n 0) i 0 ≡ 0
zero_read n i = ⊎_elim
    (λ inside. get_or-replicate n i 0 0 inside)
    (λ past. get_or_past (replicate n 0) i 0 (omega (arith, length-replicate {A = ℕ} n 0)))
    (cases_lt i n)

-- no zero is a mark
no_members : (n class : ℕ) → members (replicate n 0) class ≡ 0
no_members n class =
    let none : cond {A = ℕ} (0 == class + 1) 1 0 ≡ 0 = ap (λ b. cond b 1 0) (ne_eqb 0 (class + 1) (λ e. omega arith)) in
    sum_by-replicate (λ m. cond (m == class + 1) 1 0) n 0 ∙ rw none (omega arith)

-- each ring is empty
ring_none : (n class head : ℕ) → ring_at (replicate n 0) (replicate n 0) class head ≡ []
ring_none n class head = ap (λ k. walk (replicate n 0) k head) (no_members n class)

is_ring : (n head class : ℕ) → IsRing (replicate n 0) (replicate n 0) (replicate n 0) head class []
is_ring n head class = record {
  circle = tt;
  marked = λ k d within. absurd (omega arith);
  distinct = λ i j d less within. absurd (omega arith);
  found = λ index marked. absurd (omega (arith, zero_read n index));
  counted = no_members n class;
}

pub opening_sound : (n pages : ℕ) → n ≡ 101 * pages → 16 ≤ pages → pages ≤ 16384 → IsSound (replicate 48 0) (replicate n 0) (replicate n 0) (replicate n 0) pages
opening_sound n pages size least greatest = record {
  least = least;
  greatest = greatest;
  classes = refl;
  nexts = omega (arith, length-replicate {A = ℕ} n 0);
  prevs = omega (arith, length-replicate {A = ℕ} n 0);
  all_marks = omega (arith, length-replicate {A = ℕ} n 0);
  inside = λ class known. omega (arith, zero_read 48 class);
  known = λ index. omega (arith, zero_read n index);
  placed = λ index marked. absurd (omega (arith, zero_read n index));
  rings = λ class known. subst
      (IsRing (replicate n 0) (replicate n 0) (replicate n 0) (get_or (replicate 48 0) class 0) class)
      (sym (ring_none n class (get_or (replicate 48 0) class 0)))
      (is_ring n (get_or (replicate 48 0) class 0) class);
}

pub opening_shown : (n class count : ℕ) → rings_from (replicate n 0) (replicate n 0) class (replicate count 0) ≡ replicate count []
opening_shown n class zero = refl
opening_shown n class (suc count) =
    ap (λ ring. map address_at ring ∷ rings_from (replicate n 0) (replicate n 0) (class + 1) (replicate count 0)) (ring_none n class 0) ∙ ap (λ rings. [] ∷ rings) (opening_shown n (class + 1) count)
