-- The arrays with one more meta in a ring.
use Rattle.std.proofs.Common.{◌≡◌, ◌≢◌, ℕ, ◌+◌, ◌*◌, ◌<◌, ◌≤◌, List, [], ◌∷◌, ◌++◌, get_or, set, Contains, refl, ap, sym, subst, arith, ⊎_elim, length-set}
use Rattle.std.proofs.lemmas.Bool.{cases_eq}
use Rattle.std.proofs.lemmas.List.{get_or-set_same, get_or-set_other}
use Rattle.ng_lists.specs.Arrays.{IsCircle, IsRing, IsSound, ring_at}
use Rattle.ng_lists.proofs.CircleLemmas.{circle_alone}
use Rattle.ng_lists.proofs.NeighbourLemmas.{circle_pushed, prev_member, ring_empty}
use Rattle.ng_lists.proofs.RingLemmas.{mark_of, ring_joined, ring_marked, ring_pushed}
use Rattle.ng_lists.proofs.SoundLemmas.{Changes, marked_inside}

module _ {heads next prev marks : List ℕ} {pages : ℕ} (sound : IsSound heads next prev marks pages) {class : ℕ} (below : class < 48) where
  abbrev ring : List ℕ
  ring = ring_at next marks class (get_or heads class 0)

  is_ring : IsRing next prev marks (get_or heads class 0) class (ring_at next marks class (get_or heads class 0))
  is_ring = sound.rings class below

  module _ (i : ℕ) (mapped : 101 ≤ i) (inside : i < 101 * pages) (absent : get_or marks i 0 ≡ 0) where
    abbrev new_marks : List ℕ
    new_marks = set marks i (class + 1)

    mark_here : get_or (set marks i (class + 1)) i 0 ≡ class + 1
    mark_here = get_or-set_same marks i (class + 1) 0 (omega (arith, sound.all_marks))

    known_marked : (j : ℕ) → get_or (set marks i (class + 1)) j 0 ≤ 48
    known_marked j = ⊎_elim
        (λ same. omega (arith, ap (λ x. get_or (set marks i (class + 1)) x 0) same, mark_here))
        (λ other. omega (arith, get_or-set_other marks i j (class + 1) 0 other, sound.known j))
        (cases_eq j i)

    placed_marked : (j : ℕ) → 0 < get_or (set marks i (class + 1)) j 0 → 101 ≤ j
    placed_marked j some = ⊎_elim
        (λ same. omega arith)
        (λ other. sound.placed j (omega (arith, get_or-set_other marks i j (class + 1) 0 other)))
        (cases_eq j i)

    away : ¬ Contains (ring_at next marks class (get_or heads class 0)) i
    away in' = omega (arith, absent, mark_of is_ring i in')

    -- a meta at the end of a ring that isn't empty
    pub pushed : (last : ℕ) → get_or marks (get_or heads class 0) 0 ≡ class + 1 → get_or prev (get_or heads class 0) 0 ≡ last → Changes heads next marks heads (set (set next last i) i (get_or heads class 0)) (set (set prev i last) (get_or heads class 0) i) (set marks i (class + 1)) pages class (ring_at next marks class (get_or heads class 0) ++ i ∷ [])
    pushed last marked behind =
        let head : ℕ = get_or heads class 0 in
        let first : Contains (ring_at next marks class (get_or heads class 0)) (get_or heads class 0) = is_ring.found (get_or heads class 0) marked in
        let end : Contains (ring_at next marks class (get_or heads class 0)) last =
        subst (Contains ring) behind (prev_member (get_or heads class 0) is_ring first) in
        let last_mark : get_or marks last 0 ≡ class + 1 = mark_of is_ring last end in
        let last_inside : last < 101 * pages = marked_inside sound last (omega arith) in
        let head_inside : get_or heads class 0 < 101 * pages = sound.inside class below in
        let circle : IsCircle (set (set next last i) i (get_or heads class 0)) (set (set prev i last) (get_or heads class 0) i) (get_or heads class 0) (ring_at next marks class (get_or heads class 0) ++ i ∷ []) =
        circle_pushed ring last i is_ring marked behind away (omega (arith, sound.nexts)) (omega (arith, sound.nexts)) (omega (arith, sound.prevs)) (omega (arith, sound.prevs)) in
        record {
          heads_kept = refl;
          nexts = omega (arith, length-set (set next last i) i (get_or heads class 0), length-set next last i, sound.nexts);
          prevs = omega (arith, length-set (set prev i last) (get_or heads class 0) i, length-set prev i last, sound.prevs);
          all_marks = omega (arith, length-set marks i (class + 1), sound.all_marks);
          inside = sound.inside;
          known = known_marked;
          placed = placed_marked;
          this = ring_pushed ring _ _ (get_or heads class 0) i is_ring (omega (arith, sound.all_marks)) (omega arith) circle;
          others = λ c known apart.
              let other : IsRing next prev marks (get_or heads c 0) c (ring_at next marks c (get_or heads c 0)) = sound.rings c known in
              let list : List ℕ = ring_at next marks c (get_or heads c 0) in
              let once : IsRing (set next last i) (set prev i last) marks (get_or heads c 0) c (ring_at next marks c (get_or heads c 0)) =
              ring_joined last i other (omega arith) (omega arith) in
              let twice : IsRing (set (set next last i) i (get_or heads class 0)) (set (set prev i last) (get_or heads class 0) i) marks (get_or heads c 0) c (ring_at next marks c (get_or heads c 0)) =
              ring_joined i (get_or heads class 0) once (omega arith) (omega arith) in
              ring_marked i (class + 1) twice (omega (arith, sound.all_marks)) (omega arith) (omega arith);
        }

    -- a meta as the only one of a ring
    pub pushed_first : get_or marks (get_or heads class 0) 0 ≢ class + 1 → Changes heads next marks (set heads class i) (set next i i) (set prev i i) (set marks i (class + 1)) pages class (ring_at next marks class (get_or heads class 0) ++ i ∷ [])
    pushed_first unmarked =
        let empty : ring_at next marks class (get_or heads class 0) ≡ [] = ring_empty ring is_ring unmarked in
        let head_is : get_or (set heads class i) class 0 ≡ i = get_or-set_same heads class i 0 (omega (arith, sound.classes)) in
        let alone : IsCircle (set next i i) (set prev i i) i (i ∷ []) = circle_alone next prev i (omega (arith, sound.nexts)) (omega (arith, sound.prevs)) in
        let circle : IsCircle (set next i i) (set prev i i) (get_or (set heads class i) class 0) (ring_at next marks class (get_or heads class 0) ++ i ∷ []) =
        subst (λ h. IsCircle (set next i i) (set prev i i) h (ring ++ i ∷ [])) (sym head_is) (subst (λ xs. IsCircle (set next i i) (set prev i i) i (xs ++ i ∷ [])) (sym empty) alone) in
        record {
          heads_kept = length-set heads class i;
          nexts = omega (arith, length-set next i i, sound.nexts);
          prevs = omega (arith, length-set prev i i, sound.prevs);
          all_marks = omega (arith, length-set marks i (class + 1), sound.all_marks);
          inside = λ c known. ⊎_elim
              (λ same. omega (arith, ap (λ k. get_or (set heads class i) k 0) same, head_is))
              (λ other. omega (arith, get_or-set_other heads class c i 0 other, sound.inside c known))
              (cases_eq c class);
          known = known_marked;
          placed = placed_marked;
          this = ring_pushed ring _ _ (get_or (set heads class i) class 0) i is_ring (omega (arith, sound.all_marks)) (omega arith) circle;
          others = λ c known apart.
              let list : List ℕ = ring_at next marks c (get_or heads c 0) in
              let once : IsRing (set next i i) (set prev i i) marks (get_or heads c 0) c (ring_at next marks c (get_or heads c 0)) =
              ring_joined i i (sound.rings c known) (omega arith) (omega arith) in
              subst
              (λ h. IsRing (set next i i) (set prev i i) (set marks i (class + 1)) h c (ring_at next marks c (get_or heads c 0)))
              (sym (get_or-set_other heads class c i 0 apart))
              (ring_marked i (class + 1) once (omega (arith, sound.all_marks)) (omega arith) (omega arith));
        }
