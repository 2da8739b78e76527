-- The arrays without a meta of a ring, or with a ring that begins elsewhere.
use Rattle.std.proofs.Common.{◌≡◌, ◌≢◌, ℕ, ◌+◌, ◌*◌, ◌<◌, List, ◌∷◌, ◌++◌, length, get_or, set, Contains, ap, sym, subst, arith, ⊎_elim, length-set}
use Rattle.std.proofs.lemmas.Bool.{cases_eq}
use Rattle.std.proofs.lemmas.List.{get_or-set_same, get_or-set_other}
use Rattle.ng_lists.specs.Arrays.{IsCircle, IsRing, IsSound, ring_at}
use Rattle.ng_lists.proofs.CircleLemmas.{circle_removed}
use Rattle.ng_lists.proofs.NeighbourLemmas.{next_member, prev_member}
use Rattle.ng_lists.proofs.RingLemmas.{mark_of, ring_joined, ring_marked, ring_removed, ring_rotated}
use Rattle.ng_lists.proofs.SoundLemmas.{Changes, member_inside}
use Rattle.ng_lists.proofs.TableLemmas.{Split, first_split}

module _ {heads next prev marks : List ℕ} {pages : ℕ} (sound : IsSound heads next prev marks pages) {class : ℕ} (below : class < 48) where
  abbrev ring : List ℕ
  ring = ring_at next marks class (get_or heads class 0)

  is_ring : IsRing next prev marks (get_or heads class 0) class (ring_at next marks class (get_or heads class 0))
  is_ring = sound.rings class below

  module _ (i : ℕ) (member : Contains (ring_at next marks class (get_or heads class 0)) i) where
    abbrev pub split : Split (ring_at next marks class (get_or heads class 0)) i
    split = first_split (ring_at next marks class (get_or heads class 0)) i member

    whole_ring : IsRing next prev marks (get_or heads class 0) class (split.front ++ i ∷ split.back)
    whole_ring = subst (IsRing next prev marks (get_or heads class 0) class) split.whole is_ring

    mark_is : get_or marks i 0 ≡ class + 1
    mark_is = mark_of is_ring i member

    -- a ring without one of its metas
    pub removed : (heads' : List ℕ) (last after : ℕ) → get_or prev i 0 ≡ last → get_or next i 0 ≡ after → length heads' ≡ length heads → (get_or heads class 0 ≡ i → get_or heads' class 0 ≡ after) → (get_or heads class 0 ≢ i → get_or heads' class 0 ≡ get_or heads class 0) → ((c : ℕ) → c ≢ class → get_or heads' c 0 ≡ get_or heads c 0) → Changes heads next marks heads' (set next last after) (set prev after last) (set marks i 0) pages class (split.front ++ split.back)
    removed heads' last after is_last is_after same_length first later rest =
        let last_member : Contains (ring_at next marks class (get_or heads class 0)) last =
        subst (Contains ring) is_last (prev_member i is_ring member) in
        let after_member : Contains (ring_at next marks class (get_or heads class 0)) after =
        subst (Contains ring) is_after (next_member i is_ring member) in
        let last_mark : get_or marks last 0 ≡ class + 1 = mark_of is_ring last last_member in
        let after_mark : get_or marks after 0 ≡ class + 1 = mark_of is_ring after after_member in
        let inside : i < 101 * pages = member_inside sound class i below member in
        let last_inside : last < 101 * pages = member_inside sound class last below last_member in
        let after_inside : after < 101 * pages = member_inside sound class after below after_member in
        let mark_here : get_or (set marks i 0) i 0 ≡ 0 = get_or-set_same marks i 0 0 (omega (arith, sound.all_marks)) in
        let circle : IsCircle (set next last after) (set prev after last) (get_or heads' class 0) (split.front ++ split.back) =
        circle_removed next prev (get_or heads class 0) i (get_or heads' class 0) last after split.front split.back whole_ring.circle is_last is_after whole_ring.distinct (omega (arith, sound.nexts)) (omega (arith, sound.prevs)) first later in
        record {
          heads_kept = same_length;
          nexts = omega (arith, length-set next last after, sound.nexts);
          prevs = omega (arith, length-set prev after last, sound.prevs);
          all_marks = omega (arith, length-set marks i 0, sound.all_marks);
          inside = λ c known. ⊎_elim
              (λ same. ⊎_elim
              (λ begins. omega (arith, ap (λ k. get_or heads' k 0) same, first begins))
              (λ not_first. omega (arith, ap (λ k. get_or heads' k 0) same, later not_first, sound.inside class below))
              (cases_eq (get_or heads class 0) i))
              (λ other. omega (arith, rest c other, sound.inside c known))
              (cases_eq c class);
          known = λ j. ⊎_elim
              (λ same. omega (arith, ap (λ x. get_or (set marks i 0) x 0) same, mark_here))
              (λ other. omega (arith, get_or-set_other marks i j 0 0 other, sound.known j))
              (cases_eq j i);
          placed = λ j some. ⊎_elim
              (λ same. absurd (omega (arith, ap (λ x. get_or (set marks i 0) x 0) same, mark_here)))
              (λ other. sound.placed j (omega (arith, get_or-set_other marks i j 0 0 other)))
              (cases_eq j i);
          this = ring_removed split.front split.back _ _ (get_or heads' class 0) i 0 whole_ring (omega (arith, sound.all_marks)) (omega arith) circle;
          others = λ c known apart.
              let list : List ℕ = ring_at next marks c (get_or heads c 0) in
              let once : IsRing (set next last after) (set prev after last) marks (get_or heads c 0) c (ring_at next marks c (get_or heads c 0)) =
              ring_joined last after (sound.rings c known) (omega arith) (omega arith) in
              subst
              (λ h. IsRing (set next last after) (set prev after last) (set marks i 0) h c (ring_at next marks c (get_or heads c 0)))
              (sym (rest c apart))
              (ring_marked i 0 once (omega (arith, sound.all_marks)) (omega (arith, mark_is)) (omega arith));
        }

    -- a ring from another of its metas on
    pub turned : Changes heads next marks (set heads class i) next prev marks pages class (i ∷ split.back ++ split.front)
    turned =
        let inside : i < 101 * pages = member_inside sound class i below member in
        let head_is : get_or (set heads class i) class 0 ≡ i = get_or-set_same heads class i 0 (omega (arith, sound.classes)) in
        record {
          heads_kept = length-set heads class i;
          nexts = sound.nexts;
          prevs = sound.prevs;
          all_marks = sound.all_marks;
          inside = λ c known. ⊎_elim
              (λ same. omega (arith, ap (λ k. get_or (set heads class i) k 0) same, head_is))
              (λ other. omega (arith, get_or-set_other heads class c i 0 other, sound.inside c known))
              (cases_eq c class);
          known = sound.known;
          placed = sound.placed;
          this = subst
              (λ h. IsRing next prev marks h class (i ∷ split.back ++ split.front))
              (sym head_is)
              (ring_rotated split.front split.back i whole_ring);
          others = λ c known apart. subst
              (λ h. IsRing next prev marks h c (ring_at next marks c (get_or heads c 0)))
              (sym (get_or-set_other heads class c i 0 apart))
              (sound.rings c known);
        }
