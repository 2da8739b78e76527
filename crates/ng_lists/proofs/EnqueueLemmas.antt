-- What contracts see of a meta put at the end of a ring.
use Rattle.std.proofs.Common.{◌≡◌, ◌≢◌, ℕ, ◌+◌, ◌*◌, ◌<◌, ◌≤◌, List, [], ◌∷◌, ◌++◌, get_or, set, map, ap, sym, subst, ◌∙◌, arith}
use Rattle.std.proofs.lemmas.List.{get_or_read}
use Rattle.ng_meta.specs.Place.{IsMetaPlace}
use Rattle.ng_lists.specs.Arrays.{IsRing, IsSound, ring_at, table_of}
use Rattle.ng_lists.specs.Place.{address_at, index_at}
use Rattle.ng_lists.specs.Rings.{IsListed, RingTable, ring_of, with_ring}
use Rattle.ng_lists.proofs.NeighbourLemmas.{prev_member}
use Rattle.ng_lists.proofs.PlaceLemmas.{address_at-index_at, index_below, index_from_page}
use Rattle.ng_lists.proofs.PushLemmas.{pushed, pushed_first}
use Rattle.ng_lists.proofs.ShownLemmas.{changed, ring_with, unmarked}
use Rattle.ng_lists.proofs.SoundLemmas.{Changes, member_inside}

module _ {heads next prev marks : List ℕ} {pages : ℕ} (sound : IsSound heads next prev marks pages) {table : RingTable} (shown : table_of heads next marks pages ≡ table) {class : ℕ} (below : class < 48) {head mark : ℕ} (head_read : head ≡ get_or heads class head) (mark_read : mark ≡ get_or marks head mark) where
  -- what the reads of the head, its mark and its link found
  head_is : head ≡ get_or heads class 0
  head_is = get_or_read heads class head (omega (arith, sound.classes)) head_read 0

  head_inside : head < 101 * pages
  head_inside = subst (λ h. h < 101 * pages) (sym head_is) (sound.inside class below)

  mark_is : mark ≡ get_or marks head 0
  mark_is = get_or_read marks head mark (omega (arith, head_inside, sound.all_marks)) mark_read 0

  end_is : (last : ℕ) → last ≡ get_or prev head last → last ≡ get_or prev head 0
  end_is last last_read = get_or_read prev head last (omega (arith, head_inside, sound.prevs)) last_read 0

  -- the last member of a ring that isn't empty
  pub last_inside : {last : ℕ} → mark ≡ class + 1 → last ≡ get_or prev head last → last < 101 * pages
  last_inside {last} marked' last_read =
      let marked : get_or marks head 0 ≡ class + 1 = sym mark_is ∙ marked' in
      let last_is : last ≡ get_or prev head 0 = end_is last last_read in
      let is_ring : IsRing next prev marks (get_or heads class 0) class (ring_at next marks class (get_or heads class 0)) = sound.rings class below in
      let head_mark : get_or marks (get_or heads class 0) 0 ≡ class + 1 = ap (λ h. get_or marks h 0) (sym head_is) ∙ marked in
      let end : get_or prev (get_or heads class 0) 0 ≡ last = ap (λ h. get_or prev h 0) (sym head_is) ∙ sym last_is in
      subst
      (λ i. i < 101 * pages)
      end
      (member_inside sound class (get_or prev (get_or heads class 0) 0) below (prev_member (get_or heads class 0) is_ring (is_ring.found (get_or heads class 0) head_mark)))

  module _ {meta i : ℕ} (place : IsMetaPlace meta table.pages) (absent : ¬ IsListed table meta) (index : i ≡ index_at meta) where
    mapped : 101 ≤ i
    mapped = subst (λ j. 101 ≤ j) (sym index) (index_from_page meta table.pages place)

    inside : i < 101 * pages
    inside = subst (λ j. j < 101 * pages) (sym index) (subst (λ p. index_at meta < 101 * p) (sym (ap (λ t. t.pages) shown)) (index_below meta table.pages place))

    no_mark : get_or marks i 0 ≡ 0
    no_mark = ap (λ j. get_or marks j 0) index ∙ unmarked sound shown meta place absent

    address : address_at (index_at meta) ≡ meta
    address = address_at-index_at meta table.pages place

    -- at the end of a ring that isn't empty
    pub at_end : {last : ℕ} → mark ≡ class + 1 → last ≡ get_or prev head last → Changes heads next marks heads (set (set next last i) i head) (set (set prev i last) head i) (set marks i (class + 1)) pages class (ring_at next marks class (get_or heads class 0) ++ i ∷ [])
    at_end {last} marked' last_read =
        let marked : get_or marks head 0 ≡ class + 1 = sym mark_is ∙ marked' in
        let last_is : last ≡ get_or prev head 0 = end_is last last_read in
        let head_mark : get_or marks (get_or heads class 0) 0 ≡ class + 1 = ap (λ h. get_or marks h 0) (sym head_is) ∙ marked in
        let end : get_or prev (get_or heads class 0) 0 ≡ last = ap (λ h. get_or prev h 0) (sym head_is) ∙ sym last_is in
        subst
        (λ h. Changes heads next marks heads (set (set next last i) i h) (set (set prev i last) h i) (set marks i (class + 1)) pages class (ring_at next marks class (get_or heads class 0) ++ i ∷ []))
        (sym head_is)
        (pushed sound below i mapped inside no_mark last head_mark end)

    -- as the only one of a ring
    pub as_first : mark ≢ class + 1 → Changes heads next marks (set heads class i) (set next i i) (set prev i i) (set marks i (class + 1)) pages class (ring_at next marks class (get_or heads class 0) ++ i ∷ [])
    as_first other =
        pushed_first sound below i mapped inside no_mark (λ marked. other (mark_is ∙ ap (λ h. get_or marks h 0) head_is ∙ marked))

    pub shown_appended : {heads' next' prev' marks' : List ℕ} → Changes heads next marks heads' next' prev' marks' pages class (ring_at next marks class (get_or heads class 0) ++ i ∷ []) → table_of heads' next' marks' pages ≡ with_ring table class (ring_of table class ++ meta ∷ [])
    shown_appended changes =
        let ring : map address_at (ring_at next marks class (get_or heads class 0) ++ i ∷ []) ≡ ring_of table class ++ meta ∷ [] =
        ap (λ j. map address_at (ring_at next marks class (get_or heads class 0) ++ j ∷ [])) index ∙ ring_with sound shown class meta below address in
        changed sound shown below changes ∙ ap (with_ring table class) ring
