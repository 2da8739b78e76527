-- What the calls that only read find.
use Rattle.std.proofs.Common.{◌≡◌, ◌≢◌, ℕ, ◌+◌, ◌*◌, ◌<◌, List, [], ◌∷◌, ◌++◌, length, get_or, map, All, Contains, Some, refl, ap, sym, subst, ◌∙◌, arith}
use Rattle.std.specs.List.{slice_get}
use Rattle.std.proofs.lemmas.List.{get_or_default, get_or_read, length-map}
use Rattle.ng_meta.specs.Place.{IsMetaPlace}
use Rattle.ng_lists.specs.Arrays.{IsCircle, IsRing, IsSound, ring_at, table_of}
use Rattle.ng_lists.specs.Place.{address_at, index_at}
use Rattle.ng_lists.specs.Rings.{IsListed, RingTable, next_in, ring_of}
use Rattle.ng_lists.proofs.AddressLemmas.{next_in-addresses}
use Rattle.ng_lists.proofs.ChainLemmas.{Contains-head}
use Rattle.ng_lists.proofs.CircleLemmas.{circle_head, circle_next}
use Rattle.ng_lists.proofs.DistinctLemmas.{IsDistinct, distinct_across, distinct_back, distinct_head}
use Rattle.ng_lists.proofs.PlaceLemmas.{address_at-index_at, index_at-address_at, index_below}
use Rattle.ng_lists.proofs.ShownLemmas.{IsMember, IsSomewhere, index_inside, length_rings, listed_from_mark, member_mark, member_of, member_place, ring_is, ring_read, somewhere}
use Rattle.ng_lists.proofs.NeighbourLemmas.{next_member, ring_empty}
use Rattle.ng_lists.proofs.SoundLemmas.{member_inside}
use Rattle.ng_lists.proofs.TableLemmas.{Split, first_split}

-- the first of a ring whose head is marked
first_of_ring : (next prev marks : List ℕ) (head class : ℕ) (ring : List ℕ) → IsRing next prev marks head class ring → get_or marks head 0 ≡ class + 1 → slice_get (map address_at ring) 0 ≡ Some (address_at head)
first_of_ring next prev marks head class [] is marked =
    let (k, none, same) = is.found head marked in
    absurd (omega arith)
first_of_ring next prev marks head class (x ∷ xs) is marked =
    ap (λ h. Some (address_at h)) (sym (circle_head next prev head x xs is.circle))

-- a list with a first isn't empty
pub not_empty : (xs : List ℕ) (x : ℕ) → slice_get xs 0 ≡ Some x → xs ≢ []
not_empty [] x first same = cc
not_empty (y ∷ xs) x first same = absurd (omega (arith, ap length same))

-- an index that comes after itself is the only one
only_one : (i : ℕ) (front back : List ℕ) → get_or (back ++ front ++ i ∷ []) 0 0 ≡ i → IsDistinct (front ++ i ∷ back) → front ++ i ∷ back ≡ i ∷ []
only_one i [] [] same distinct = refl
only_one i [] (y ∷ ys) same distinct = absurd (distinct_head i (y ∷ ys) distinct y (Contains-head y ys) (sym same))
only_one i (x ∷ xs) [] same distinct =
    absurd (distinct_across (x ∷ xs) (i ∷ []) distinct x i (Contains-head x xs) (Contains-head i []) same)
only_one i (x ∷ xs) (y ∷ ys) same distinct =
    absurd (distinct_head i (y ∷ ys) (distinct_back (x ∷ xs) (i ∷ y ∷ ys) distinct) y (Contains-head y ys) (sym same))

-- the index of the only address
only_index : (xs : List ℕ) (meta : ℕ) → map address_at xs ≡ meta ∷ [] → xs ≡ index_at meta ∷ []
only_index [] meta same = absurd (omega (arith, ap length same))
only_index (x ∷ []) meta same =
    let here : address_at x ≡ meta = ap (λ as'. get_or as' 0 0) same in
    ap (λ i. i ∷ []) (sym (index_at-address_at x) ∙ ap index_at here)
only_index (x ∷ y ∷ xs) meta same = absurd (omega (arith, ap length same, length-map xs address_at))

-- what comes after the only index of a circle
after_only : (next prev : List ℕ) (head i : ℕ) → IsCircle next prev head (i ∷ []) → get_or next i 0 ≡ i
after_only next prev head i (same, link) = link.forth

module _ {heads next prev marks : List ℕ} {pages : ℕ} (sound : IsSound heads next prev marks pages) {table : RingTable} (shown : table_of heads next marks pages ≡ table) where
  first_some : (class : ℕ) → class < 48 → get_or marks (get_or heads class 0) 0 ≡ class + 1 → slice_get (ring_of table class) 0 ≡ Some (address_at (get_or heads class 0))
  first_some class known marked =
      ap (λ xs. slice_get xs 0) (ring_is sound shown class known) ∙ first_of_ring next prev marks (get_or heads class 0) class (ring_at next marks class (get_or heads class 0)) (sound.rings class known) marked

  first_none : (class : ℕ) → class < 48 → get_or marks (get_or heads class 0) 0 ≢ class + 1 → ring_of table class ≡ []
  first_none class known unmarked =
      ring_is sound shown class known ∙ ap (map address_at) (ring_empty (ring_at next marks class (get_or heads class 0)) (sound.rings class known) unmarked)

  -- what the reads of a head and its mark found
  module _ {class head mark : ℕ} (known : class < 48) (head_read : head ≡ get_or heads class head) (mark_read : mark ≡ get_or marks head mark) where
    head_is : head ≡ get_or heads class 0
    head_is = get_or_read heads class head (omega (arith, sound.classes)) head_read 0

    head_inside : head < 101 * pages
    head_inside = subst (λ h. h < 101 * pages) (sym head_is) (sound.inside class known)

    mark_is : mark ≡ get_or marks (get_or heads class 0) 0
    mark_is = get_or_read marks head mark (omega (arith, head_inside, sound.all_marks)) mark_read 0 ∙ ap (λ h. get_or marks h 0) head_is

    pub found_first : mark ≡ class + 1 → slice_get (ring_of table class) 0 ≡ Some (address_at head)
    found_first marked = first_some class known (sym mark_is ∙ marked) ∙ ap (λ h. Some (address_at h)) (sym head_is)

    pub found_none : mark ≢ class + 1 → ring_of table class ≡ []
    found_none other = first_none class known (λ marked. other (mark_is ∙ marked))

  -- a ring's meta is followed by the next in the ring
  next_of_member : (class meta : ℕ) → IsMember heads next marks class meta → address_at (get_or next (index_at meta) 0) ≡ next_in (map address_at (ring_at next marks class (get_or heads class 0))) meta
  next_of_member class meta is =
      let ring : List ℕ = ring_at next marks class (get_or heads class 0) in
      let i : ℕ = index_at meta in
      let split : Split (ring_at next marks class (get_or heads class 0)) (index_at meta) = first_split (ring_at next marks class (get_or heads class 0)) (index_at meta) is.member in
      let whole : IsRing next prev marks (get_or heads class 0) class (split.front ++ index_at meta ∷ split.back) =
      subst (IsRing next prev marks (get_or heads class 0) class) split.whole (sound.rings class is.known) in
      let after : get_or next (index_at meta) 0 ≡ get_or (split.back ++ split.front ++ index_at meta ∷ []) 0 0 =
      circle_next next prev (get_or heads class 0) (index_at meta) split.front split.back whole.circle in
      let shown' : next_in (map address_at (split.front ++ index_at meta ∷ split.back)) (address_at (index_at meta)) ≡ address_at (get_or (split.back ++ split.front ++ index_at meta ∷ []) 0 0) =
      next_in-addresses split.front (index_at meta) split.back whole.distinct in
      ap address_at after ∙ sym shown' ∙ ap (λ xs. next_in (map address_at xs) (address_at (index_at meta))) (sym split.whole) ∙ ap (next_in (map address_at (ring_at next marks class (get_or heads class 0)))) is.address

  -- the index after a listed meta's
  pub next_inside : (meta : ℕ) → IsListed table meta → get_or next (index_at meta) 0 < 101 * pages
  next_inside meta listed =
      let place : IsSomewhere heads next marks meta = somewhere sound shown meta listed in
      let is : IsMember heads next marks place.class meta = place.here in
      member_inside sound place.class (get_or next (index_at meta) 0) is.known (next_member (index_at meta) (sound.rings place.class is.known) is.member)

  -- what the read of its link found
  pub next_is : (meta : ℕ) {i after : ℕ} → IsListed table meta → i ≡ index_at meta → after ≡ get_or next i after → after ≡ get_or next (index_at meta) 0
  next_is meta {i} {after} listed index read =
      let place : IsSomewhere heads next marks meta = somewhere sound shown meta listed in
      let inside : index_at meta < 101 * pages = index_inside sound shown place.class meta place.here in
      get_or_read next (index_at meta) after (omega (arith, inside, sound.nexts)) (read ∙ ap (λ j. get_or next j after) index) 0

  pub next_shown : (meta : ℕ) → All (λ ring. Contains ring meta → address_at (get_or next (index_at meta) 0) ≡ next_in ring meta) table.rings
  next_shown meta k d within in' =
      let known : k < 48 = omega (arith, length_rings sound shown) in
      let is : IsMember heads next marks k meta =
      member_of sound shown k meta known (subst (λ xs. Contains xs meta) (get_or_default table.rings k d [] within) in') in
      next_of_member k meta is ∙ ap (λ xs. next_in xs meta) (sym (ring_read sound shown k d known))

  pub alone_from : (meta : ℕ) → IsListed table meta → get_or next (index_at meta) 0 ≡ index_at meta → Contains table.rings (meta ∷ [])
  alone_from meta listed same =
      let place : IsSomewhere heads next marks meta = somewhere sound shown meta listed in
      let c : ℕ = place.class in
      let is : IsMember heads next marks place.class meta = place.here in
      let split : Split (ring_at next marks place.class (get_or heads place.class 0)) (index_at meta) =
      first_split (ring_at next marks place.class (get_or heads place.class 0)) (index_at meta) is.member in
      let whole : IsRing next prev marks (get_or heads place.class 0) place.class (split.front ++ index_at meta ∷ split.back) =
      subst (IsRing next prev marks (get_or heads place.class 0) place.class) split.whole (sound.rings place.class is.known) in
      let after : get_or next (index_at meta) 0 ≡ get_or (split.back ++ split.front ++ index_at meta ∷ []) 0 0 =
      circle_next next prev (get_or heads place.class 0) (index_at meta) split.front split.back whole.circle in
      let one : ring_at next marks place.class (get_or heads place.class 0) ≡ index_at meta ∷ [] =
      split.whole ∙ only_one (index_at meta) split.front split.back (sym after ∙ same) whole.distinct in
      (place.class, omega (arith, is.known, length_rings sound shown), ring_read sound shown place.class (meta ∷ []) is.known ∙ ap (map address_at) one ∙ ap (λ a. a ∷ []) is.address)

  pub alone_to : (meta : ℕ) → Contains table.rings (meta ∷ []) → get_or next (index_at meta) 0 ≡ index_at meta
  alone_to meta (k, within, is) =
      let known : k < 48 = omega (arith, length_rings sound shown) in
      let addresses : map address_at (ring_at next marks k (get_or heads k 0)) ≡ meta ∷ [] =
      sym (ring_read sound shown k (meta ∷ []) known) ∙ is in
      let one : ring_at next marks k (get_or heads k 0) ≡ index_at meta ∷ [] = only_index (ring_at next marks k (get_or heads k 0)) meta addresses in
      let ring : IsRing next prev marks (get_or heads k 0) k (index_at meta ∷ []) = subst (IsRing next prev marks (get_or heads k 0) k) one (sound.rings k known) in
      after_only next prev (get_or heads k 0) (index_at meta) ring.circle

  -- what the read of a meta's mark found
  module _ {meta i mark : ℕ} (place : IsMetaPlace meta pages) (index : i ≡ index_at meta) (mark_read : mark ≡ get_or marks i mark) where
    meta_mark : mark ≡ get_or marks (index_at meta) 0
    meta_mark =
        let inside : index_at meta < 101 * pages = index_below meta pages place in
        get_or_read marks (index_at meta) mark (omega (arith, inside, sound.all_marks)) (mark_read ∙ ap (λ j. get_or marks j mark) index) 0

    pub has_from : mark ≢ 0 → IsListed table meta
    has_from some = subst
        (IsListed table)
        (address_at-index_at meta pages place)
        (listed_from_mark sound shown (index_at meta) (omega (arith, meta_mark)))

    pub has_to : IsListed table meta → mark ≢ 0
    has_to listed none =
        let somewhere' : IsSomewhere heads next marks meta = somewhere sound shown meta listed in
        omega (arith, meta_mark, member_mark sound shown somewhere'.class meta somewhere'.here)

  -- what is listed is a meta's place
  pub has_place : (meta : ℕ) → IsListed table meta → IsMetaPlace meta pages
  has_place meta listed =
      let somewhere' : IsSomewhere heads next marks meta = somewhere sound shown meta listed in
      subst (IsMetaPlace meta) (sym (ap (λ t. t.pages) shown)) (member_place sound shown somewhere'.class meta somewhere'.here)
