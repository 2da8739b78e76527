-- What contracts see of the arrays.
use Rattle.std.proofs.Common.{◌≡◌, ◌≢◌, ℕ, ◌+◌, ◌-◌, ◌*◌, ◌%◌, ◌^◌, ◌<◌, ◌≤◌, List, [], ◌∷◌, ◌++◌, length, get_or, map, All, Contains, ap, sym, subst, ◌∙◌, arith, ⊎_elim}
use Rattle.std.specs.List.{AllPairs}
use Rattle.std.proofs.lemmas.Bool.{cases_eq}
use Rattle.std.proofs.lemmas.List.{get_or_default, map_push}
use Rattle.std.proofs.lemmas.List.Elements.{All-map}
use Rattle.ng_meta.specs.Place.{IsMetaPlace}
use Rattle.ng_lists.specs.Arrays.{IsSound, ring_at, table_of}
use Rattle.ng_lists.specs.Place.{address_at, index_at}
use Rattle.ng_lists.specs.Rings.{AreApart, IsListed, RingTable, ring_of, with_ring}
use Rattle.ng_lists.proofs.AddressLemmas.{distinct_addresses}
use Rattle.ng_lists.proofs.PlaceLemmas.{Contains-addresses, IsAddressIn, IsMetaPlace-address_at, address_at-index_at, address_behind_head, address_low, member_of_addresses}
use Rattle.ng_lists.proofs.RingLemmas.{all_of, mark_of}
use Rattle.ng_lists.proofs.SoundLemmas.{Changes, length-rings_from, member_inside, ring_shown, shown_changed}

-- the meta at an address is in the ring of a class
pub record IsMember (heads next marks : List ℕ) (class meta : ℕ) : Type 0 where
  pub known : class < 48
  pub member : Contains (ring_at next marks class (get_or heads class 0)) (index_at meta)
  pub address : address_at (index_at meta) ≡ meta

-- a meta in a ring, with the ring's class
pub record IsSomewhere (heads next marks : List ℕ) (meta : ℕ) : Type 0 where
  pub class : ℕ
  pub here : IsMember heads next marks class meta

module _ {heads next prev marks : List ℕ} {pages : ℕ} (sound : IsSound heads next prev marks pages) {table : RingTable} (shown : table_of heads next marks pages ≡ table) where
  pub length_rings : length table.rings ≡ 48
  length_rings = ap (λ t. length t.rings) (sym shown) ∙ length-rings_from next marks 0 heads ∙ sound.classes

  pub ring_is : (class : ℕ) → class < 48 → ring_of table class ≡ map address_at (ring_at next marks class (get_or heads class 0))
  ring_is class known = ap (λ t. ring_of t class) (sym shown) ∙ ring_shown sound class known

  -- the same by a read with any default
  pub ring_read : (class : ℕ) (d : List ℕ) → class < 48 → get_or table.rings class d ≡ map address_at (ring_at next marks class (get_or heads class 0))
  ring_read class d known = get_or_default table.rings class d [] (omega (arith, length_rings)) ∙ ring_is class known

  pub member_of : (class meta : ℕ) → class < 48 → Contains (ring_of table class) meta → IsMember heads next marks class meta
  member_of class meta known in' =
      let at : IsAddressIn (ring_at next marks class (get_or heads class 0)) meta =
      member_of_addresses (ring_at next marks class (get_or heads class 0)) meta (subst (λ xs. Contains xs meta) (ring_is class known) in') in
      record { known = known; member = at.member; address = at.address }

  pub somewhere : (meta : ℕ) → IsListed table meta → IsSomewhere heads next marks meta
  somewhere meta (c, ring, within, read, in') =
      let same : ring ≡ get_or table.rings c [] = sym read ∙ get_or_default table.rings c ring [] within in
      record {
        class = c;
        here = member_of c meta (omega (arith, length_rings)) (subst (λ xs. Contains xs meta) same in');
      }

  -- the address of each member is listed
  pub listed : (class i : ℕ) → class < 48 → Contains (ring_at next marks class (get_or heads class 0)) i → IsListed table (address_at i)
  listed class i known in' =
      let ring : List ℕ = map address_at (ring_at next marks class (get_or heads class 0)) in
      (class, map address_at (ring_at next marks class (get_or heads class 0)), omega (arith, length_rings), ring_read class (map address_at (ring_at next marks class (get_or heads class 0))) known, Contains-addresses (ring_at next marks class (get_or heads class 0)) i in')

  -- a marked meta is in a ring
  pub listed_from_mark : (i : ℕ) → 0 < get_or marks i 0 → IsListed table (address_at i)
  listed_from_mark i marked =
      let class : ℕ = get_or marks i 0 - 1 in
      let known : get_or marks i 0 - 1 < 48 = omega (arith, sound.known i) in
      listed (get_or marks i 0 - 1) i known ((sound.rings (get_or marks i 0 - 1) known).found i (omega arith))

  pub unmarked : (meta : ℕ) → IsMetaPlace meta table.pages → ¬ IsListed table meta → get_or marks (index_at meta) 0 ≡ 0
  unmarked meta place absent = ⊎_elim
      (λ none. none)
      (λ some. absurd (absent (subst (IsListed table) (address_at-index_at meta table.pages place) (listed_from_mark (index_at meta) (omega arith)))))
      (cases_eq (get_or marks (index_at meta) 0) 0)

  module _ (class meta : ℕ) (is : IsMember heads next marks class meta) where
    pub member_mark : get_or marks (index_at meta) 0 ≡ class + 1
    member_mark =
        mark_of (sound.rings class is.known) (index_at meta) is.member

    pub index_inside : index_at meta < 101 * pages
    index_inside = member_inside sound class (index_at meta) is.known is.member

    pub meta_low : meta < 2 ^ 26
    meta_low = subst (λ a. a < 2 ^ 26) is.address (address_low (index_at meta) pages index_inside sound.greatest)

    pub meta_behind_head : 24 ≤ meta % 4096
    meta_behind_head = subst (λ a. 24 ≤ a % 4096) is.address (address_behind_head (index_at meta))

    pub member_place : IsMetaPlace meta table.pages
    member_place =
        let here : IsMetaPlace (address_at (index_at meta)) pages =
        IsMetaPlace-address_at (index_at meta) pages (sound.placed (index_at meta) (omega (arith, member_mark))) index_inside in
        subst (λ a. IsMetaPlace a table.pages) is.address (subst (IsMetaPlace (address_at (index_at meta))) (ap (λ t. t.pages) shown) here)

  -- a step that changes one ring
  pub changed : {heads' next' prev' marks' : List ℕ} {class : ℕ} → class < 48 → {ring : List ℕ} → Changes heads next marks heads' next' prev' marks' pages class ring → table_of heads' next' marks' pages ≡ with_ring table class (map address_at ring)
  changed {heads'} {next'} {prev'} {marks'} {class} below {ring} changes = subst
      (λ t. table_of heads' next' marks' pages ≡ with_ring t class (map address_at ring))
      shown
      (ap (λ rs. record { rings = rs; pages = pages }) (shown_changed sound below changes))

  -- the ring with one more meta
  pub ring_with : (class meta : ℕ) → class < 48 → address_at (index_at meta) ≡ meta → map address_at (ring_at next marks class (get_or heads class 0) ++ index_at meta ∷ []) ≡ ring_of table class ++ meta ∷ []
  ring_with class meta known address =
      map_push address_at (ring_at next marks class (get_or heads class 0)) (index_at meta) ∙ ap (λ a. map address_at (ring_at next marks class (get_or heads class 0)) ++ a ∷ []) address ∙ ap (λ xs. xs ++ meta ∷ []) (sym (ring_is class known))

  -- laws of all rings
  pub all_places : All (λ ring. All (λ meta. IsMetaPlace meta table.pages) ring) table.rings
  all_places k d within =
      let known : k < 48 = omega (arith, length_rings) in
      let ring : List ℕ = ring_at next marks k (get_or heads k 0) in
      subst
      (All (λ meta. IsMetaPlace meta table.pages))
      (sym (ring_read k d known))
      (All-map (λ meta. IsMetaPlace meta table.pages) address_at (ring_at next marks k (get_or heads k 0)) (all_of (λ i. IsMetaPlace (address_at i) table.pages) (ring_at next marks k (get_or heads k 0)) (λ i in'. place_of k known i in')))
    where
      place_of : (k : ℕ) → k < 48 → (i : ℕ) → Contains (ring_at next marks k (get_or heads k 0)) i → IsMetaPlace (address_at i) table.pages
      place_of k known i in' = member_place k (address_at i) (member_of k (address_at i) known (subst (λ xs. Contains xs (address_at i)) (sym (ring_is k known)) (Contains-addresses (ring_at next marks k (get_or heads k 0)) i in')))

  pub all_once : All (AllPairs (λ meta other. meta ≢ other)) table.rings
  all_once k d within =
      let known : k < 48 = omega (arith, length_rings) in
      subst
      (AllPairs (λ meta other. meta ≢ other))
      (sym (ring_read k d known))
      (distinct_addresses (ring_at next marks k (get_or heads k 0)) (sound.rings k known).distinct)

  pub all_apart : AllPairs AreApart table.rings
  all_apart i j d less within meta in' in'' =
      let known : j < 48 = omega (arith, length_rings) in
      let before : i < 48 = omega arith in
      let one : IsMember heads next marks i meta = member_of i meta before (subst (λ xs. Contains xs meta) (get_or_default table.rings i d [] (omega arith)) in') in
      let other : IsMember heads next marks j meta = member_of j meta known (subst (λ xs. Contains xs meta) (get_or_default table.rings j d [] within) in'') in
      omega (arith, member_mark i meta one, member_mark j meta other)
