-- What contracts see of the queue.
use Rattle.std.proofs.Common.{◌≡◌, ◌≢◌, ℕ, ◌*◌, ◌^◌, ◌<◌, ◌≤◌, List, [], ◌∷◌, ◌++◌, length, get_or, set, map, drop, All, Contains, ap, sym, subst, ◌∙◌, arith, ⊎_elim}
use Rattle.std.proofs.lemmas.Bool.{cases_eq}
use Rattle.std.proofs.lemmas.List.{get_or_read, map-append}
use Rattle.ng_meta.specs.Place.{IsMetaPlace}
use Rattle.ng_lists.specs.Place.{address_at, index_at}
use Rattle.ng_lists.proofs.AddressLemmas.{distinct_addresses}
use Rattle.ng_lists.proofs.DistinctLemmas.{IsDistinct}
use Rattle.ng_lists.proofs.PlaceLemmas.{Contains-addresses, IsAddressIn, IsMetaPlace-address_at, address_at-index_at, index_below, index_from_page, member_of_addresses}
use Rattle.ng_lists.proofs.RingLemmas.{all_of}
use Rattle.ng_shelf.specs.FreeMetas.{FreeList}
use Rattle.ng_shelf.specs.Queue.{IsQueue, list_of, queue_at}
use Rattle.ng_shelf.proofs.PutLemmas.{Appends, as_first, at_end, still_queue}
use Rattle.ng_shelf.proofs.QueueLemmas.{linked_inside, member_linked, queue_empty}
use Rattle.ng_shelf.proofs.TakeLemmas.{split}

module _ {after : List ℕ} {first last pages : ℕ} (is : IsQueue after first last pages) {list : FreeList} (shown : list_of after first pages ≡ list) where
  pages_are : pages ≡ list.pages
  pages_are = ap (λ l. l.pages) shown

  metas_are : map address_at (queue_at after first) ≡ list.metas
  metas_are = ap (λ l. l.metas) shown

  -- a meta is in the list where its index has a link
  listed_from_link : (meta : ℕ) → IsMetaPlace meta pages → get_or after (index_at meta) 0 ≢ 0 → Contains list.metas meta
  listed_from_link meta place some = subst
      (λ xs. Contains xs meta)
      metas_are
      (subst (Contains (map address_at (queue_at after first))) (address_at-index_at meta pages place) (Contains-addresses (queue_at after first) (index_at meta) (is.found (index_at meta) some)))

  listed_member : (meta : ℕ) → Contains list.metas meta → IsAddressIn (queue_at after first) meta
  listed_member meta listed = member_of_addresses (queue_at after first) meta (subst (λ xs. Contains xs meta) (sym metas_are) listed)

  pub listed_place : (meta : ℕ) → Contains list.metas meta → IsMetaPlace meta pages
  listed_place meta listed =
      let in' : IsAddressIn (queue_at after first) meta = listed_member meta listed in
      let some : get_or after (index_at meta) 0 ≢ 0 = member_linked is (index_at meta) in'.member in
      subst
      (λ m. IsMetaPlace m pages)
      in'.address
      (IsMetaPlace-address_at (index_at meta) pages (is.placed (index_at meta) some) (linked_inside is (index_at meta) some))

  pub all_places : All (λ meta. IsMetaPlace meta list.pages) list.metas
  all_places = all_of (λ meta. IsMetaPlace meta list.pages) list.metas (λ meta in'. subst (IsMetaPlace meta) pages_are (listed_place meta in'))

  pub all_once : IsDistinct list.metas
  all_once = subst (λ xs. (i j d : ℕ) → i < j → j < length xs → get_or xs i d ≢ get_or xs j d) metas_are (distinct_addresses (queue_at after first) is.distinct)

  -- what the read of a meta's link found
  module _ {meta i link : ℕ} (place : IsMetaPlace meta pages) (index : i ≡ index_at meta) (read : link ≡ get_or after i link) where
    link_is : link ≡ get_or after (index_at meta) 0
    link_is = get_or_read after (index_at meta) link (omega (arith, index_below meta pages place, is.sized)) (read ∙ ap (λ j. get_or after j link) index) 0

    pub has_from : link ≢ 0 → Contains list.metas meta
    has_from some = listed_from_link meta place (λ none. some (link_is ∙ none))

    pub has_to : Contains list.metas meta → link ≢ 0
    has_to listed none = member_linked is (index_at meta) (listed_member meta listed).member (sym link_is ∙ none)

  shown_place : {meta : ℕ} → IsMetaPlace meta list.pages → IsMetaPlace meta pages
  shown_place {meta} place = subst (IsMetaPlace meta) (sym pages_are) place

  pub meta_low : {meta : ℕ} → IsMetaPlace meta list.pages → meta < 2 ^ 26
  meta_low {meta} place =
      let here : IsMetaPlace meta pages = shown_place place in
      omega (arith, here.stands, here.inside, here.counted, is.greatest)

  -- what the read of the first index's link found
  module _ {link : ℕ} (read : link ≡ get_or after first link) where
    pub first_link : link ≡ get_or after first 0
    first_link = get_or_read after first link (omega (arith, is.first_inside, is.sized)) read 0

    pub none_shown : link ≡ 0 → list.metas ≡ []
    none_shown none = sym metas_are ∙ ap (map address_at) (queue_empty is (sym first_link ∙ none))

    pub split_shown : link ≢ 0 → list.metas ≡ address_at first ∷ map address_at (queue_at (set after first 0) link)
    split_shown some =
        sym metas_are ∙ ap (map address_at) (split is (λ none. some (first_link ∙ none))) ∙ ap (λ l. address_at first ∷ map address_at (queue_at (set after first 0) l)) (sym first_link)

    pub rest_shown : link ≢ 0 → list_of (set after first 0) link pages ≡ record { metas = drop 1 list.metas; pages = list.pages }
    rest_shown some =
        ap (λ xs. record { metas = xs; pages = pages }) (sym (ap (drop 1) (split_shown some))) ∙ ap (λ p. record { metas = drop 1 list.metas; pages = p }) pages_are

  -- a meta that isn't in the list
  module _ {meta i : ℕ} (place : IsMetaPlace meta list.pages) (absent : ¬ Contains list.metas meta) (index : i ≡ index_at meta) where
    here : IsMetaPlace meta pages
    here = shown_place place

    mapped : 101 ≤ i
    mapped = omega (arith, index_from_page meta pages here)

    inside : i < 101 * pages
    inside = omega (arith, index_below meta pages here)

    unlinked : get_or after i 0 ≡ 0
    unlinked = ⊎_elim
        (λ none. ap (λ j. get_or after j 0) index ∙ none)
        (λ some. absurd (absent (listed_from_link meta here some)))
        (cases_eq (get_or after (index_at meta) 0) 0)

    pub still : {after' : List ℕ} {first' : ℕ} → Appends after first after' first' i pages → IsQueue after' first' i pages
    still {after'} {first'} step = still_queue is i mapped inside unlinked step

    -- where the first index's link is found 0, and where it isn't
    pub put_first : {link : ℕ} → link ≡ get_or after first link → link ≡ 0 → Appends after first (set after i i) i i pages
    put_first {link} read none = as_first is i mapped inside unlinked (sym (first_link read) ∙ none)

    pub put_behind : {link : ℕ} → link ≡ get_or after first link → link ≢ 0 → Appends after first (set (set after last i) i i) first i pages
    put_behind {link} read some = at_end is i mapped inside unlinked (λ none. some (first_link read ∙ none))

    pub shown_appended : {after' : List ℕ} {first' : ℕ} → Appends after first after' first' i pages → list_of after' first' pages ≡ record { metas = list.metas ++ meta ∷ []; pages = list.pages }
    shown_appended {after'} {first'} step =
        let address : address_at i ≡ meta = ap address_at index ∙ address_at-index_at meta pages here in
        let metas : map address_at (queue_at after' first') ≡ list.metas ++ meta ∷ [] =
        ap (map address_at) step.queue ∙ map-append address_at (queue_at after first) (i ∷ []) ∙ ap (λ xs. xs ++ address_at i ∷ []) metas_are ∙ ap (λ m. list.metas ++ m ∷ []) address in
        ap (λ xs. record { metas = xs; pages = pages }) metas ∙ ap (λ p. record { metas = list.metas ++ meta ∷ []; pages = p }) pages_are
