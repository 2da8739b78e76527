-- Parents in the arrays.
use Rattle.std.proofs.Common.{◌≡◌, ◌≢◌, ℕ, zero, suc, ◌*◌, ◌^◌, ◌<◌, ◌≤◌, List, [], ◌∷◌, length, get_or, set, replicate, cond, false, Option, None, Some, IsSome, refl, ap, sym, subst, ◌∙◌, arith, ⊎_elim, length-set}
use Rattle.std.proofs.lemmas.Bool.{both_ways, cases_eq, eq-eqb, ne_eqb}
use Rattle.std.proofs.lemmas.List.{get_or_read, get_or-set_same, get_or-set_other, length-replicate}
use Rattle.ng_meta.specs.Place.{IsMetaPlace}
use Rattle.ng_lists.specs.Place.{address_at, index_at}
use Rattle.ng_lists.proofs.OpeningLemmas.{zero_read}
use Rattle.ng_lists.proofs.PlaceLemmas.{address_at-index_at, index_below, index_from_page}
use Rattle.ng_shelf.specs.Carriers.{AreCarriers, carrier, carriers, table_of}
use Rattle.ng_shelf.specs.Parents.{IsSameBut, ParentTable, parent_of}

-- a read of the slots reads both arrays
pub get_or-carriers : (metas slots : List ℕ) (i : ℕ) → length metas ≡ length slots → get_or (carriers metas slots) i None ≡ carrier (get_or metas i 0) (get_or slots i 0)
get_or-carriers [] [] i same = refl
get_or-carriers [] (slot ∷ slots) i same = absurd (omega arith)
get_or-carriers (meta ∷ metas) [] i same = absurd (omega arith)
get_or-carriers (meta ∷ metas) (slot ∷ slots) zero same = refl
get_or-carriers (meta ∷ metas) (slot ∷ slots) (suc i) same = get_or-carriers metas slots i (omega arith)

-- at the start no meta has a parent
pub opening_carriers : (n pages : ℕ) → n ≡ 101 * pages → 16 ≤ pages → pages ≤ 16384 → AreCarriers (replicate n 0) (replicate n 0) pages
opening_carriers n pages size least greatest = record {
  least = least;
  greatest = greatest;
  all_metas = omega (arith, length-replicate {A = ℕ} n 0);
  all_slots = omega (arith, length-replicate {A = ℕ} n 0);
  inside = λ child. omega (arith, zero_read n child);
}

pub opening_none : (n pages meta : ℕ) → parent_of (table_of (replicate n 0) (replicate n 0) pages) meta ≡ None
opening_none n pages meta =
    get_or-carriers (replicate n 0) (replicate n 0) (index_at meta) refl ∙ ap (λ m. carrier m (get_or (replicate n 0) (index_at meta) 0)) (zero_read n (index_at meta))

-- a slot that is one
some_carrier : (meta slot : ℕ) → meta ≢ 0 → carrier meta slot ≡ Some (address_at meta, slot)
some_carrier meta slot some = ap (λ b. cond b None (Some (address_at meta, slot))) (ne_eqb meta 0 some)

none_carrier : (meta slot : ℕ) → meta ≡ 0 → carrier meta slot ≡ None
none_carrier meta slot none = ap (λ b. cond b None (Some (address_at meta, slot))) (eq-eqb meta 0 none)

not_some : (parent : Option (ℕ × ℕ)) → IsSome parent → parent ≢ None
not_some None some same = absurd (both_ways false refl some)
not_some (Some p) some same = cc

module _ {metas slots : List ℕ} {pages : ℕ} (is : AreCarriers metas slots pages) {table : ParentTable} (shown : table_of metas slots pages ≡ table) where
  pages_are : pages ≡ table.pages
  pages_are = ap (λ t. t.pages) shown

  same_length : length metas ≡ length slots
  same_length = is.all_metas ∙ sym is.all_slots

  read_table : (meta : ℕ) → parent_of table meta ≡ carrier (get_or metas (index_at meta) 0) (get_or slots (index_at meta) 0)
  read_table meta = ap (λ t. parent_of t meta) (sym shown) ∙ get_or-carriers metas slots (index_at meta) same_length

  shown_place : {meta : ℕ} → IsMetaPlace meta table.pages → IsMetaPlace meta pages
  shown_place {meta} place = subst (IsMetaPlace meta) (sym pages_are) place

  pub meta_low : {meta : ℕ} → IsMetaPlace meta table.pages → meta < 2 ^ 26
  meta_low {meta} place =
      let here : IsMetaPlace meta pages = shown_place place in
      omega (arith, here.stands, here.inside, here.counted, is.greatest)

  module _ {meta i : ℕ} (place : IsMetaPlace meta table.pages) (index : i ≡ index_at meta) where
    here : IsMetaPlace meta pages
    here = shown_place place

    pub meta_inside : i < 101 * pages
    meta_inside = omega (arith, index_below meta pages here)

    -- what the reads of both arrays found
    pub found_parent : {parent slot : ℕ} → parent ≡ get_or metas i parent → slot ≡ get_or slots i slot → IsSome (parent_of table meta) → parent_of table meta ≡ Some (address_at parent, slot)
    found_parent {parent} {slot} parent_read slot_read some =
        let parent_is : parent ≡ get_or metas i 0 = get_or_read metas i parent (omega (arith, meta_inside, is.all_metas)) parent_read 0 in
        let slot_is : slot ≡ get_or slots i 0 = get_or_read slots i slot (omega (arith, meta_inside, is.all_slots)) slot_read 0 in
        let read : parent_of table meta ≡ carrier parent slot =
        read_table meta ∙ ap (λ j. carrier (get_or metas j 0) (get_or slots j 0)) (sym index) ∙ ap (λ p. carrier p (get_or slots i 0)) (sym parent_is) ∙ ap (carrier parent) (sym slot_is) in
        ⊎_elim
        (λ none. absurd (not_some (parent_of table meta) some (read ∙ none_carrier parent slot none)))
        (λ some'. read ∙ some_carrier parent slot some')
        (cases_eq parent 0)

    -- one parent is set
    module _ {parent p : ℕ} (slot : ℕ) (parent_place : IsMetaPlace parent table.pages) (parent_index : p ≡ index_at parent) where
      set_length : length (set metas i p) ≡ length (set slots i slot)
      set_length = length-set metas i p ∙ same_length ∙ sym (length-set slots i slot)

      pub still_carriers : AreCarriers (set metas i p) (set slots i slot) pages
      still_carriers = record {
        least = is.least;
        greatest = is.greatest;
        all_metas = length-set metas i p ∙ is.all_metas;
        all_slots = length-set slots i slot ∙ is.all_slots;
        inside = λ child. ⊎_elim
            (λ same. omega (arith, ap (λ j. get_or (set metas i p) j 0) same, get_or-set_same metas i p 0 (omega (arith, meta_inside, is.all_metas)), index_below parent pages (shown_place parent_place)))
            (λ other. omega (arith, get_or-set_other metas i child p 0 other, is.inside child))
            (cases_eq child i);
      }

      pub set_here : parent_of (table_of (set metas i p) (set slots i slot) pages) meta ≡ Some (parent, slot)
      set_here =
          let meta_read : get_or (set metas i p) i 0 ≡ p = get_or-set_same metas i p 0 (omega (arith, meta_inside, is.all_metas)) in
          let slot_read : get_or (set slots i slot) i 0 ≡ slot = get_or-set_same slots i slot 0 (omega (arith, meta_inside, is.all_slots)) in
          let address : address_at p ≡ parent = ap address_at parent_index ∙ address_at-index_at parent pages (shown_place parent_place) in
          let some : p ≢ 0 = λ none. omega (arith, index_from_page parent pages (shown_place parent_place)) in
          get_or-carriers (set metas i p) (set slots i slot) (index_at meta) set_length ∙ ap (λ j. carrier (get_or (set metas i p) j 0) (get_or (set slots i slot) j 0)) (sym index) ∙ ap (λ m. carrier m (get_or (set slots i slot) i 0)) meta_read ∙ ap (carrier p) slot_read ∙ some_carrier p slot some ∙ ap (λ a. Some (a, slot)) address

      pub set_others : IsSameBut meta table (table_of (set metas i p) (set slots i slot) pages)
      set_others other other_place apart =
          let there : IsMetaPlace other pages = shown_place other_place in
          let away : index_at other ≢ i = λ same. apart (sym (address_at-index_at other pages there) ∙ ap address_at (same ∙ index) ∙ address_at-index_at meta pages here) in
          get_or-carriers (set metas i p) (set slots i slot) (index_at other) set_length ∙ ap (λ m. carrier m (get_or (set slots i slot) (index_at other) 0)) (get_or-set_other metas i (index_at other) p 0 away) ∙ ap (carrier (get_or metas (index_at other) 0)) (get_or-set_other slots i (index_at other) slot 0 away) ∙ sym (read_table other)
