-- Lists of indices and the lists of their addresses.
use Rattle.std.proofs.Common.{◌≡◌, ℕ, ◌<◌, List, [], ◌∷◌, ◌++◌, length, get_or, map, Contains, refl, ap, sym, subst, ◌∙◌, arith}
use Rattle.std.proofs.lemmas.List.{get_or-map, length-map, length_push, map-append}
use Rattle.ng_lists.specs.Place.{address_at, index_at}
use Rattle.ng_lists.specs.Rings.{next_in, rotated, without}
use Rattle.ng_lists.proofs.DistinctLemmas.{IsDistinct, distinct_across}
use Rattle.ng_lists.proofs.ChainLemmas.{Contains-head}
use Rattle.ng_lists.proofs.PlaceLemmas.{index_at-address_at, member_of_addresses}
use Rattle.ng_lists.proofs.TableLemmas.{next_in-split, rotated-split, without-split}

-- distinct indices have distinct addresses
pub distinct_addresses : (xs : List ℕ) → IsDistinct xs → IsDistinct (map address_at xs)
distinct_addresses xs distinct i j d less within same =
    let inside : j < length xs = omega (arith, length-map xs address_at) in
    let before : i < length xs = omega arith in
    let equal : address_at (get_or xs i 0) ≡ address_at (get_or xs j 0) =
    sym (get_or-map address_at xs i 0 d before) ∙ same ∙ get_or-map address_at xs j 0 d inside in
    distinct
    i
    j
    0
    less
    inside
    (sym (index_at-address_at (get_or xs i 0)) ∙ ap index_at equal ∙ index_at-address_at (get_or xs j 0))

module _ (front : List ℕ) (i : ℕ) (back : List ℕ) (distinct : IsDistinct (front ++ i ∷ back)) where
  -- the address stands nowhere before its place
  away : ¬ Contains (map address_at front) (address_at i)
  away in' =
      distinct_across front (i ∷ back) distinct i i (subst (Contains front) (index_at-address_at i) (member_of_addresses front (address_at i) in').member) (Contains-head i back) refl

  pub without-addresses : without (address_at i) (map address_at (front ++ i ∷ back)) ≡ map address_at (front ++ back)
  without-addresses =
      ap (without (address_at i)) (map-append address_at front (i ∷ back)) ∙ without-split (map address_at front) (address_at i) (map address_at back) away ∙ sym (map-append address_at front back)

  pub rotated-addresses : rotated (address_at i) (map address_at (front ++ i ∷ back)) ≡ map address_at (i ∷ back ++ front)
  rotated-addresses =
      ap (rotated (address_at i)) (map-append address_at front (i ∷ back)) ∙ rotated-split (map address_at front) (address_at i) (map address_at back) away ∙ ap (λ xs. address_at i ∷ xs) (sym (map-append address_at back front))

  pub next_in-addresses : next_in (map address_at (front ++ i ∷ back)) (address_at i) ≡ address_at (get_or (back ++ front ++ i ∷ []) 0 0)
  next_in-addresses =
      let parts : map address_at (back ++ front ++ i ∷ []) ≡ map address_at back ++ map address_at front ++ address_at i ∷ [] =
      map-append address_at (back ++ front) (i ∷ []) ∙ ap (λ xs. xs ++ address_at i ∷ []) (map-append address_at back front) in
      let some : 0 < length (back ++ front ++ i ∷ []) = omega (arith, length_push (back ++ front) i) in
      ap (λ xs. next_in xs (address_at i)) (map-append address_at front (i ∷ back)) ∙ next_in-split (map address_at front) (address_at i) (map address_at back) away ∙ ap (λ xs. get_or xs 0 0) (sym parts) ∙ get_or-map address_at (back ++ front ++ i ∷ []) 0 0 0 some
