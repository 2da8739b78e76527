-- The returned metas, and the unused ones behind them.
use Rattle.std.proofs.Common.{◌≡◌, ℕ, zero, suc, ◌+◌, ◌-◌, ◌*◌, ◌/◌, ◌%◌, ◌<◌, ◌≤◌, List, [], ◌∷◌, ◌++◌, All, Contains, None, Some, drop, refl, ap, sym, subst, ◌∙◌, arith, ⊎_elim}
use Rattle.std.specs.List.{slice_get}
use Rattle.std.proofs.lemmas.List.Elements.{Contains-append_left, Contains-append_right, Contains-append_cases, All-contains}
use Rattle.ng_lists.proofs.CircleLemmas.{only}
use Rattle.ng_lists.proofs.DistinctLemmas.{IsDistinct, distinct_append, distinct_back, distinct_cons, distinct_across, distinct_front, distinct_tail}
use Rattle.ng_lists.proofs.RingLemmas.{all_of}
use Rattle.ng_meta.specs.Place.{IsMetaPlace, meta_place}
use Rattle.ng_shelf.specs.Stock.{Stock, free_of, metas_from, metas_of, unused_left}
use Rattle.ng_shelf.specs.Stocked.{IsStock, unused_of}

-- a meta of an area, with its index
pub record IsFrom (area i n meta : ℕ) : Type 0 where
  pub index : ℕ
  pub least : i ≤ index
  pub below : index < i + n
  pub place : meta ≡ meta_place area index

pub member_from : (area i n meta : ℕ) → Contains (metas_from area i n) meta → IsFrom area i n meta
member_from area i zero meta (k, within, is) = absurd (omega arith)
member_from area i (suc n) meta (zero, within, is) = record { index = i; least = omega arith; below = omega arith; place = sym is }
member_from area i (suc n) meta (suc k, within, is) =
    let later : IsFrom area (suc i) n meta = member_from area (suc i) n meta (k, omega arith, is) in
    record { index = later.index; least = omega (arith, later.least); below = omega (arith, later.below); place = later.place }

distinct_from : (area i n : ℕ) → IsDistinct (metas_from area i n)
distinct_from area i zero = λ k j d less within. absurd (omega arith)
distinct_from area i (suc n) = distinct_cons
    (meta_place area i)
    (metas_from area (suc i) n)
    (λ meta in' same.
    let later : IsFrom area (suc i) n meta = member_from area (suc i) n meta in' in
    omega (arith, later.least, later.place, same))
    (distinct_from area (suc i) n)

pub unused_next : (area unused : ℕ) → unused < 101 → unused_of area unused ≡ meta_place area unused ∷ unused_of area (unused + 1)
unused_next area unused below =
    let count : 101 - unused ≡ suc (101 - (unused + 1)) = omega arith in
    let next : suc unused ≡ unused + 1 = omega arith in
    ap (metas_from area unused) count ∙ ap (λ i. meta_place area unused ∷ metas_from area i (101 - (unused + 1))) next

-- lists by their first
pub nothing_first : (xs : List ℕ) → slice_get xs 0 ≡ None → xs ≡ []
nothing_first [] none = refl
nothing_first (x ∷ xs) none = absurd (cc)

pub first_of_both : (xs ys : List ℕ) (x : ℕ) → slice_get xs 0 ≡ Some x → slice_get (xs ++ ys) 0 ≡ Some x
first_of_both [] ys x first = absurd (cc)
first_of_both (y ∷ xs) ys x first = first

pub rest_of_both : (xs ys : List ℕ) (x : ℕ) → slice_get xs 0 ≡ Some x → drop 1 (xs ++ ys) ≡ drop 1 xs ++ ys
rest_of_both [] ys x first = absurd (cc)
rest_of_both (y ∷ xs) ys x first = refl

pub rest_unused : (returned : List ℕ) (area unused : ℕ) → slice_get returned 0 ≡ None → unused < 101 → drop 1 returned ++ unused_of area (unused + 1) ≡ drop 1 (returned ++ unused_of area unused)
rest_unused returned area unused none some = rw (nothing_first returned none) (sym (ap (drop 1) (unused_next area unused some)))

pub unused_taken : (returned : List ℕ) (area unused : ℕ) → slice_get returned 0 ≡ None → unused < 101 → unused_of area (unused + 1) ≡ unused_left returned (unused_of area unused)
unused_taken returned area unused none some = rw (nothing_first returned none) (sym (ap (drop 1) (unused_next area unused some)))

distinct_rest : (xs ys : List ℕ) → IsDistinct (xs ++ ys) → IsDistinct (drop 1 xs ++ ys)
distinct_rest [] ys distinct = distinct
distinct_rest (x ∷ xs) ys distinct = distinct_tail x (xs ++ ys) distinct

pub front_empty : (xs ys : List ℕ) → xs ++ ys ≡ [] → xs ≡ []
front_empty [] ys none = refl
front_empty (x ∷ xs) ys none = absurd (cc)

-- an area without a meta in use
pub stocked_area : (area pages : ℕ) → pages ≤ 16384 → area % 4096 ≡ 0 → 0 < area → area < 4096 * pages → IsStock [] area 0 pages
stocked_area area pages greatest page above below = record {
  greatest = greatest;
  some = omega arith;
  page = page;
  above = λ _. above;
  below = below;
  once = distinct_from area 0 101;
}

-- a meta behind a new area isn't free
pub behind_area : (stock : Stock) (area meta : ℕ) → free_of stock ≡ [] → area + 4064 ≤ meta → ¬ Contains (free_of (record stock { unused = metas_of area; area = area })) meta
behind_area stock area meta none behind in' = ⊎_elim
    (λ (returned : Contains stock.returned meta). nothing (subst (λ xs. Contains xs meta) (front_empty stock.returned stock.unused none) returned))
    (λ (unused : Contains (metas_of area) meta).
    let from : IsFrom area 0 101 meta = member_from area 0 101 meta unused in
    omega (arith, from.below, from.place))
    (Contains-append_cases stock.returned (metas_of area) meta in')
  where
    nothing : ¬ Contains [] meta
    nothing (k, within, is) = absurd (omega arith)

module _ {returned : List ℕ} {area unused pages : ℕ} (is : IsStock returned area unused pages) where
  pub area_low : area < 4294967296
  area_low = omega (arith, is.below, is.greatest)

  -- the first of the returned metas is taken
  pub less_returned : IsStock (drop 1 returned) area unused pages
  less_returned = record {
    greatest = is.greatest;
    some = is.some;
    page = is.page;
    above = is.above;
    below = is.below;
    once = distinct_rest returned (unused_of area unused) is.once;
  }

  -- the first of the unused ones is
  pub less_unused : unused < 101 → IsStock (drop 1 returned) area (unused + 1) pages
  less_unused some = record {
    greatest = is.greatest;
    some = omega arith;
    page = is.page;
    above = λ _. is.above some;
    below = is.below;
    once = distinct_append
        (drop 1 returned)
        (unused_of area (unused + 1))
        (distinct_front (drop 1 returned) (unused_of area unused) less_returned.once)
        (distinct_tail (meta_place area unused) (unused_of area (unused + 1)) (subst IsDistinct (unused_next area unused some) (distinct_back returned (unused_of area unused) is.once)))
        (λ x y left right. distinct_across (drop 1 returned) (unused_of area unused) less_returned.once x y left (subst (λ xs. Contains xs y) (sym (unused_next area unused some)) (Contains-append_right (meta_place area unused ∷ []) (unused_of area (unused + 1)) y right)));
  }

  -- a meta is returned
  pub more_returned : (meta : ℕ) → ¬ Contains (returned ++ unused_of area unused) meta → IsStock (returned ++ meta ∷ []) area unused pages
  more_returned meta absent = record {
    greatest = is.greatest;
    some = is.some;
    page = is.page;
    above = is.above;
    below = is.below;
    once = distinct_append
        (returned ++ meta ∷ [])
        (unused_of area unused)
        (distinct_append
        returned
        (meta ∷ [])
        (distinct_front returned (unused_of area unused) is.once)
        (λ i j d less within. absurd (omega arith))
        (λ x y left right same. absent (Contains-append_left returned (unused_of area unused) meta (subst (Contains returned) (same ∙ only meta y right) left))))
        (distinct_back returned (unused_of area unused) is.once)
        (λ x y left right same. ⊎_elim
        (λ old. distinct_across returned (unused_of area unused) is.once x y old right same)
        (λ new. absent (Contains-append_right returned (unused_of area unused) meta (subst (Contains (unused_of area unused)) (sym same ∙ only meta x new) right)))
        (Contains-append_cases returned (meta ∷ []) x left));
  }

  -- each meta is in the space
  pub stock_places : All (λ meta. IsMetaPlace meta pages) returned → All (λ meta. IsMetaPlace meta pages) (returned ++ unused_of area unused)
  stock_places places = all_of (λ meta. IsMetaPlace meta pages) (returned ++ unused_of area unused) (λ meta in'. ⊎_elim
      (λ left. All-contains (λ meta. IsMetaPlace meta pages) returned meta places left)
      (λ right.
      let from : IsFrom area unused (101 - unused) meta = member_from area unused (101 - unused) meta right in
      let some : unused < 101 = omega (arith, from.least, from.below) in
      let page : area ≡ 4096 * (area / 4096) = omega (arith, is.page) in
      record {
        page = area / 4096;
        i = from.index;
        mapped = omega (arith, is.page, is.above some);
        inside = omega (arith, is.page, is.below);
        counted = omega (arith, from.below, is.some);
        stands = from.place ∙ ap (λ a. meta_place a from.index) page;
      })
      (Contains-append_cases returned (unused_of area unused) meta in'))
