-- The table of places by address, as blocks come and go.
use Rattle.std.proofs.Common.{◌≡◌, ◌≢◌, ◌⊎◌, ℕ, zero, suc, ◌+◌, ◌-◌, ◌*◌, ◌/◌, ◌%◌, ◌<◌, ◌≤◌, List, [], ◌∷◌, ◌++◌, length, get_or, take, refl, sym, ap, ◌∙◌, subst, inl, inr, ⊎_elim, arith}
use Rattle.std.proofs.Math.ListN.{set}
use Rattle.std.proofs.lemmas.List.{get_or-set_same, get_or-set_other, get_or-take, get_or_append_left, get_or-append_right, get_or_default, get_or_past, length-append, length-set, length-take}
use Rattle.std.proofs.lemmas.Bool.{cases_eq, cases_lt}
use Rattle.std.specs.Prelude.{Option, Some, None, All, swap_remove}
use Rattle.ng_heap.specs.At.{HasNoneAt, IsPlaceAt}
use Rattle.ng_space.specs.Blocks.{BlockToken}
use Rattle.ng_drill.specs.Desks.{IsIndexed, IsPlaceOf}

-- ---- reads
-- a place is read where something is in it
pub read_within : {A : Type 0} (xs : List (Option A)) (i : ℕ) (x : A) → get_or xs i None ≡ Some x → i < length xs
read_within xs i x is = ⊎_elim
    (λ (lt : i < length xs). lt)
    (λ (le : length xs ≤ i). absurd (let e : Some x ≡ None = sym is ∙ get_or_past xs i None le in cc))
    (cases_lt i (length xs))

-- an item of a list that grew is one of the list, or the last
pub pushed_either : {A : Type 0} (xs : List A) (x : A) (k : ℕ) (d : A) → k < length (xs ++ x ∷ [])
    → ((k < length xs) × (get_or (xs ++ x ∷ []) k d ≡ get_or xs k d)) ⊎ ((k ≡ length xs) × (get_or (xs ++ x ∷ []) k d ≡ x))
pushed_either xs x k d lt = ⊎_elim
    (λ (same : k ≡ length xs). inr (same, rw same (get_or-append_right xs (x ∷ []) (length xs) (length xs) d refl (omega arith) ∙ last)))
    (λ (ne : k ≢ length xs). let less : k < length xs = omega (arith, length-append xs (x ∷ [])) in inl (less, get_or_append_left xs (x ∷ []) d k less))
    (cases_eq k (length xs))
  where
    last : get_or (x ∷ []) (length xs - length xs) d ≡ x
    last = let none : length xs - length xs ≡ 0 = omega arith in rw none refl

-- where an item of a list without that of a place was: the last came there
pub record CameTo {A : Type 0} (xs : List A) (place k : ℕ) (d : A) (e : A) : Type 0 where
  pub from : ℕ
  pub within : from < length xs
  pub other : from ≢ place
  pub item : get_or (swap_remove xs place d) k e ≡ get_or xs from e
  pub where_from : ((k ≡ place) × (from + 1 ≡ length xs)) ⊎ ((k ≢ place) × (from ≡ k) × (k + 1 < length xs))

pub length-swap_remove : {A : Type 0} (xs : List A) (place : ℕ) (d : A) → length (swap_remove xs place d) ≡ length xs - 1
length-swap_remove xs place d = length-take (length xs - 1) (set xs place (get_or xs (length xs - 1) d)) ∙ (let e = length-set xs place (get_or xs (length xs - 1) d) in omega (arith, e))

pub came_to : {A : Type 0} (xs : List A) (place k : ℕ) (d e : A) → place < length xs → k < length xs - 1 → CameTo xs place k d e
came_to xs place k d e there lt = ⊎_elim
    (λ (same : k ≡ place). record {
      from = length xs - 1;
      within = omega arith;
      other = omega arith;
      item = front ∙ ap (λ j. get_or (set xs place (get_or xs (length xs - 1) d)) j e) same ∙ get_or-set_same xs place (get_or xs (length xs - 1) d) e there ∙ get_or_default xs (length xs - 1) d e (omega arith);
      where_from = inl (same, omega arith);
    })
    (λ (ne : k ≢ place). record {
      from = k;
      within = omega arith;
      other = ne;
      item = front ∙ get_or-set_other xs place k (get_or xs (length xs - 1) d) e ne;
      where_from = inr (ne, refl, omega arith);
    })
    (cases_eq k place)
  where
    front : get_or (swap_remove xs place d) k e ≡ get_or (set xs place (get_or xs (length xs - 1) d)) k e
    front = get_or-take (length xs - 1) (set xs place (get_or xs (length xs - 1) d)) k e lt

-- two items that came to different places came from different ones
pub came_apart : {A : Type 0} (xs : List A) (place k j : ℕ) (d e : A) → k ≢ j → (c : CameTo xs place k d e) → (b : CameTo xs place j d e) → c.from ≢ b.from
came_apart xs place k j d e ne c b same = ⊎_elim
    (λ (here : (k ≡ place) × (c.from + 1 ≡ length xs)). ⊎_elim
    (λ (there : (j ≡ place) × (b.from + 1 ≡ length xs)). ne (here.0 ∙ sym there.0))
    (λ (there : (j ≢ place) × (b.from ≡ j) × (j + 1 < length xs)). let a0 = here.1 in let a1 = there.1 in let a2 = there.2 in absurd (omega arith))
    b.where_from)
    (λ (here : (k ≢ place) × (c.from ≡ k) × (k + 1 < length xs)). ⊎_elim
    (λ (there : (j ≡ place) × (b.from + 1 ≡ length xs)). let a0 = there.1 in let a1 = here.1 in let a2 = here.2 in absurd (omega arith))
    (λ (there : (j ≢ place) × (b.from ≡ j) × (j + 1 < length xs)). ne (sym here.1 ∙ same ∙ there.1))
    b.where_from)
    c.where_from

-- ---- the table
-- two blocks of one unit are in one place
pub one_place : (held : List BlockToken) (places : List (Option ℕ)) (k j : ℕ) (d e : BlockToken) → IsIndexed held places → k < length held → j < length held
    → (get_or held k d).at / 16 ≡ (get_or held j e).at / 16 → k ≡ j
one_place held places k j d e index lk lj same =
    let first = index.each k d lk in
    let second = index.each j e lj in
    let both : Some k ≡ Some j = sym first ∙ ap (λ u. get_or places u None) same ∙ second in cc

-- no block has an address whose unit has no place
pub none_placed : (held : List BlockToken) (places : List (Option ℕ)) (at : ℕ) → IsIndexed held places → get_or places (at / 16) None ≡ None → HasNoneAt held at
none_placed held places at index none k d lt same =
    let found = index.each k d lt in
    let e : None ≡ Some k = sym none ∙ ap (λ a. get_or places (a / 16) None) (sym same) ∙ found in absurd (cc)

-- the block of a unit's place has the address, a multiple of 16
pub placed_at : (held : List BlockToken) (places : List (Option ℕ)) (at place : ℕ) → IsIndexed held places → at % 16 ≡ 0 → get_or places (at / 16) None ≡ Some place → IsPlaceAt held at (Some place)
placed_at held places at place index whole is =
    let back = index.back (at / 16) place is in
    (back.0, λ d. let unit = back.1 d in let own = index.whole place d back.0 in omega (arith, unit, own))

-- no block has an address that isn't whole
pub none_odd : (held : List BlockToken) (places : List (Option ℕ)) (at : ℕ) → IsIndexed held places → at % 16 ≢ 0 → HasNoneAt held at
none_odd held places at index odd k d lt same = odd (ap (λ a. a % 16) (sym same) ∙ index.whole k d lt)

-- a unit is free where no block has its address
pub unit_free : (held : List BlockToken) (places : List (Option ℕ)) (at : ℕ) → IsIndexed held places → at % 16 ≡ 0 → HasNoneAt held at → get_or places (at / 16) None ≡ None
unit_free held places at index whole none = by_read (get_or places (at / 16) None) refl
  where
    by_read : (o : Option ℕ) → get_or places (at / 16) None ≡ o → get_or places (at / 16) None ≡ None
    by_read None is = is
    by_read (Some place) is =
        let there = placed_at held places at place index whole is in
        let d : BlockToken = record { slot = record { meta = 0; index = 0; storage = 0; start = 0; end = 0; room = 0; hand = 0 }; at = 0; len = 0; align = 0 } in
        absurd (none place d there.0 (there.1 d))

-- one block more
pub indexed_more : (held : List BlockToken) (places : List (Option ℕ)) (block : BlockToken) → IsIndexed held places → HasNoneAt held block.at → block.at % 16 ≡ 0
    → block.at / 16 < length places → IsIndexed (held ++ block ∷ []) (set places (block.at / 16) (Some (length held)))
indexed_more held places block index none whole within = record {
  each = λ k d lt. ⊎_elim
      (λ (old : (k < length held) × (get_or (held ++ block ∷ []) k d ≡ get_or held k d)).
      let other : block.at / 16 ≢ (get_or held k d).at / 16 = λ same. let own = index.whole k d old.0 in none k d old.0 (omega (arith, same, own, whole)) in
      ap (λ (b : BlockToken). get_or (set places (block.at / 16) (Some (length held))) (b.at / 16) None) old.1
      ∙ get_or-set_other places (block.at / 16) ((get_or held k d).at / 16) (Some (length held)) None (λ e. other (sym e)) ∙ index.each k d old.0)
      (λ (new : (k ≡ length held) × (get_or (held ++ block ∷ []) k d ≡ block)).
      ap (λ (b : BlockToken). get_or (set places (block.at / 16) (Some (length held))) (b.at / 16) None) new.1
      ∙ get_or-set_same places (block.at / 16) (Some (length held)) None within ∙ ap (λ n. Some n) (sym new.0))
      (pushed_either held block k d lt);
  back = λ p k is. ⊎_elim
      (λ (here : p ≡ block.at / 16).
      let e : Some (length held) ≡ Some k = sym (get_or-set_same places (block.at / 16) (Some (length held)) None within) ∙ ap (λ u. get_or (set places (block.at / 16) (Some (length held))) u None) (sym here) ∙ is in
      let same : length held ≡ k = cc in (
        omega (arith, same, length-append held (block ∷ [])),
        λ d. ap (λ j. (get_or (held ++ block ∷ []) j d).at / 16) (sym same) ∙ ap (λ (b : BlockToken). b.at / 16) (last d) ∙ sym here,
      ))
      (λ (ne : p ≢ block.at / 16).
      let back = index.back p k (sym (get_or-set_other places (block.at / 16) p (Some (length held)) None ne) ∙ is) in
      let lt = back.0 in
      (omega (arith, lt, length-append held (block ∷ [])), λ d. ap (λ (b : BlockToken). b.at / 16) (get_or_append_left held (block ∷ []) d k lt) ∙ back.1 d))
      (cases_eq p (block.at / 16));
  whole = λ k d lt. ⊎_elim
      (λ (old : (k < length held) × (get_or (held ++ block ∷ []) k d ≡ get_or held k d)). ap (λ (b : BlockToken). b.at % 16) old.1 ∙ index.whole k d old.0)
      (λ (new : (k ≡ length held) × (get_or (held ++ block ∷ []) k d ≡ block)). ap (λ (b : BlockToken). b.at % 16) new.1 ∙ whole)
      (pushed_either held block k d lt);
}
  where
    last : (d : BlockToken) → get_or (held ++ block ∷ []) (length held) d ≡ block
    last d = ⊎_elim
        (λ (old : (length held < length held) × (get_or (held ++ block ∷ []) (length held) d ≡ get_or held (length held) d)). let no = old.0 in absurd (omega arith))
        (λ (new : (length held ≡ length held) × (get_or (held ++ block ∷ []) (length held) d ≡ block)). new.1)
        (pushed_either held block (length held) d (omega (arith, length-append held (block ∷ []))))

-- ---- one block less
module _ (before : List BlockToken) (places : List (Option ℕ)) (at place : ℕ) (d : BlockToken) (index : IsIndexed before places) (here : IsPlaceAt before at (Some place)) where
  -- its unit
  own_unit : get_or places (at / 16) None ≡ Some place
  own_unit = ap (λ a. get_or places (a / 16) None) (sym (here.1 d)) ∙ index.each place d here.0

  other_unit : (k : ℕ) (e : BlockToken) → k < length before → k ≢ place → (get_or before k e).at / 16 ≢ at / 16
  other_unit k e lt ne same = ne (one_place before places k place e d index lt here.0 (same ∙ ap (λ a. a / 16) (sym (here.1 d))))

  -- in the table without the unit each other block has its place
  others : (k : ℕ) (e : BlockToken) → k < length before → k ≢ place → get_or (set places (at / 16) None) ((get_or before k e).at / 16) None ≡ Some k
  others k e lt ne = get_or-set_other places (at / 16) ((get_or before k e).at / 16) None None (other_unit k e lt ne) ∙ index.each k e lt

  others_back : (p k : ℕ) → get_or (set places (at / 16) None) p None ≡ Some k → (k < length before) × (k ≢ place) × ((e : BlockToken) → (get_or before k e).at / 16 ≡ p)
  others_back p k is = ⊎_elim
      (λ (same : p ≡ at / 16). absurd (gone same))
      (λ (ne : p ≢ at / 16).
      let back = index.back p k (sym (get_or-set_other places (at / 16) p None None ne) ∙ is) in
      (back.0, (λ same. ne (sym (back.1 d) ∙ ap (λ j. (get_or before j d).at / 16) same ∙ ap (λ a. a / 16) (here.1 d))), back.1))
      (cases_eq p (at / 16))
    where
      gone : p ≡ at / 16 → ⊥
      gone same =
          let none : get_or (set places (at / 16) None) (at / 16) None ≡ None = get_or-set_same places (at / 16) None None (read_within places (at / 16) place own_unit) in
          let e : None ≡ Some k = sym none ∙ ap (λ u. get_or (set places (at / 16) None) u None) (sym same) ∙ is in absurd (cc)

  -- the last block was in that place
  pub indexed_without_last : place + 1 ≡ length before → IsIndexed (swap_remove before place d) (set places (at / 16) None)
  indexed_without_last last = record {
    each = λ k e lt.
        let less : k < length before - 1 = omega (arith, length-swap_remove before place d) in
        let c = came_to before place k d e here.0 less in
        let same : c.from ≡ k = stays k e less c in
        ap (λ (b : BlockToken). get_or (set places (at / 16) None) (b.at / 16) None) c.item ∙ others c.from e c.within c.other ∙ ap (λ n. Some n) same;
    back = λ p k is.
        let back = others_back p k is in
        let lt = back.0 in let ne = back.1 in
        let less : k < length before - 1 = omega arith in
        (omega (arith, length-swap_remove before place d), λ e. let c = came_to before place k d e here.0 less in ap (λ (b : BlockToken). b.at / 16) c.item ∙ ap (λ j. (get_or before j e).at / 16) (stays k e less c) ∙ back.2 e);
    whole = λ k e lt.
        let less : k < length before - 1 = omega (arith, length-swap_remove before place d) in
        let c = came_to before place k d e here.0 less in
        ap (λ (b : BlockToken). b.at % 16) c.item ∙ index.whole c.from e c.within;
  }
    where
      stays : (k : ℕ) (e : BlockToken) → k < length before - 1 → (c : CameTo before place k d e) → c.from ≡ k
      stays k e less c = ⊎_elim
          (λ (moved : (k ≡ place) × (c.from + 1 ≡ length before)). let no = moved.0 in absurd (omega arith))
          (λ (same : (k ≢ place) × (c.from ≡ k) × (k + 1 < length before)). same.1)
          c.where_from

  -- the last block came into that place, with its unit
  pub indexed_with_last : (unit : ℕ) → place < length before - 1 → ((e : BlockToken) → (get_or (swap_remove before place d) place e).at / 16 ≡ unit)
      → IsIndexed (swap_remove before place d) (set (set places (at / 16) None) unit (Some place))
  indexed_with_last unit lt unit_is = record {
    each = λ k e less_held.
        let less : k < length before - 1 = omega (arith, length-swap_remove before place d) in
        let c = came_to before place k d e here.0 less in
        ⊎_elim
        (λ (moved : (k ≡ place) × (c.from + 1 ≡ length before)).
        ap (λ j. get_or (set (set places (at / 16) None) unit (Some place)) ((get_or (swap_remove before place d) j e).at / 16) None) moved.0
        ∙ ap (λ u. get_or (set (set places (at / 16) None) unit (Some place)) u None) (unit_is e)
        ∙ get_or-set_same (set places (at / 16) None) unit (Some place) None inside ∙ ap (λ n. Some n) (sym moved.0))
        (λ (same : (k ≢ place) × (c.from ≡ k) × (k + 1 < length before)).
        let place_is : (get_or (swap_remove before place d) k e).at / 16 ≡ (get_or before k e).at / 16 = ap (λ (b : BlockToken). b.at / 16) c.item ∙ ap (λ j. (get_or before j e).at / 16) same.1 in
        let lk : k < length before = omega arith in
        let other : unit ≢ (get_or before k e).at / 16 = λ u. not_last k e lk (let n = same.2 in omega arith) (sym u) in
        ap (λ u. get_or (set (set places (at / 16) None) unit (Some place)) u None) place_is
        ∙ get_or-set_other (set places (at / 16) None) unit ((get_or before k e).at / 16) (Some place) None (λ u. other (sym u)) ∙ others k e lk same.0)
        c.where_from;
    back = λ p k is. ⊎_elim
        (λ (same : p ≡ unit).
        let e : Some place ≡ Some k = sym (get_or-set_same (set places (at / 16) None) unit (Some place) None inside) ∙ ap (λ u. get_or (set (set places (at / 16) None) unit (Some place)) u None) (sym same) ∙ is in
        let n : place ≡ k = cc in
        (omega (arith, n, length-swap_remove before place d), λ b. ap (λ j. (get_or (swap_remove before place d) j b).at / 16) (sym n) ∙ unit_is b ∙ sym same))
        (λ (ne : p ≢ unit).
        let back = others_back p k (sym (get_or-set_other (set places (at / 16) None) unit p (Some place) None ne) ∙ is) in
        let lk = back.0 in let nk = back.1 in
        let not_end : k + 1 ≢ length before = λ last. ne (sym (back.2 d) ∙ last_unit k d lk last) in
        let less : k < length before - 1 = omega arith in
        (omega (arith, length-swap_remove before place d), λ e. let c = came_to before place k d e here.0 less in ap (λ (b : BlockToken). b.at / 16) c.item ∙ ap (λ j. (get_or before j e).at / 16) (stays k e nk c) ∙ back.2 e))
        (cases_eq p unit);
    whole = λ k e less_held.
        let less : k < length before - 1 = omega (arith, length-swap_remove before place d) in
        let c = came_to before place k d e here.0 less in
        ap (λ (b : BlockToken). b.at % 16) c.item ∙ index.whole c.from e c.within;
  }
    where
      stays : (k : ℕ) (e : BlockToken) → k ≢ place → (c : CameTo before place k d e) → c.from ≡ k
      stays k e ne c = ⊎_elim
          (λ (moved : (k ≡ place) × (c.from + 1 ≡ length before)). absurd (ne moved.0))
          (λ (same : (k ≢ place) × (c.from ≡ k) × (k + 1 < length before)). same.1)
          c.where_from

      -- the unit is that of the last block before
      last_unit : (k : ℕ) (e : BlockToken) → k < length before → k + 1 ≡ length before → (get_or before k e).at / 16 ≡ unit
      last_unit k e lk last =
          let c = came_to before place place d e here.0 lt in
          let from : c.from ≡ k = ⊎_elim
          (λ (moved : (place ≡ place) × (c.from + 1 ≡ length before)). let n = moved.1 in omega arith)
          (λ (same : (place ≢ place) × (c.from ≡ place) × (place + 1 < length before)). absurd (same.0 refl))
          c.where_from in
          ap (λ j. (get_or before j e).at / 16) (sym from) ∙ sym (ap (λ (b : BlockToken). b.at / 16) c.item) ∙ unit_is e

      not_last : (k : ℕ) (e : BlockToken) → k < length before → k + 1 ≢ length before → (get_or before k e).at / 16 ≢ unit
      not_last k e lk ne same =
          let l : ℕ = length before - 1 in
          let ll : l < length before = omega arith in
          let is : l + 1 ≡ length before = omega arith in
          let both : k ≡ l = one_place before places k l e e index lk ll (same ∙ sym (last_unit l e ll is)) in
          ne (omega (arith, both, is))

      inside : unit < length (set places (at / 16) None)
      inside =
          let l : ℕ = length before - 1 in
          let ll : l < length before = omega arith in
          let is : l + 1 ≡ length before = omega arith in
          let u : (get_or before l d).at / 16 ≡ unit = last_unit l d ll is in
          let there : unit < length places = read_within places unit l (ap (λ v. get_or places v None) (sym u) ∙ index.each l d ll) in
          omega (arith, there, length-set places (at / 16) None)

-- ---- units in the table
pub unit_within : (held : List BlockToken) (places : List (Option ℕ)) (at place : ℕ) (d : BlockToken) → IsIndexed held places → IsPlaceAt held at (Some place) → at / 16 < length places
unit_within held places at place d index here =
    read_within places (at / 16) place (ap (λ a. get_or places (a / 16) None) (sym (here.1 d)) ∙ index.each place d here.0)

pub all_within : (held kept : List BlockToken) (places : List (Option ℕ)) (place : ℕ) (d : BlockToken) → IsIndexed held places → place < length held → kept ≡ swap_remove held place d
    → (k : ℕ) (e : BlockToken) → k < length kept → (get_or kept k e).at / 16 < length places
all_within held kept places place d index there left k e lt =
    let long = length-swap_remove held place d in
    let same = ap (λ (xs : List BlockToken). length xs) left in
    let less : k < length held - 1 = omega (arith, lt, long, same) in
    let c = came_to held place k d e there less in
    let item : get_or kept k e ≡ get_or held c.from e = ap (λ (xs : List BlockToken). get_or xs k e) left ∙ c.item in
    subst (λ (b : BlockToken). b.at / 16 < length places) (sym item) (read_within places ((get_or held c.from e).at / 16) c.from (index.each c.from e c.within))

-- the place of the block that was taken out is the one that was given
pub same_place : (held : List BlockToken) (places : List (Option ℕ)) (at given : ℕ) (block : BlockToken) (place : ℕ) → IsIndexed held places → IsPlaceAt held at (Some given)
    → place < length held → get_or held place block ≡ block → block.at ≡ at → place ≡ given
same_place held places at given block place index here within there at_is =
    one_place held places place given block block index within here.0 (ap (λ a. a / 16) (ap (λ (b : BlockToken). b.at) there ∙ at_is ∙ sym (here.1 block)))
