-- The free metas, when cells, groups, areas and the stock change.
use Rattle.std.proofs.Common.{◌≡◌, ◌≢◌, ◌⊎◌, ℕ, zero, suc, ◌+◌, ◌*◌, ◌%◌, ◌/◌, ◌<◌, ◌≤◌, false, List, [], ◌∷◌, ◌++◌, length, drop, AllPairs, Contains, Some, refl, sym, ap, subst, ◌∙◌, ⊎_elim, inl, inr, arith}
use Rattle.std.specs.List.{slice_get}
use Rattle.std.proofs.lemmas.Bool.{cases_eq}
use Rattle.std.proofs.lemmas.List.Elements.{Contains-append_cases, Contains-append_left, Contains-append_right}
use Rattle.ng_meta.specs.Place.{AreApart, IsMetaPlace, meta_place}
use Rattle.ng_meta.proofs.PlaceLemmas.{metas_apart}
use Rattle.ng_mapper.specs.Mapping.{AreLaid, Span}
use Rattle.ng_mapper.specs.Runs as mapper
use Rattle.ng_shelf.specs.Stock.{Stock, free_of, metas_from, metas_of}
use Rattle.ng_rule.proofs.lock.Knowing.{off_else, still_known}
use Rattle.ng_view.specs.Layouts.{InArea}
use Rattle.ng_view.specs.LockSteps.{cells_off, groups_but}
use Rattle.ng_view.specs.Lists.{Among}
use Rattle.ng_view.specs.Steps.{forget}
use Rattle.ng_view.specs.declared.view.Group.{Group}
use Rattle.ng_view.specs.declared.view.Layout.{Layout}
use Rattle.ng_view.specs.declared.view.Run.{Run}
use Rattle.ng_ledger.specs.Groups.{IsUnborn}
use Rattle.ng_ledger.specs.Metas.{AreFree, AreOfAreas, IsBlankMeta, IsFreeMeta, Keeps}
use Rattle.ng_ledger.specs.Runs.{AreMapped}
use Rattle.ng_ledger.proofs.AmongLemmas.{among_back}
use Rattle.ng_ledger.proofs.AreaLemmas.{IsOfArea}
use Rattle.ng_ledger.proofs.ElementLemmas.{contains_behind, contains_drop, contains_first, contains_get, first_not_behind, first_or_behind}
use Rattle.ng_ledger.proofs.GroupLemmas.{groups_were, unborn_more, unborn_stays}
use Rattle.ng_ledger.proofs.RunLemmas.{area_apart}

-- ---- cells

-- what is forgotten of a range leaves the rest
pub keeps_off : (from to : ℕ) (cells : List (ℕ × ℕ)) → Keeps cells (cells_off from to cells) from to
keeps_off from to cells b x outside there = off_else from to b x cells outside there

-- so does a store in a cell
pub keeps_built : (a y : ℕ) (cells : List (ℕ × ℕ)) → Keeps cells ((a, y) ∷ forget a cells) a (a + 4)
keeps_built a y cells b x outside there = inr (still_known a b x cells (⊎_elim (λ (h : b < a). λ e. omega arith) (λ (h : a + 4 ≤ b). λ e. omega arith) outside) there)

-- where more is known, all is kept
pub keeps_front : (more cells : List (ℕ × ℕ)) (from to : ℕ) → Keeps cells (more ++ cells) from to
keeps_front more cells from to b x outside there = among_back {A = ℕ × ℕ} more cells (b, x) there

-- a smaller range is kept outside a larger one
pub keeps_wider : (cells cells' : List (ℕ × ℕ)) (from to low high : ℕ) → Keeps cells cells' from to → low ≤ from → to ≤ high → Keeps cells cells' low high
keeps_wider cells cells' from to low high keeps below above b x outside = keeps b x (⊎_elim (λ (h : b < low). inl (omega arith)) (λ (h : high ≤ b). inr (omega arith)) outside)

pub blank_kept : (cells cells' : List (ℕ × ℕ)) (from to m : ℕ) → Keeps cells cells' from to → (m + 40 ≤ from) ⊎ (to ≤ m) → IsBlankMeta cells m → IsBlankMeta cells' m
blank_kept cells cells' from to m keeps outside blank b low whole = keeps (m + b) 0 (⊎_elim (λ (h : m + 40 ≤ from). inl (omega arith)) (λ (h : to ≤ m). inr (omega arith)) outside) (blank b low whole)

-- two metas of the space are apart
pub places_apart : (pages m other : ℕ) → IsMetaPlace m pages → IsMetaPlace other pages → m ≢ other → AreApart m other
places_apart pages m other p q distinct =
    let apart : AreApart (meta_place (4096 * p.page) p.i) (meta_place (4096 * q.page) q.i) = metas_apart (4096 * p.page) p.i (4096 * q.page) q.i (omega arith) (omega arith) p.counted q.counted differ in
    subst (λ n. AreApart n other) (sym p.stands) (subst (λ n. AreApart (meta_place (4096 * p.page) p.i) n) (sym q.stands) apart)
  where
    differ : (4096 * q.page ≢ 4096 * p.page) ⊎ (q.i ≢ p.i)
    differ = ⊎_elim
        (λ (same : q.i ≡ p.i). inl (λ equal. distinct (p.stands ∙ omega arith ∙ sym q.stands)))
        (λ (apart : q.i ≢ p.i). inr apart)
        (cases_eq q.i p.i)

module _ (pages : ℕ) (d : Layout) (gs : List Group) (cells : List (ℕ × ℕ)) (free : List ℕ) (are : AreFree pages d gs cells free) where
  -- the cells outside the free metas change
  pub free_kept : (cells' : List (ℕ × ℕ)) (from to : ℕ) → Keeps cells cells' from to → ((m : ℕ) → Contains free m → (m + 40 ≤ from) ⊎ (to ≤ m)) → AreFree pages d gs cells' free
  free_kept cells' from to keeps outside m in' =
      let is = are m in' in
      record { place = is.place; area = is.area; unborn = is.unborn; blank = blank_kept cells cells' from to m keeps (outside m in') is.blank }

  -- those of another meta
  pub free_kept_meta : (cells' : List (ℕ × ℕ)) (other : ℕ) → Keeps cells cells' other (other + 40) → IsMetaPlace other pages → ¬ Contains free other → AreFree pages d gs cells' free
  free_kept_meta cells' other keeps place out = free_kept cells' other (other + 40) keeps (λ m in'. places_apart pages m other (are m in').place place (λ same. out (subst (λ n. Contains free n) same in')))

  -- those of a run that is no area
  pub free_kept_run : (cells' : List (ℕ × ℕ)) (span : Span) (live : List mapper.Run) (r : Run) → AreLaid span live → AreMapped d.runs live → Among r d.runs → r.area ≡ false → Keeps cells cells' r.addr (r.addr + 4096 * r.pages) → AreFree pages d gs cells' free
  free_kept_run cells' span live r laid mapped there plain keeps = free_kept cells' r.addr (r.addr + 4096 * r.pages) keeps (λ m in'. area_apart span d.runs live laid mapped d m refl (are m in').area r there plain)

  -- a group comes, whose meta isn't free
  pub free_born : (g : Group) → ¬ Contains free g.meta → AreFree pages d (g ∷ gs) cells free
  free_born g out m in' =
      let is = are m in' in
      record { place = is.place; area = is.area; unborn = unborn_more gs g m is.unborn (λ same. out (subst (λ n. Contains free n) (sym same) in')); blank = is.blank }

  -- a group goes
  pub free_retired : (gone : ℕ) → AreFree pages d (groups_but gone gs) cells free
  free_retired gone m in' =
      let is = are m in' in
      record { place = is.place; area = is.area; unborn = unborn_stays gs gone m is.unborn; blank = is.blank }

  -- the layout changes, and no area goes
  pub free_moved : (d' : Layout) → ((m : ℕ) → InArea d m → InArea d' m) → AreFree pages d' gs cells free
  free_moved d' stays m in' =
      let is = are m in' in
      record { place = is.place; area = stays m is.area; unborn = is.unborn; blank = is.blank }

  -- a meta is taken
  pub free_taken : (m : ℕ) → slice_get free 0 ≡ Some m → IsFreeMeta pages d gs cells m
  free_taken m first = are m (contains_get free m first)

  pub free_left : (left : List ℕ) → left ≡ drop 1 free → AreFree pages d gs cells left
  free_left left rest m in' = are m (contains_drop free m (subst (λ xs. Contains xs m) rest in'))

-- the meta that is taken is free no more
pub taken_gone : (free left : List ℕ) (m : ℕ) → AllPairs (λ n other. n ≢ other) free → slice_get free 0 ≡ Some m → left ≡ drop 1 free → ¬ Contains left m
taken_gone free left m distinct first rest in' = first_not_behind free m distinct first (subst (λ xs. Contains xs m) rest in')

-- what the stock has after a put: what it had, and the meta
pub put_cases : (s : Stock) (m n : ℕ) → Contains (free_of (record s { returned = s.returned ++ m ∷ [] })) n → (n ≡ m) ⊎ Contains (free_of s) n
put_cases s m n in' = ⊎_elim
    (λ (left : Contains (s.returned ++ m ∷ []) n). ⊎_elim
    (λ (old : Contains s.returned n). inr (Contains-append_left s.returned s.unused n old))
    (λ (last : Contains (m ∷ []) n). ⊎_elim (λ (same : n ≡ m). inl same) (λ (none : Contains [] n). absurd (omega (arith, none.1))) (first_or_behind m [] n last))
    (Contains-append_cases s.returned (m ∷ []) n left))
    (λ (right : Contains s.unused n). inr (behind s.returned s.unused right))
    (Contains-append_cases (s.returned ++ m ∷ []) s.unused n in')
  where
    behind : (xs ys : List ℕ) → Contains ys n → Contains (xs ++ ys) n
    behind xs ys in' = Contains-append_right xs ys n in'

-- a free meta is put
pub free_put : (pages : ℕ) (d : Layout) (gs : List Group) (cells : List (ℕ × ℕ)) (s : Stock) (m : ℕ) → AreFree pages d gs cells (free_of s) → IsFreeMeta pages d gs cells m → AreFree pages d gs cells (free_of (record s { returned = s.returned ++ m ∷ [] }))
free_put pages d gs cells s m are is n in' = ⊎_elim
    (λ (same : n ≡ m). subst (IsFreeMeta pages d gs cells) (sym same) is)
    (λ (old : Contains (free_of s) n). are n old)
    (put_cases s m n in')

-- ---- the metas of an area

from_contained : (a i n m : ℕ) → Contains (metas_from a i n) m → (j : ℕ) × (i ≤ j) × (j < i + n) × (m ≡ meta_place a j)
from_contained a i zero m (k, within, is) = absurd (omega arith)
from_contained a i (suc n) m in' = ⊎_elim
    (λ (same : m ≡ meta_place a i). (i, omega arith, omega arith, same))
    (λ (behind : Contains (metas_from a (suc i) n) m). let t = from_contained a (suc i) n m behind in (t.0, let q = t.1 in omega arith, let q = t.2 in omega arith, t.3))
    (first_or_behind (meta_place a i) (metas_from a (suc i) n) m in')

contained_from : (a i n j : ℕ) → i ≤ j → j < i + n → Contains (metas_from a i n) (meta_place a j)
contained_from a i zero j low high = absurd (omega arith)
contained_from a i (suc n) j low high = ⊎_elim
    (λ (same : j ≡ i). subst (λ k. Contains (metas_from a i (suc n)) (meta_place a k)) (sym same) (contains_first (meta_place a i) (metas_from a (suc i) n)))
    (λ (other : j ≢ i). contains_behind (meta_place a i) (metas_from a (suc i) n) (meta_place a j) (contained_from a (suc i) n j (omega arith) (omega arith)))
    (cases_eq j i)

pub of_area : (a m : ℕ) → Contains (metas_of a) m → IsOfArea a m
of_area a m in' = let t = from_contained a 0 101 m in' in record { number = t.0; below = let q = t.2 in omega arith; place = t.3 }

pub area_contains : (a m : ℕ) → IsOfArea a m → Contains (metas_of a) m
area_contains a m of = subst (λ n. Contains (metas_of a) n) (sym of.place) (contained_from a 0 101 of.number (omega arith) (let q = of.below in omega arith))

-- the metas of an area that begins at a page of the space are metas of the space
pub area_places : (pages a m : ℕ) → a % 4096 ≡ 0 → 0 < a → a < 4096 * pages → IsOfArea a m → IsMetaPlace m pages
area_places pages a m whole some inside of = record {
  page = a / 4096;
  i = of.number;
  mapped = omega arith;
  inside = omega arith;
  counted = of.below;
  stands = of.place ∙ ap (λ n. meta_place n of.number) (omega arith);
}

-- where the stock was empty, it has the metas of a new area
pub stock_area : (s : Stock) (a : ℕ) → free_of s ≡ [] → free_of (record s { unused = metas_of a; area = a }) ≡ metas_of a
stock_area s a none = by_list s.returned s.unused none
  where
    by_list : (xs ys : List ℕ) → xs ++ ys ≡ [] → xs ++ metas_of a ≡ metas_of a
    by_list [] ys none = refl
    by_list (x ∷ xs) ys none = absurd (let long : length (x ∷ xs ++ ys) ≡ 0 = ap length none in omega arith)

-- a new area, whose metas have no groups and are blank
pub free_area : (pages : ℕ) (d : Layout) (gs : List Group) (cells : List (ℕ × ℕ)) (s : Stock) (a : ℕ) → free_of s ≡ [] → a % 4096 ≡ 0 → 0 < a → a < 4096 * pages → ((m : ℕ) → IsOfArea a m → InArea d m) → ((m : ℕ) → IsOfArea a m → IsUnborn gs m) → ((m : ℕ) → IsOfArea a m → IsBlankMeta cells m) → AreFree pages d gs cells (free_of (record s { unused = metas_of a; area = a }))
free_area pages d gs cells s a none whole some inside area unborn blank m in' =
    let of : IsOfArea a m = of_area a m (subst (λ xs. Contains xs m) (stock_area s a none) in') in
    record { place = area_places pages a m whole some inside of; area = area m of; unborn = unborn m of; blank = blank m of }

-- where the cells of an area but its head and tail are known to be 0, its metas are blank
pub area_blank : (cells : List (ℕ × ℕ)) (a m : ℕ) → a % 4096 ≡ 0 → ((b : ℕ) → b % 4 ≡ 0 → a + 24 ≤ b → b < a + 4064 → Among {A = ℕ × ℕ} (b, 0) cells) → IsOfArea a m → IsBlankMeta cells m
area_blank cells a m whole known of b low aligned =
    let place : m ≡ meta_place a of.number = of.place in
    let below = of.below in
    known (m + b) (omega arith) (omega arith) (omega arith)

-- and stay so when what is known of the head and the tail goes
pub area_blank_made : (cells : List (ℕ × ℕ)) (a m : ℕ) → IsOfArea a m → IsBlankMeta cells m → IsBlankMeta (cells_off a (a + 24) (cells_off (a + 4064) (a + 4096) cells)) m
area_blank_made cells a m of blank =
    let place : m ≡ meta_place a of.number = of.place in
    let below = of.below in
    let tail : List (ℕ × ℕ) = cells_off (a + 4064) (a + 4096) cells in
    blank_kept tail (cells_off a (a + 24) tail) a (a + 24) m (keeps_off a (a + 24) tail) (inr (omega arith)) (blank_kept cells tail (a + 4064) (a + 4096) m (keeps_off (a + 4064) (a + 4096) cells) (inl (omega arith)) blank)

-- ---- the metas of the live groups

-- a group comes, whose meta is of an area
pub of_areas_born : (d : Layout) (gs : List Group) (g : Group) → AreOfAreas d gs → InArea d g.meta → AreOfAreas d (g ∷ gs)
of_areas_born d gs g are area h (inl e) = subst (λ (x : Group). InArea d x.meta) (sym e) area
of_areas_born d gs g are area h (inr t) = are h t

-- a group goes
pub of_areas_retired : (d : Layout) (gs : List Group) (m : ℕ) → AreOfAreas d gs → AreOfAreas d (groups_but m gs)
of_areas_retired d gs m are h there = are h (groups_were gs m h there).0

-- the layout changes, and no area goes
pub of_areas_moved : (d d' : Layout) (gs : List Group) → ((m : ℕ) → InArea d m → InArea d' m) → AreOfAreas d gs → AreOfAreas d' gs
of_areas_moved d d' gs stays are h there = stays h.meta (are h there)

-- no live group has a meta in a run that is no area
pub unborn_in_run : (span : Span) (live : List mapper.Run) (d : Layout) (gs : List Group) (r : Run) (m : ℕ) → AreLaid span live → AreMapped d.runs live → AreOfAreas d gs → Among r d.runs → r.area ≡ false → r.pages ≡ 1 → IsOfArea r.addr m → IsUnborn gs m
unborn_in_run span live d gs r m laid mapped are there plain page of g in' same =
    let place : m ≡ meta_place r.addr of.number = of.place in
    let below = of.below in
    ⊎_elim
    (λ (before : g.meta + 40 ≤ r.addr). omega arith)
    (λ (after : r.addr + 4096 * r.pages ≤ g.meta). omega arith)
    (area_apart span d.runs live laid mapped d g.meta refl (are g in') r there plain)
