-- A new run becomes an area, whose metas the stock has.
use Rattle.std.proofs.Common.{◌≡◌, ◌≢◌, ◌⊎◌, ℕ, ◌+◌, ◌*◌, ◌<◌, ◌≤◌, List, [], ◌∷◌, ◌++◌, refl, sym, ap, subst, ◌∙◌, inl, inr, ⊎_elim, append_assoc, arith}
use Rattle.std.proofs.lemmas.Bool.{eq-eqb, ne_eqb}
use Rattle.ng_mapper.specs.Mapping.{AreLaid, IsSpan, Span}
use Rattle.ng_mapper.specs.Runs as mapper
use Rattle.ng_mapper.proofs.LaidLemmas.{lies-contained}
use Rattle.ng_mapper.specs.declared.refusals.Refusals.{Refusals}
use Rattle.ng_shelf.specs.Stock.{Stock, free_of, metas_of}
use Rattle.ng_view.specs.Conditions.{IsEmpty, Sees}
use Rattle.ng_view.specs.Layouts.{InArea, IsAreaAt}
use Rattle.ng_view.specs.Lists.{Among}
use Rattle.ng_view.specs.LockSteps.{runs_but}
use Rattle.ng_view.specs.declared.view.Layout.{Layout}
use Rattle.ng_view.specs.declared.view.Run.{Run}
use Rattle.ng_view.specs.declared.view.Start.{Start}
use Rattle.ng_view.specs.declared.view.View.{View}
use Rattle.ng_view.specs.Notes.{IsClearedRun, IsNewRun, plain_run}
use Rattle.ng_rule.proofs.lock.Knowing.{sees-run_else}
use Rattle.ng_build.specs.Areas.{AreMetasZero, with_area, with_runs}
use Rattle.ng_build.specs.Cells.{KeepsOutside, OnlyCells, knowing}
use Rattle.ng_ledger.specs.Metas.{AreFree, IsBlankMeta}
use Rattle.ng_ledger.specs.Groups.{IsUnborn}
use Rattle.ng_ledger.specs.Runs.{AreMapped, AreServed}
use Rattle.ng_ledger.proofs.AreaLemmas.{IsOfArea, area_at_new, area_new, area_stays, areas_more}
use Rattle.ng_ledger.proofs.MetaLemmas.{free_area, of_areas_moved}
use Rattle.ng_ledger.proofs.RunLemmas.{mapped_area}
use Rattle.ng_supply.specs.Metas.{IsHeapStock, area_run}
use Rattle.ng_supply.specs.Runs.{IsHeapMapper, IsInSpace, MapsRun}

-- a list without a run at an address
pub runs_none : (a : ℕ) (rs : List Run) → ((r : Run) → Among r rs → r.addr ≢ a) → runs_but a rs ≡ rs
runs_none a [] none = refl
runs_none a (r ∷ rs) none = rw (ne_eqb r.addr a (none r (inl refl))) (ap (λ x. r ∷ x) (runs_none a rs (λ s there. none s (inr there))))

-- the metas of the areas are apart from a new run of one page
pub area_apart : (start : Start) (v : View) (a m : ℕ) → IsNewRun start v a 1 → InArea v.desk.layout m → (m + 40 ≤ a) ⊎ (a + 4096 ≤ m)
area_apart start v a m new area =
    let place : m ≡ area.run.addr + 24 + 40 * area.number = area.place in
    let page = area.page in
    let below = area.below in
    let last : (m + 39 < a) ⊎ (a + 4096 * 1 ≤ m + 39) = new.apart area.run (m + 39) area.noted (omega arith, omega arith) in
    let first : (m < a) ⊎ (a + 4096 * 1 ≤ m) = new.apart area.run m area.noted (omega arith, omega arith) in
    ⊎_elim
    (λ (l : m < a). ⊎_elim (λ (k : m + 39 < a). inl (omega arith)) (λ (k : a + 4096 * 1 ≤ m + 39). absurd (omega arith)) last)
    (λ (l : a + 4096 * 1 ≤ m). inr (omega arith))
    first

module _ (start : Start) (v : View) (span : Span) (live : List mapper.Run) (refused : Refusals) (is : IsHeapMapper start v span live refused) (laid : AreLaid span live) (a : ℕ) where
  -- no noted run begins at a new one
  pub none_there : IsNewRun start v a 1 → (r : Run) → Among r v.desk.layout.runs → r.addr ≢ a
  none_there new r there same =
      let some : 1 ≤ r.pages = (lies-contained span live laid (r.addr, r.pages) (is.mapped.mapped r there)).some in
      ⊎_elim
      (λ (l : a < a). omega arith)
      (λ (l : a + 4096 * 1 ≤ a). omega arith)
      (new.apart r a there (omega arith, omega arith))

  -- an area lies in the space
  pub area_low : IsSpan span → 0 < start.pages → (a ≡ 0) ⊎ IsAreaAt v.desk.layout.runs a → a < 4096 * start.pages
  area_low bounded some area = ⊎_elim
      (λ (none : a ≡ 0). omega arith)
      (λ (at : IsAreaAt v.desk.layout.runs a).
      let lies = lies-contained span live laid (at.run.addr, at.run.pages) (is.mapped.mapped at.run at.noted) in
      let here : a ≡ at.run.addr = at.is in
      let below = lies.below in
      let pages = lies.some in
      omega (arith, bounded.inside, is.size))
      area

-- word 0 was read as the run came, and as it became an area
pub noted_twice : (start : Start) (v u w : View) (a : ℕ) → MapsRun start v a 1 u → ((found : ℕ) × (w.readings ≡ u.readings ++ (0, found) ∷ []))
    → (first : ℕ) × (second : ℕ) × (w.readings ≡ v.readings ++ (0, first) ∷ (0, second) ∷ [])
noted_twice start v u w a maps (found, reads) = (
  maps.note.found,
  found,
  reads
      ∙ ap (λ (x : View). x.readings ++ (0, found) ∷ []) maps.note.view
      ∙ append_assoc v.readings ((0, maps.note.found) ∷ []) ((0, found) ∷ []),
)

-- the run is ready to become an area
pub cleared : (start : Start) (v u : View) (a : ℕ) → MapsRun start v a 1 u → IsClearedRun u a 1
cleared start v u a maps = record {
  noted = subst (λ (x : View). Among (plain_run a 1) x.desk.layout.runs) (sym maps.note.view) (inl refl);
  empty = subst (λ (x : View). IsEmpty x (plain_run a 1)) (sym maps.note.view) (maps.note.empty refl);
  clear = λ b al inside. maps.zero b al inside.0 inside.1;
}

-- the area that is linked to stays one
pub link_kept : (start : Start) (v u : View) (a pages before : ℕ) → MapsRun start v a pages u → (before ≡ 0) ⊎ IsAreaAt v.desk.layout.runs before → (before ≡ 0) ⊎ IsAreaAt u.desk.layout.runs before
link_kept start v u a pages before maps (inl none) = inl none
link_kept start v u a pages before maps (inr at) = inr (subst (λ (x : View). IsAreaAt x.desk.layout.runs before) (sym maps.note.view) (record { run = at.run; noted = inr at.noted; is_area = at.is_area; is = at.is }))

-- the mapper once the run is an area
pub mapper_area : (start : Start) (u w : View) (span : Span) (live : List mapper.Run) (refused : Refusals) (a : ℕ) → IsHeapMapper start u span live refused → IsClearedRun u a 1 → OnlyCells (with_area u a) w → IsHeapMapper start w span live refused
mapper_area start u w span live refused a is run only = record {
  lower = is.lower;
  upper = is.upper;
  size = is.size;
  mapped = subst (λ (x : View). AreMapped x.desk.layout.runs live) (sym only.view) (mapped_area u.desk.layout.runs live is.mapped (plain_run a 1) run.noted);
  counted = subst (λ (x : View). x.desk.refusals ≤ refused.count) (sym only.view) is.counted;
}

module _ (start : Start) (v u w : View) (a : ℕ) (maps : MapsRun start v a 1 u) (none : (r : Run) → Among r v.desk.layout.runs → r.addr ≢ a) (only : OnlyCells (with_area u a) w) where
  runs_are : runs_but a (plain_run a 1 ∷ v.desk.layout.runs) ≡ v.desk.layout.runs
  runs_are = rw (eq-eqb a a refl) (runs_none a v.desk.layout.runs none)

  -- of the view only the runs, the cells and the readings are new
  pub only_area : OnlyCells (with_runs v (area_run a ∷ v.desk.layout.runs)) w
  only_area =
      let noted = (0, maps.note.found) ∷ [] in
      let made : knowing (with_area u a) w.desk.cells w.readings ≡ knowing (with_runs v (area_run a ∷ runs_but a (plain_run a 1 ∷ v.desk.layout.runs))) w.desk.cells w.readings =
      ap (λ (x : View). knowing (with_area x a) w.desk.cells w.readings) maps.note.view in
      let same : knowing (with_runs v (area_run a ∷ runs_but a (plain_run a 1 ∷ v.desk.layout.runs))) w.desk.cells w.readings ≡ knowing (with_runs v (area_run a ∷ v.desk.layout.runs)) w.desk.cells w.readings =
      ap (λ (rs : List Run). knowing (with_runs v (area_run a ∷ rs)) w.desk.cells w.readings) runs_are in
      record {
        view = only.view ∙ made ∙ same;
        came = noted ++ only.came;
        readings = only.readings ∙ ap (λ (x : View). x.readings ++ only.came) maps.note.view ∙ append_assoc v.readings noted only.came;
      }

  -- what was known of other cells is known still
  pub kept_area : KeepsOutside u w a (a + 4096) → KeepsOutside v w a (a + 4096)
  kept_area kept b x out sees = kept b x out (subst (λ (y : View). Sees y b x) (sym maps.note.view) (sees-run_else v a 1 b x sees))

module _ (start : Start) (v w : View) (a : ℕ) (new : IsNewRun start v a 1) (space : IsInSpace start a 1) (only : OnlyCells (with_runs v (area_run a ∷ v.desk.layout.runs)) w) (s s' : Stock) (is : IsHeapStock start v s) (none : free_of s ≡ []) (stock : s' ≡ record s { unused = metas_of a; area = a }) where
  abbrev layout : Layout
  layout = record { runs = area_run a ∷ v.desk.layout.runs; nests = v.desk.layout.nests }

  unborn : (m : ℕ) → IsOfArea a m → IsUnborn v.desk.groups m
  unborn m of g there same =
      let place : m ≡ a + 24 + 40 * of.number = of.place in
      let below = of.below in
      ⊎_elim
      (λ (l : g.meta + 40 ≤ a). omega arith)
      (λ (l : a + 4096 ≤ g.meta). omega arith)
      (area_apart start v a g.meta new (is.of_areas g there))

  stays : (m : ℕ) → InArea v.desk.layout m → InArea layout m
  stays m = area_stays v.desk.layout layout m (areas_more (area_run a) v.desk.layout.runs)

  blank : AreMetasZero w a → (m : ℕ) → IsOfArea a m → IsBlankMeta w.desk.cells m
  blank metas m of b low al = subst (λ k. Sees w (k + b) 0) (sym of.place) (metas of.number b of.below low al)

  free : AreMetasZero w a → AreFree start.pages layout v.desk.groups w.desk.cells (free_of (record s { unused = metas_of a; area = a }))
  free metas =
      let above = space.above in
      let below = space.below in
      free_area start.pages layout v.desk.groups w.desk.cells s a none space.whole (omega arith) (omega arith)
      (λ m of. subst (InArea layout) (sym of.place) (area_new layout (plain_run a 1) v.desk.layout.runs of.number refl refl of.below))
      unborn
      (blank metas)

  served : AreServed (area_run a ∷ v.desk.layout.runs) v.desk.groups
  served r (inl e) = inl (record { is_area = ap (λ (x : Run). x.area) e; page = ap (λ (x : Run). x.pages) e })
  served r (inr there) = is.served r there

  -- the stock with the new area's metas
  pub stock_area : AreMetasZero w a → IsHeapStock start w s'
  stock_area metas = subst (λ (t : Stock). IsHeapStock start w t) (sym stock) (subst (λ (x : View). IsHeapStock start x (record s { unused = metas_of a; area = a })) (sym only.view) (record {
    pages = is.pages;
    free = free metas;
    area = inr (area_at_new (plain_run a 1) v.desk.layout.runs);
    of_areas = of_areas_moved v.desk.layout layout v.desk.groups stays is.of_areas;
    served = served;
  }))
