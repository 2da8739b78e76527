-- The pages of the mapper's live runs are one for each area, and those of each live group with pages.
use Rattle.std.proofs.Common.{◌≡◌, ◌≢◌, ℕ, ◌+◌, ◌≤◌, eqb, true≢false, List, sum_by, refl, sym, ap, ◌∙◌, ⊎_elim, arith}
use Rattle.std.proofs.lemmas.Bool.{cases_eq}
use Rattle.ng_mapper.specs.Mapping.{AreLaid, Span}
use Rattle.ng_mapper.specs.Runs as mapper
use Rattle.ng_view.specs.Notes.{plain_run}
use Rattle.ng_view.specs.Lists.{Among, count_of, total_by}
use Rattle.ng_view.specs.declared.view.Group.{Group}
use Rattle.ng_view.specs.declared.view.Run.{Run}
use Rattle.ng_ledger.specs.Groups.{AreGroups}
use Rattle.ng_ledger.specs.Runs.{AreFounded, AreMapped, AreServed, HasRun, IsAreaRun, areas_in, pages_of}
use Rattle.ng_ledger.proofs.CountLemmas.{among_contains, contains_among, numbered, total_is_sum, total_matched, total_none, total_one, total_same, total_sum, where_one, where_other, where_same}
use Rattle.ng_ledger.proofs.GroupLemmas.{same_group}
use Rattle.ng_ledger.proofs.RunLemmas.{once_at}

module _ (pages : ℕ) (span : Span) (noted : List Run) (gs : List Group) (live : List mapper.Run) (laid : AreLaid span live)
    (are : AreMapped noted live) (served : AreServed noted gs) (founded : AreFounded noted gs) (groups : AreGroups pages gs) where
  -- the areas, and the pages of groups, at the address of a run
  abbrev areas_at : mapper.Run → ℕ
  areas_at x = total_by (λ (r : Run). where_same x.0 r.addr (count_of r.area)) noted

  abbrev pages_at : mapper.Run → ℕ
  pages_at x = total_by (λ (g : Group). where_same x.0 g.base g.maplen) gs

  once_live : (a : ℕ) → numbered {A = mapper.Run} (λ x. x.0) a live ≤ 1
  once_live a =
      let once = once_at span.lower span.upper a live laid.lie laid.apart in
      let same = total_is_sum {A = mapper.Run} (λ x. count_of (eqb x.0 a)) live in
      omega (arith, once, same)

  is_live : (r : Run) → Among r noted → (x : mapper.Run) × Among x live × (x.0 ≡ r.addr)
  is_live r there = ((r.addr, r.pages), contains_among live (r.addr, r.pages) (are.mapped r there), refl)

  -- the run of a group
  run_of : (g : Group) → Among g gs → g.maplen ≢ 0 → Among (plain_run g.base g.maplen) noted
  run_of g there paged = founded.runs g there (omega (arith, paged))

  all_areas : total_by areas_at live ≡ areas_in noted
  all_areas = total_matched {A = mapper.Run} (λ x. x.0) (λ (r : Run). r.addr) (λ (r : Run). count_of r.area) live noted once_live (λ r there area. is_live r there)

  all_pages : total_by pages_at live ≡ pages_of gs
  all_pages = total_matched {A = mapper.Run} (λ x. x.0) (λ (g : Group). g.base) (λ (g : Group). g.maplen) live gs once_live
      (λ g there paged. is_live (plain_run g.base g.maplen) (run_of g there paged))

  -- a live run is an area, or one group's
  module _ (x : mapper.Run) (r : Run) (there : Among r noted) (begins : r.addr ≡ x.0) (long : r.pages ≡ x.1) where
    areas_here : areas_at x ≡ count_of r.area
    areas_here =
        total_one (λ (s : Run). s.addr) (λ (s : Run). where_same x.0 s.addr (count_of s.area)) r noted (are.single r.addr) there
        (λ s t same. ap (λ (q : Run). where_same x.0 q.addr (count_of q.area)) (are.once s r t there same))
        (λ s t other. where_other x.0 s.addr (count_of s.area) (λ same. other (sym same ∙ sym begins)))
        ∙ where_one x.0 r.addr (count_of r.area) (sym begins)

    -- it is no area where a group begins there
    grouped : (g : Group) → Among g gs → g.maplen ≢ 0 → x.0 ≡ g.base → plain_run g.base g.maplen ≡ r
    grouped g in' paged same = are.once (plain_run g.base g.maplen) r (run_of g in' paged) there (sym same ∙ sym begins)

    of_area : IsAreaRun r → x.1 ≡ areas_at x + pages_at x
    of_area is =
        let one : count_of r.area ≡ 1 = ap count_of is.is_area in
        let none : pages_at x ≡ 0 = total_none (λ (g : Group). where_same x.0 g.base g.maplen) gs away in
        omega (arith, areas_here, is.page, long)
      where
        at_base : (g : Group) → Among g gs → x.0 ≡ g.base → g.maplen ≡ 0
        at_base g in' same = ⊎_elim
            (λ (e : g.maplen ≡ 0). e)
            (λ (paged : g.maplen ≢ 0). absurd (true≢false (sym is.is_area ∙ ap (λ (s : Run). s.area) (sym (grouped g in' paged same)))))
            (cases_eq g.maplen 0)

        away : (g : Group) → Among g gs → where_same x.0 g.base g.maplen ≡ 0
        away g in' = ⊎_elim
            (λ (same : x.0 ≡ g.base). where_one x.0 g.base g.maplen same ∙ at_base g in' same)
            (λ (other : x.0 ≢ g.base). where_other x.0 g.base g.maplen other)
            (cases_eq x.0 g.base)

    of_group : HasRun gs r.addr → x.1 ≡ areas_at x + pages_at x
    of_group has =
        let g = has.group in
        let some : g.maplen ≢ 0 = λ e. let paged = has.paged in absurd (omega (arith, e, paged)) in
        let base : x.0 ≡ g.base = sym begins ∙ sym has.begins in
        let is : plain_run g.base g.maplen ≡ r = grouped g has.there some base in
        let none : count_of r.area ≡ 0 = ap (λ (s : Run). count_of s.area) (sym is) in
        let many : g.maplen ≡ r.pages = ap (λ (s : Run). s.pages) is in
        let mine : pages_at x ≡ g.maplen =
        total_one (λ (h : Group). h.meta) (λ (h : Group). where_same x.0 h.base h.maplen) g gs (groups.once g.meta) has.there
        (λ h t same. ap (λ (k : Group). where_same x.0 k.base k.maplen) (same_group pages gs h g groups t has.there same))
        (λ h t other. away h t other)
        ∙ where_one x.0 g.base g.maplen base in
        omega (arith, areas_here, long)
      where
        at_base : (h : Group) → Among h gs → h.meta ≢ has.group.meta → x.0 ≡ h.base → h.maplen ≡ 0
        at_base h t other same = ⊎_elim
            (λ (e : h.maplen ≡ 0). e)
            (λ (paged : h.maplen ≢ 0). absurd (other (ap (λ (k : Group). k.meta)
            (founded.alone h has.group t has.there (omega (arith, paged)) has.paged (sym same ∙ sym begins ∙ sym has.begins)))))
            (cases_eq h.maplen 0)

        away : (h : Group) → Among h gs → h.meta ≢ has.group.meta → where_same x.0 h.base h.maplen ≡ 0
        away h t other = ⊎_elim
            (λ (same : x.0 ≡ h.base). where_one x.0 h.base h.maplen same ∙ at_base h t other same)
            (λ (apart : x.0 ≢ h.base). where_other x.0 h.base h.maplen apart)
            (cases_eq x.0 h.base)

  each_run : (x : mapper.Run) → Among x live → x.1 ≡ areas_at x + pages_at x
  each_run x there =
      let q = are.known x.0 x.1 (among_contains live x there) in
      ⊎_elim (of_area x q.run q.there q.begins q.long) (of_group x q.run q.there q.begins q.long) (served q.run q.there)

  pub pages_are : sum_by (λ (x : mapper.Run). x.1) live ≡ areas_in noted + pages_of gs
  pages_are =
      let total : total_by (λ (x : mapper.Run). x.1) live ≡ sum_by (λ (x : mapper.Run). x.1) live = total_is_sum (λ (x : mapper.Run). x.1) live in
      let split : total_by (λ (x : mapper.Run). x.1) live ≡ total_by (λ x. areas_at x + pages_at x) live =
      total_same (λ (x : mapper.Run). x.1) (λ x. areas_at x + pages_at x) live each_run in
      let both : total_by (λ x. areas_at x + pages_at x) live ≡ total_by areas_at live + total_by pages_at live = total_sum areas_at pages_at live in
      omega (arith, total, split, both, all_areas, all_pages)
