-- Which metas are of an area, when a run comes, becomes an area or goes.
use Rattle.std.proofs.Common.{◌≡◌, ◌⊎◌, ℕ, ◌<◌, true, false, true≢false, List, ◌∷◌, refl, sym, ap, subst, ◌∙◌, inl, inr}
use Rattle.ng_rule.proofs.geometry.Lists.{run_stays, run_was}
use Rattle.ng_meta.specs.Place.{meta_place}
use Rattle.ng_view.specs.Layouts.{InArea, IsAreaAt}
use Rattle.ng_view.specs.LockSteps.{runs_but}
use Rattle.ng_view.specs.Lists.{Among}
use Rattle.ng_view.specs.declared.view.Layout.{Layout}
use Rattle.ng_view.specs.declared.view.Run.{Run}
use Rattle.ng_ledger.proofs.RunLemmas.{as_area}

-- each area of the one list is one of the other
abbrev pub KeepsAreas : List Run → List Run → Type 0
KeepsAreas runs runs' = (q : Run) → Among q runs → q.area ≡ true → Among q runs'

pub area_stays : (d d' : Layout) (m : ℕ) → KeepsAreas d.runs d'.runs → InArea d m → InArea d' m
area_stays d d' m keeps inside = record {
  run = inside.run;
  number = inside.number;
  noted = keeps inside.run inside.noted inside.is_area;
  is_area = inside.is_area;
  page = inside.page;
  place = inside.place;
  below = inside.below;
}

pub area_at_stays : (runs runs' : List Run) (a : ℕ) → KeepsAreas runs runs' → IsAreaAt runs a → IsAreaAt runs' a
area_at_stays runs runs' a keeps at = record { run = at.run; noted = keeps at.run at.noted at.is_area; is_area = at.is_area; is = at.is }

-- a run more
pub areas_more : (r : Run) (runs : List Run) → KeepsAreas runs (r ∷ runs)
areas_more r runs q there area = inr there

-- no area comes with a run that is none
pub areas_plain : (r : Run) (runs : List Run) → r.area ≡ false → KeepsAreas (r ∷ runs) runs
areas_plain r runs plain q (inl e) area = absurd (true≢false (sym area ∙ ap (λ (x : Run). x.area) e ∙ plain))
areas_plain r runs plain q (inr t) area = t

-- nor with a run less
pub areas_less : (a : ℕ) (runs : List Run) → KeepsAreas (runs_but a runs) runs
areas_less a runs q there area = (run_was a runs q there).0

module _ (r : Run) (runs : List Run) (there : Among r runs) (once : (x y : Run) → Among x runs → Among y runs → x.addr ≡ y.addr → x ≡ y) where
  -- no area goes with a run that is none
  pub areas_gone : r.area ≡ false → KeepsAreas runs (runs_but r.addr runs)
  areas_gone plain q in' area = run_stays r.addr runs q in' (λ same. true≢false (sym area ∙ ap (λ (x : Run). x.area) (once q r in' there same) ∙ plain))

  -- nor when a run becomes one
  pub areas_made : r.area ≡ false → KeepsAreas runs (as_area r ∷ runs_but r.addr runs)
  areas_made plain q in' area = inr (areas_gone plain q in' area)

-- the metas of a new area
pub area_new : (d : Layout) (r : Run) (rest : List Run) (i : ℕ) → d.runs ≡ as_area r ∷ rest → r.pages ≡ 1 → i < 101 → InArea d (meta_place r.addr i)
area_new d r rest i runs page below = record {
  run = as_area r;
  number = i;
  noted = subst (Among (as_area r)) (sym runs) (inl refl);
  is_area = refl;
  page = page;
  place = refl;
  below = below;
}

pub area_at_new : (r : Run) (rest : List Run) → IsAreaAt (as_area r ∷ rest) r.addr
area_at_new r rest = record { run = as_area r; noted = inl refl; is_area = refl; is = refl }

-- a meta of a new area, by its index
pub record IsOfArea (a m : ℕ) : Type 0 where
  pub number : ℕ
  pub below : number < 101
  pub place : m ≡ meta_place a number

-- a meta of an area is one of the new area, or was one before
pub area_was : (d d' : Layout) (r : Run) (m : ℕ) → d'.runs ≡ as_area r ∷ runs_but r.addr d.runs → InArea d' m → IsOfArea r.addr m ⊎ InArea d m
area_was d d' r m runs inside = by_place (subst (Among inside.run) runs inside.noted)
  where
    by_place : Among inside.run (as_area r ∷ runs_but r.addr d.runs) → IsOfArea r.addr m ⊎ InArea d m
    by_place (inl e) = inl (record { number = inside.number; below = inside.below; place = inside.place ∙ ap (λ (x : Run). meta_place x.addr inside.number) e })
    by_place (inr t) = inr (record {
      run = inside.run;
      number = inside.number;
      noted = (run_was r.addr d.runs inside.run t).0;
      is_area = inside.is_area;
      page = inside.page;
      place = inside.place;
      below = inside.below;
    })
