-- Each noted run is an area or that of a live group, when groups and runs come and go.
use Rattle.std.proofs.Common.{◌≡◌, ◌≢◌, ℕ, ◌<◌, List, ◌∷◌, refl, sym, ap, ◌∙◌, ⊎_elim, inl, inr, arith}
use Rattle.std.proofs.lemmas.Bool.{cases_eq}
use Rattle.ng_rule.proofs.geometry.Lists.{run_was}
use Rattle.ng_view.specs.Notes.{plain_run}
use Rattle.ng_view.specs.Conditions.{IsSettled}
use Rattle.ng_view.specs.LockSteps.{groups_but, runs_but}
use Rattle.ng_view.specs.Lists.{Among}
use Rattle.ng_view.specs.declared.view.Group.{Group}
use Rattle.ng_view.specs.declared.view.Run.{Run}
use Rattle.ng_view.specs.declared.view.View.{View}
use Rattle.ng_ledger.specs.Groups.{AreGroups}
use Rattle.ng_ledger.specs.Runs.{AreServed, AreServedBut, HasRun, IsAreaRun}
use Rattle.ng_ledger.proofs.GroupLemmas.{group_left, same_group}
use Rattle.ng_ledger.proofs.RunLemmas.{as_area}

-- one group more
more : (gs : List Group) (g : Group) (a : ℕ) → HasRun gs a → HasRun (g ∷ gs) a
more gs g a has = record { group = has.group; there = inr has.there; begins = has.begins; paged = has.paged }

pub served_more : (noted : List Run) (gs : List Group) (g : Group) → AreServed noted gs → AreServed noted (g ∷ gs)
served_more noted gs g are r there = ⊎_elim (λ area. inl area) (λ has. inr (more gs g r.addr has)) (are r there)

pub served_but_more : (a : ℕ) (noted : List Run) (gs : List Group) (g : Group) → AreServedBut a noted gs → AreServedBut a noted (g ∷ gs)
served_but_more a noted gs g are r there = ⊎_elim
    (λ is. inl is)
    (λ rest. inr (⊎_elim (λ area. inl area) (λ has. inr (more gs g r.addr has)) rest))
    (are r there)

-- the run that was left out has its group
pub served_first : (noted : List Run) (gs : List Group) (g : Group) → AreServedBut g.base noted gs → 0 < g.maplen → AreServed noted (g ∷ gs)
served_first noted gs g are paged r there = ⊎_elim
    (λ (is : r.addr ≡ g.base). inr (record { group = g; there = inl refl; begins = sym is; paged = paged }))
    (λ rest. ⊎_elim (λ area. inl area) (λ has. inr (more gs g r.addr has)) rest)
    (are r there)

-- all but any address
pub served_but : (a : ℕ) (noted : List Run) (gs : List Group) → AreServed noted gs → AreServedBut a noted gs
served_but a noted gs are r there = inr (are r there)

-- a new run serves none yet
pub served_new : (noted : List Run) (gs : List Group) (a p : ℕ) → AreServed noted gs → AreServedBut a (plain_run a p ∷ noted) gs
served_new noted gs a p are r (inl e) = inl (ap (λ (x : Run). x.addr) e)
served_new noted gs a p are r (inr t) = inr (are r t)

-- the run that was left out is an area
pub served_area : (a : ℕ) (r : Run) (noted : List Run) (gs : List Group) → r.addr ≡ a → r.pages ≡ 1 → AreServedBut a noted gs → AreServed (as_area r ∷ runs_but a noted) gs
served_area a r noted gs begins page are x (inl e) = inl (record { is_area = ap (λ (y : Run). y.area) e; page = ap (λ (y : Run). y.pages) e ∙ page })
served_area a r noted gs begins page are x (inr t) =
    let was = run_was a noted x t in ⊎_elim (λ is. absurd (was.1 is)) (λ rest. rest) (are x was.0)

-- the run that was left out goes
pub served_gone : (a : ℕ) (noted : List Run) (gs : List Group) → AreServedBut a noted gs → AreServed (runs_but a noted) gs
served_gone a noted gs are x t =
    let was = run_was a noted x t in ⊎_elim (λ is. absurd (was.1 is)) (λ rest. rest) (are x was.0)

module _ (pages : ℕ) (noted : List Run) (gs : List Group) (g : Group) (are : AreGroups pages gs) (there : Among g gs) where
  -- the groups that begin at runs stay, but for g
  left : (a : ℕ) → HasRun gs a → ((h : Group) → h ≡ g → h.base ≡ a → 0 < h.maplen → ⊥) → HasRun (groups_but g.meta gs) a
  left a has other = record {
    group = has.group;
    there = group_left gs g.meta has.group has.there (λ same. other has.group (same_group pages gs has.group g are has.there there same) has.begins has.paged);
    begins = has.begins;
    paged = has.paged;
  }

  -- a nested group goes
  pub served_nested_less : AreServed noted gs → g.maplen ≡ 0 → AreServed noted (groups_but g.meta gs)
  served_nested_less served nested r t = ⊎_elim
      (λ area. inl area)
      (λ has. inr (left r.addr has (λ h e begins paged. let p : h.maplen ≡ g.maplen = ap (λ (x : Group). x.maplen) e in omega arith)))
      (served r t)

  -- a group goes, and its run, if it has one, is left out
  pub served_run_less : AreServed noted gs → AreServedBut g.base noted (groups_but g.meta gs)
  served_run_less served r t = ⊎_elim
      (λ (is : r.addr ≡ g.base). inl is)
      (λ (apart : r.addr ≢ g.base). inr (⊎_elim
      (λ area. inl area)
      (λ has. inr (left r.addr has (λ h e begins paged. apart (sym begins ∙ ap (λ (x : Group). x.base) e))))
      (served r t)))
      (cases_eq r.addr g.base)

-- each run is an area or that of a live group: the space can be closed
pub settled : (v : View) → AreServed v.desk.layout.runs v.desk.groups → IsSettled v
settled v are r there = ⊎_elim (λ (area : IsAreaRun r). inl area.is_area) (λ has. inr (has.group, has.there, has.begins)) (are r there)
