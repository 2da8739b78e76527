-- Each live group with pages of its own begins at its run, when groups and runs come and go.
use Rattle.std.proofs.Common.{◌≡◌, ◌≢◌, ℕ, ◌<◌, List, ◌∷◌, sym, ap, subst, ◌∙◌, inl, inr, arith}
use Rattle.ng_rule.proofs.geometry.Lists.{run_stays}
use Rattle.ng_view.specs.Notes.{plain_run}
use Rattle.ng_view.specs.LockSteps.{groups_but, runs_but}
use Rattle.ng_view.specs.Lists.{Among}
use Rattle.ng_view.specs.declared.view.Group.{Group}
use Rattle.ng_view.specs.declared.view.Run.{Run}
use Rattle.ng_ledger.specs.Runs.{AreFounded, HasRun}
use Rattle.ng_ledger.proofs.GroupLemmas.{groups_were}
use Rattle.ng_ledger.proofs.RunLemmas.{as_area}

module _ (noted : List Run) (gs : List Group) (are : AreFounded noted gs) where
  -- where no run is noted, no such group begins
  pub none_begins : (a : ℕ) → ((r : Run) → Among r noted → r.addr ≢ a) → ¬ HasRun gs a
  none_begins a none has = none (plain_run has.group.base has.group.maplen) (are.runs has.group has.there has.paged) has.begins

  -- a run comes
  pub founded_more : (r : Run) → AreFounded (r ∷ noted) gs
  founded_more r = record { runs = λ g there paged. inr (are.runs g there paged); alone = are.alone }

  -- a run goes at which no such group begins
  pub founded_gone : (a : ℕ) → ¬ HasRun gs a → AreFounded (runs_but a noted) gs
  founded_gone a none = record {
    runs = λ g there paged. run_stays a noted (plain_run g.base g.maplen) (are.runs g there paged) (λ same. none (record { group = g; there = there; begins = same; paged = paged }));
    alone = are.alone;
  }

  -- it becomes an area
  pub founded_area : (r : Run) → ¬ HasRun gs r.addr → AreFounded (as_area r ∷ runs_but r.addr noted) gs
  founded_area r none = record { runs = λ g there paged. inr ((founded_gone r.addr none).runs g there paged); alone = are.alone }

  -- a group comes without pages of its own
  pub founded_nested : (g : Group) → g.maplen ≡ 0 → AreFounded noted (g ∷ gs)
  founded_nested g nested = record { runs = runs; alone = alone }
    where
      never : (h : Group) → h ≡ g → 0 < h.maplen → ⊥
      never h e paged = let none : h.maplen ≡ 0 = ap (λ (x : Group). x.maplen) e ∙ nested in omega arith

      runs : (h : Group) → Among h (g ∷ gs) → 0 < h.maplen → Among (plain_run h.base h.maplen) noted
      runs h (inl e) paged = absurd (never h e paged)
      runs h (inr t) paged = are.runs h t paged

      alone : (h k : Group) → Among h (g ∷ gs) → Among k (g ∷ gs) → 0 < h.maplen → 0 < k.maplen → h.base ≡ k.base → h ≡ k
      alone h k (inl e) t p q same = absurd (never h e p)
      alone h k (inr s) (inl e) p q same = absurd (never k e q)
      alone h k (inr s) (inr t) p q same = are.alone h k s t p q same

  -- a group comes with pages of its own, at a noted run where none begins
  pub founded_first : (g : Group) → ¬ HasRun gs g.base → Among (plain_run g.base g.maplen) noted → AreFounded noted (g ∷ gs)
  founded_first g none run = record { runs = runs; alone = alone }
    where
      runs : (h : Group) → Among h (g ∷ gs) → 0 < h.maplen → Among (plain_run h.base h.maplen) noted
      runs h (inl e) paged = subst (λ (x : Group). Among (plain_run x.base x.maplen) noted) (sym e) run
      runs h (inr t) paged = are.runs h t paged

      alone : (h k : Group) → Among h (g ∷ gs) → Among k (g ∷ gs) → 0 < h.maplen → 0 < k.maplen → h.base ≡ k.base → h ≡ k
      alone h k (inl e) (inl f) p q same = e ∙ sym f
      alone h k (inl e) (inr t) p q same = absurd (none (record { group = k; there = t; begins = sym same ∙ ap (λ (x : Group). x.base) e; paged = q }))
      alone h k (inr t) (inl f) p q same = absurd (none (record { group = h; there = t; begins = same ∙ ap (λ (x : Group). x.base) f; paged = p }))
      alone h k (inr s) (inr t) p q same = are.alone h k s t p q same

  -- a group goes
  pub founded_less : (m : ℕ) → AreFounded noted (groups_but m gs)
  founded_less m = record {
    runs = λ h there paged. are.runs h (groups_were gs m h there).0 paged;
    alone = λ h k s t p q same. are.alone h k (groups_were gs m h s).0 (groups_were gs m k t).0 p q same;
  }

  -- then none begins at its run
  pub none_left : (g : Group) → Among g gs → 0 < g.maplen → ¬ HasRun (groups_but g.meta gs) g.base
  none_left g there paged has =
      let was = groups_were gs g.meta has.group has.there in
      was.1 (ap (λ (x : Group). x.meta) (are.alone has.group g was.0 there has.paged paged has.begins))
