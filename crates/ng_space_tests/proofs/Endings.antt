-- The end of the only group of a trial.
use Rattle.std.proofs.Common.{◌≡◌, ℕ, zero, suc, ◌+◌, ◌-◌, ◌*◌, ◌%◌, ◌<◌, ◌≤◌, false, List, [], ◌∷◌, refl, sym, ap, ◌∙◌, subst, ⊎_elim, inl, inr, arith}
use Rattle.std.proofs.lemmas.Bool.{cases_eq, cases_lt}
use Rattle.ng_view.specs.Conditions.{Builds, IsMetaCell, IsRunCell, Sees}
use Rattle.ng_view.specs.Layouts.{InArea}
use Rattle.ng_view.specs.LockSteps.{built, groups_but, runs_but, without_nest}
use Rattle.ng_view.specs.Lists.{Among}
use Rattle.ng_view.specs.declared.view.Group.{Group}
use Rattle.ng_view.specs.declared.view.Layout.{Layout}
use Rattle.ng_view.specs.declared.view.Run.{Run}
use Rattle.ng_view.specs.declared.view.View.{View}
use Rattle.ng_view.specs.Groups.{Retires}
use Rattle.ng_view.specs.Loads.{Loads}
use Rattle.ng_view.specs.Notes.{IsClearedRun, NotesRun, plain_run}
use Rattle.ng_view.specs.Stores.{Stores}
use Rattle.ng_rule.proofs.lock.Knowing.{off_else, sees-built, sees-built_else}
use Rattle.ng_space_tests.specs.Trials.{AreMetasBlank, BuildsAll, IsCleared, Stands, area_run, page_runs}
use Rattle.ng_space_tests.proofs.Trials.{builds-meta, builds-run}

-- ---- cells are cleared one by one
pub builds-same : (v w : View) (a : ℕ) → w.desk.layout ≡ v.desk.layout → w.desk.groups ≡ v.desk.groups → Builds v a → Builds w a
builds-same v w a layout groups b = (
  b.0,
  ⊎_elim
      (λ (c : IsRunCell v a). inl (record { run = c.run; noted = subst (λ (d : Layout). Among c.run d.runs) (sym layout) c.noted; plain = c.plain; inside = c.inside; free = λ g t. c.free g (subst (Among g) groups t) }))
      (λ (c : IsMetaCell v a). inr (record { meta = c.meta; whole = c.whole; in_area = subst (λ (d : Layout). InArea d c.meta) (sym layout) c.in_area; unborn = λ g t. c.unborn g (subst (Among g) groups t); from = c.from; below = c.below }))
      b.1,
)

pub cleared_none : (v : View) (a : ℕ) → IsCleared v a 0 v
cleared_none v a = record { layout = refl; groups = refl; next = refl; held = refl; zero = λ b al low high. absurd (omega arith); others = λ b l s. s; behind = λ b l s. s }

-- what one step leaves as it was
record Keeps (w u : View) : Type 0 where
  pub layout : u.desk.layout ≡ w.desk.layout
  pub groups : u.desk.groups ≡ w.desk.groups
  pub next : u.desk.next ≡ w.desk.next
  pub held : u.held ≡ w.held
  pub keeps : (b : ℕ) → Sees w b 0 → Sees u b 0

one_more : (v w u : View) (a k : ℕ) → a % 4 ≡ 0 → IsCleared v a k w → Keeps w u → Sees u (a + 4 * k) 0 → IsCleared v a (k + 1) u
one_more v w u a k whole c s here = record {
  layout = s.layout ∙ c.layout;
  groups = s.groups ∙ c.groups;
  next = s.next ∙ c.next;
  held = s.held ∙ c.held;
  zero = λ b al low high. ⊎_elim
      (λ (l : b < a + 4 * k). s.keeps b (c.zero b al low l))
      (λ (l : a + 4 * k ≤ b). subst (λ n. Sees u n 0) (let e : a + 4 * k ≡ b = omega arith in e) here)
      (cases_lt b (a + 4 * k));
  others = λ b l q. s.keeps b (c.others b l q);
  behind = λ b l q. s.keeps b (c.behind b (omega arith) q);
}

keeps-load : (w u : View) (a n : ℕ) → Builds w a → Loads w a n u → Keeps w u
keeps-load w u a n b told = subst (Keeps w) (sym (told.page b)) (record { layout = refl; groups = refl; next = refl; held = refl; keeps = λ c s. inr s })

keeps-store : (w u : View) (a : ℕ) → u ≡ built w a 0 → Keeps w u
keeps-store w u a e = record {
  layout = ap (λ (x : View). x.desk.layout) e;
  groups = ap (λ (x : View). x.desk.groups) e;
  next = ap (λ (x : View). x.desk.next) e;
  held = ap (λ (x : View). x.held) e;
  keeps = λ b s. ⊎_elim (λ (q : b ≡ a). subst (λ n. Sees u n 0) (sym q) (sees-built w u a 0 e)) (λ (ne : b ≡ a → ⊥). sees-built_else w u a 0 b 0 e ne s) (cases_eq b a);
}

both : (w x u : View) → Keeps w x → Keeps x u → Keeps w u
both w x u s t = record { layout = t.layout ∙ s.layout; groups = t.groups ∙ s.groups; next = t.next ∙ s.next; held = t.held ∙ s.held; keeps = λ b q. t.keeps b (s.keeps b q) }

module _ (v w : View) (a k n : ℕ) (whole : a % 4 ≡ 0) (all : BuildsAll v a n) (c : IsCleared v a k w) (less : k < n) where
  pub builds-next : Builds w (a + 4 * k)
  builds-next = builds-same v w (a + 4 * k) c.layout c.groups (all (a + 4 * k) (omega arith) (omega arith) (omega arith))

  -- the cell was 0
  pub cleared_load : (u : View) (x : ℕ) → Loads w (a + 4 * k) x u → x ≡ 0 → IsCleared v a (k + 1) u
  cleared_load u x told none = one_more v w u a k whole c (keeps-load w u (a + 4 * k) x builds-next told)
      (subst (λ (y : View). Sees y (a + 4 * k) 0) (sym (told.page builds-next)) (inl (ap (λ (y : ℕ). (a + 4 * k, y)) (sym none))))

  pub builds-then : (u : View) (x : ℕ) → Loads w (a + 4 * k) x u → Builds u (a + 4 * k)
  builds-then u x told = let s = keeps-load w u (a + 4 * k) x builds-next told in builds-same w u (a + 4 * k) s.layout s.groups builds-next

  -- it wasn't
  pub cleared_store : (u t : View) (x : ℕ) → Loads w (a + 4 * k) x u → Stores u (a + 4 * k) 0 t → IsCleared v a (k + 1) t
  cleared_store u t x told stored =
      let e = stored.page (builds-then u x told) in
      one_more v w t a k whole c (both w u t (keeps-load w u (a + 4 * k) x builds-next told) (keeps-store u t (a + 4 * k) e)) (sees-built u t (a + 4 * k) 0 e)

-- ---- the group goes
pub stands-same : (v w : View) (rs : List Run) (gs : List Group) (a n : ℕ) → Stands v rs gs → IsCleared v a n w → Stands w rs gs
stands-same v w rs gs a n s c = record { runs = ap (λ (d : Layout). d.runs) c.layout ∙ s.runs; nests = ap (λ (d : Layout). d.nests) c.layout ∙ s.nests; groups = c.groups ∙ s.groups; next = c.next ∙ s.next }

module _ (v w0 w1 w2 : View) (g : Group) (alone : groups_but 4120 (g ∷ []) ≡ []) (stands : Stands v page_runs (g ∷ [])) (blank : AreMetasBlank v 1) (r0 : Retires v 4120 w0) where
  gone : Stands w0 page_runs []
  gone = subst (λ (x : View). Stands x page_runs []) (sym r0.view) (record { runs = stands.runs; nests = ap (without_nest 4120) stands.nests; groups = ap (groups_but 4120) stands.groups ∙ alone; next = stands.next })

  pub builds-old_meta : BuildsAll w0 4120 10
  builds-old_meta b al low high = subst (Builds w0) (let e : 4120 + 40 * 0 + (b - 4120) ≡ b = omega arith in e) (builds-meta w0 page_runs 0 (b - 4120) gone (inr (inl refl)) (omega arith) (omega arith) (omega arith))

  module _ (c1 : IsCleared w0 4120 10 w1) where
    still : Stands w1 page_runs []
    still = stands-same w0 w1 page_runs [] 4120 10 gone c1

    pub builds-old_run : BuildsAll w1 8192 1024
    builds-old_run b al low high = builds-run w1 (area_run ∷ []) 8192 b still al low (omega arith)

    metas : AreMetasBlank w1 0
    metas zero b le lt lb al = c1.zero (4120 + b) (omega arith) (omega arith) (omega arith)
    metas (suc i) b le lt lb al = c1.behind (4120 + 40 * suc i + b) (omega arith) (subst (λ (x : View). Sees x (4120 + 40 * suc i + b) 0) (sym r0.view) (inr (blank (suc i) b (omega arith) lt lb al)))

    module _ (c2 : IsCleared w1 8192 1024 w2) where
      cleared : Stands w2 page_runs []
      cleared = stands-same w1 w2 page_runs [] 8192 1024 still c2

      pub run_clear : IsClearedRun w2 8192 1
      run_clear = record {
        noted = subst (Among (plain_run 8192 1)) (sym cleared.runs) (inl refl);
        empty = λ g t. absurd (elim (subst (Among g) cleared.groups t) [ ]);
        clear = λ b al i. c2.zero b al i.0 (let high = i.1 in omega arith);
      }

      pub ends_stands : (u : View) → NotesRun w2 8192 1 false u → Stands u (area_run ∷ []) []
      ends_stands u n = subst (λ (x : View). Stands x (area_run ∷ []) []) (sym n.view) (record { runs = ap (runs_but 8192) cleared.runs; nests = cleared.nests; groups = cleared.groups; next = cleared.next })

      pub ends_metas : (u : View) → NotesRun w2 8192 1 false u → AreMetasBlank u 0
      ends_metas u n i b le lt lb al = subst (λ (x : View). Sees x (4120 + 40 * i + b) 0) (sym n.view)
          (off_else 8192 12288 (4120 + 40 * i + b) 0 w2.desk.cells (inl (omega arith)) (c2.others (4120 + 40 * i + b) (omega arith) (metas i b le lt lb al)))
