-- What the seat knows in the trial.
use Rattle.std.proofs.Common.{◌≡◌, ◌≢◌, ℕ, ◌+◌, ◌*◌, ◌%◌, ◌<◌, ◌≤◌, true, List, [], ◌∷◌, refl, sym, ap, subst, ⊎_elim, inl, inr, arith}
use Rattle.ng_view.specs.Conditions.{AreaBuilt, Builds, Sees}
use Rattle.ng_view.specs.Layouts.{Inside}
use Rattle.ng_view.specs.LockSteps.{area_made, built, cells_off, run_noted}
use Rattle.ng_view.specs.Lists.{Among}
use Rattle.ng_view.specs.Steps.{read}
use Rattle.ng_view.specs.declared.view.Group.{Group}
use Rattle.ng_view.specs.declared.view.Run.{Run}
use Rattle.ng_view.specs.declared.view.View.{View}
use Rattle.ng_view.specs.Notes.{IsNewRun, NotesArea, NotesRun, plain_run}
use Rattle.ng_view.specs.Stores.{Stores}
use Rattle.ng_rule.proofs.lock.Knowing.{off_else, sees-built, sees-built_else, sees-run}
use Rattle.ng_space_tests.specs.Trials.{AreMetasBlank, Stands, area_run, trial_start}

pub stands-built : (v w : View) (rs : List Run) (gs : List Group) (a x : ℕ) → Stands v rs gs → w ≡ built v a x → Stands w rs gs
stands-built v w rs gs a x s e = subst (λ (u : View). Stands u rs gs) (sym e) (record { runs = s.runs; nests = s.nests; groups = s.groups; next = s.next })

pub stands-run : (v w : View) (rs : List Run) (gs : List Group) (a p n : ℕ) → Stands v rs gs → w ≡ read (run_noted v a p) 0 n → Stands w (plain_run a p ∷ rs) gs
stands-run v w rs gs a p n s e = subst (λ (u : View). Stands u (plain_run a p ∷ rs) gs) (sym e) (record { runs = ap (λ (r : List Run). plain_run a p ∷ r) s.runs; nests = s.nests; groups = s.groups; next = s.next })

-- a cell of the run that came last, where no group is
pub builds-run : (v : View) (rs : List Run) (a b : ℕ) → Stands v (plain_run a 1 ∷ rs) [] → b % 4 ≡ 0 → a ≤ b → b < a + 4096 → Builds v b
builds-run v rs a b s al low high = (
  al,
  inl (record {
    run = plain_run a 1;
    noted = subst (Among (plain_run a 1)) (sym s.runs) (inl refl);
    plain = refl;
    inside = (low, omega arith);
    free = λ g t. absurd (elim (subst (Among g) s.groups t) [ ]);
  }),
)

-- a cell of a meta of the area, where no group is
pub builds-meta : (v : View) (rs : List Run) (i b : ℕ) → Stands v rs [] → Among area_run rs → i < 101 → b < 40 → b % 4 ≡ 0 → Builds v (4120 + 40 * i + b)
builds-meta v rs i b s there lt lb al = (
  omega arith,
  inr (record {
    meta = 4120 + 40 * i;
    whole = omega arith;
    in_area = record { run = area_run; number = i; noted = subst (Among area_run) (sym s.runs) there; is_area = refl; page = refl; place = omega arith; below = lt };
    unborn = λ g t. absurd (elim (subst (Among g) s.groups t) [ ]);
    from = omega arith;
    below = omega arith;
  }),
)

pub new_area : (v : View) → Stands v [] [] → IsNewRun trial_start v 4096 1
new_area v s = record { whole = refl; some = omega arith; above = omega arith; below = omega arith; apart = λ r b t i. absurd (elim (subst (Among r) s.runs t) [ ]) }

pub new_run : (v : View) → Stands v (area_run ∷ []) [] → IsNewRun trial_start v 8192 1
new_run v s = record {
  whole = refl;
  some = omega arith;
  above = omega arith;
  below = omega arith;
  apart = λ r b t i. ⊎_elim (λ (e : r ≡ area_run). let j : Inside area_run b = subst (λ (x : Run). Inside x b) e i in inl (let high = j.1 in omega arith)) (λ (q : ⊥). absurd q) (subst (Among r) s.runs t);
}

-- the cells of the page are known to be 0
abbrev pub IsZeroPage : View → ℕ → Type 0
IsZeroPage v a = (b : ℕ) → b % 4 ≡ 0 → a ≤ b → b < a + 4096 → Sees v b 0

pub zero-run : (v w : View) (a n : ℕ) → a % 4 ≡ 0 → w ≡ read (run_noted v a 1) 0 n → IsZeroPage w a
zero-run v w a n whole e = subst (λ (u : View). IsZeroPage u a) (sym e) (λ b al low high. sees-run v a 1 b al whole low (omega arith))

-- three cells of the area's head
module _ (v w1 w2 w3 : View) (zeros : IsZeroPage v 4096) (stands : Stands v (plain_run 4096 1 ∷ []) []) (e1 : w1 ≡ built v 4096 2309737967) (e2 : w2 ≡ built w1 4100 19088743) (e3 : w3 ≡ built w2 4112 101) where
  else : (b : ℕ) → b ≢ 4096 → b ≢ 4100 → b ≢ 4112 → b % 4 ≡ 0 → 4096 ≤ b → b < 8192 → Sees w3 b 0
  else b n1 n2 n3 al low high = sees-built_else w2 w3 4112 101 b 0 e3 n3 (sees-built_else w1 w2 4100 19088743 b 0 e2 n2 (sees-built_else v w1 4096 2309737967 b 0 e1 n1 (zeros b al low (omega arith))))

  pub head_stands : Stands w3 (plain_run 4096 1 ∷ []) []
  head_stands = stands-built w2 w3 (plain_run 4096 1 ∷ []) [] 4112 101 (stands-built w1 w2 (plain_run 4096 1 ∷ []) [] 4100 19088743 (stands-built v w1 (plain_run 4096 1 ∷ []) [] 4096 2309737967 stands e1) e2) e3

  pub metas_blank : AreMetasBlank w3 0
  metas_blank i b le lt lb al = else (4120 + 40 * i + b) (λ q. omega arith) (λ q. omega arith) (λ q. omega arith) (omega arith) (omega arith) (omega arith)

  pub is_area : AreaBuilt trial_start w3 (plain_run 4096 1)
  is_area = record {
    there = subst (Among (plain_run 4096 1)) (sym head_stands.runs) (inl refl);
    plain = refl;
    page = refl;
    empty = λ g t. absurd (elim (subst (Among g) head_stands.groups t) [ ]);
    check = sees-built_else w2 w3 4112 101 4096 2309737967 e3 (λ q. omega arith) (sees-built_else w1 w2 4100 19088743 4096 2309737967 e2 (λ q. omega arith) (sees-built v w1 4096 2309737967 e1));
    check_high = sees-built_else w2 w3 4112 101 4100 19088743 e3 (λ q. omega arith) (sees-built w1 w2 4100 19088743 e2);
    next = 0;
    next_known = else 4104 (λ q. omega arith) (λ q. omega arith) (λ q. omega arith) refl (omega arith) (omega arith);
    next_is = inl refl;
    next_high = else 4108 (λ q. omega arith) (λ q. omega arith) (λ q. omega arith) refl (omega arith) (omega arith);
    nslots = sees-built w2 w3 4112 101 e3;
    nslots_high = else 4116 (λ q. omega arith) (λ q. omega arith) (λ q. omega arith) refl (omega arith) (omega arith);
    tail = λ b al low high. else (4096 + b) (λ q. omega arith) (λ q. omega arith) (λ q. omega arith) (omega arith) (omega arith) (omega arith);
    metas = λ i lt. subst (λ a. Sees w3 a 0) (let e : 4120 + 40 * i + 24 ≡ 4096 + 24 + 40 * i + 24 = omega arith in e) (metas_blank i 24 (omega arith) lt (omega arith) refl);
  }

-- the run is an area then
pub stands-area : (v w : View) (n : ℕ) → Stands v (plain_run 4096 1 ∷ []) [] → w ≡ read (area_made v (plain_run 4096 1)) 0 n → Stands w (area_run ∷ []) []
stands-area v w n s e = subst (λ (u : View). Stands u (area_run ∷ []) []) (sym e) (record { runs = ap (λ (rs : List Run). area_run ∷ Rattle.ng_view.specs.LockSteps.runs_but 4096 rs) s.runs; nests = s.nests; groups = s.groups; next = s.next })

pub metas-area : (v w : View) (n : ℕ) → AreMetasBlank v 0 → w ≡ read (area_made v (plain_run 4096 1)) 0 n → AreMetasBlank w 0
metas-area v w n blank e = subst (λ (u : View). AreMetasBlank u 0) (sym e) (λ i b le lt lb al.
    off_else 4096 4120 (4120 + 40 * i + b) 0 (cells_off 8160 8192 v.desk.cells) (inr (omega arith)) (off_else 8160 8192 (4120 + 40 * i + b) 0 v.desk.cells (inl (omega arith)) (blank i b le lt lb al)))

-- a store in the run that came last
pub store_in : (w u : View) (rs : List Run) (a b x : ℕ) → Stands w (plain_run a 1 ∷ rs) [] → b % 4 ≡ 0 → a ≤ b → b < a + 4096 → Stores w b x u → (u ≡ built w b x) × Stands u (plain_run a 1 ∷ rs) []
store_in w u rs a b x s al low high told = let e = told.page (builds-run w rs a b s al low high) in (e, stands-built w u (plain_run a 1 ∷ rs) [] b x s e)

-- a store in a meta of the area
pub store_meta : (w u : View) (rs : List Run) (i b x : ℕ) → Stands w rs [] → Among area_run rs → i < 101 → b < 40 → b % 4 ≡ 0 → Stores w (4120 + 40 * i + b) x u → (u ≡ built w (4120 + 40 * i + b) x) × Stands u rs []
store_meta w u rs i b x s there lt lb al told = let e = told.page (builds-meta w rs i b s there lt lb al) in (e, stands-built w u rs [] (4120 + 40 * i + b) x s e)

module _ (v w0 w1 w2 w3 : View) (fresh : Stands v [] []) (n0 : NotesRun v 4096 1 true w0) where
  pub area_0 : Stands w0 (plain_run 4096 1 ∷ []) []
  area_0 = stands-run v w0 [] [] 4096 1 n0.found fresh n0.view

  pub area_1 : Stores w0 4096 2309737967 w1 → (w1 ≡ built w0 4096 2309737967) × Stands w1 (plain_run 4096 1 ∷ []) []
  area_1 = store_in w0 w1 [] 4096 4096 2309737967 area_0 refl (omega arith) (omega arith)

  pub area_2 : Stores w0 4096 2309737967 w1 → Stores w1 4100 19088743 w2 → (w2 ≡ built w1 4100 19088743) × Stands w2 (plain_run 4096 1 ∷ []) []
  area_2 s1 = store_in w1 w2 [] 4096 4100 19088743 (area_1 s1).1 refl (omega arith) (omega arith)

  module _ (s1 : Stores w0 4096 2309737967 w1) (s2 : Stores w1 4100 19088743 w2) (s3 : Stores w2 4112 101 w3) where
    third : w3 ≡ built w2 4112 101
    third = (store_in w2 w3 [] 4096 4112 101 (area_2 s1 s2).1 refl (omega arith) (omega arith) s3).0

    zeros : IsZeroPage w0 4096
    zeros = zero-run v w0 4096 n0.found refl n0.view

    pub area_built : AreaBuilt trial_start w3 (plain_run 4096 1)
    area_built = is_area w0 w1 w2 w3 zeros area_0 (area_1 s1).0 (area_2 s1 s2).0 third

    pub area_stands : (u : View) → NotesArea w3 4096 u → Stands u (area_run ∷ []) []
    area_stands u n = stands-area w3 u n.found (head_stands w0 w1 w2 w3 zeros area_0 (area_1 s1).0 (area_2 s1 s2).0 third) n.view

    pub area_metas : (u : View) → NotesArea w3 4096 u → AreMetasBlank u 0
    area_metas u n = metas-area w3 u n.found (metas_blank w0 w1 w2 w3 zeros area_0 (area_1 s1).0 (area_2 s1 s2).0 third) n.view
