-- A group of one page, as it is built.
use Rattle.std.proofs.Common.{◌≡◌, ◌≢◌, ℕ, ◌+◌, ◌*◌, ◌%◌, ◌<◌, ◌≤◌, true, List, [], ◌∷◌, refl, sym, ap, subst, inl, inr, arith, mul-le-mul_left}
use Rattle.ng_rule.proofs.geometry.Strides.{stride_whole, times_whole}
use Rattle.ng_view.specs.Conditions.{Built, Sees}
use Rattle.ng_view.specs.LockSteps.{built, cells_off, run_published}
use Rattle.ng_view.specs.Lists.{Among}
use Rattle.ng_view.specs.Places.{header, stride}
use Rattle.ng_view.specs.declared.view.Group.{Group}
use Rattle.ng_view.specs.declared.view.View.{View}
use Rattle.ng_view.specs.declared.view.Start.{Start}
use Rattle.ng_meta.specs.Place.{IsMetaPlace}
use Rattle.ng_view.specs.Groups.{BuildsRun, Publishes}
use Rattle.ng_view.specs.Notes.{NotesRun, plain_run}
use Rattle.ng_view.specs.Stores.{Stores}
use Rattle.ng_rule.proofs.lock.Knowing.{off_else, sees-built, sees-built_else, sees-run_else}
use Rattle.ng_space_tests.specs.Trials.{AreMetasBlank, FillsPage, IsBuilt, Stands, area_run, page_group, page_runs, trial_start}
use Rattle.ng_space_tests.proofs.Trials.{IsZeroPage, stands-run, store_in, store_meta, zero-run}

pub page_place : (key : Start) → key ≡ trial_start → IsMetaPlace 4120 key.pages
page_place key e = subst (λ (k : Start). IsMetaPlace 4120 k.pages) (sym e) (record { page = 1; i = 0; mapped = omega arith; inside = omega arith; counted = omega arith; stands = refl })

-- its header cells and its past cell lie in the page
header_inside : (g : Group) (i : ℕ) → g.base ≡ 8192 → i ≤ g.last + 1 → 16 + stride g * (g.last + 1) ≤ 4096 → (header g i % 4 ≡ 0) × (8204 ≤ header g i) × (header g i < 12288)
header_inside g i base le fits =
    let m = mul-le-mul_left (stride g) le in let w = times_whole (stride g) i (stride_whole g) in
    let x : ℕ = stride g * i in (omega arith, omega arith, omega arith)

module _ (class last mask : ℕ) (fills : FillsPage class last mask) (v w0 w1 w2 w3 : View) (stands : Stands v (area_run ∷ []) []) (blank : AreMetasBlank v 0) (n0 : NotesRun v 8192 1 true w0) where
  abbrev group : Group
  group = page_group class last

  abbrev flags : ℕ
  flags = last + 32 + class * 64 + 4096

  pub page_0 : Stands w0 page_runs []
  page_0 = stands-run v w0 (area_run ∷ []) [] 8192 1 n0.found stands n0.view

  pub page_1 : Stores w0 8192 4120 w1 → (w1 ≡ built w0 8192 4120) × Stands w1 page_runs []
  page_1 = store_in w0 w1 (area_run ∷ []) 8192 8192 4120 page_0 refl (omega arith) (omega arith)

  pub page_2 : Stores w0 8192 4120 w1 → Stores w1 4136 8192 w2 → (w2 ≡ built w1 4136 8192) × Stands w2 page_runs []
  page_2 s1 = store_meta w1 w2 page_runs 0 16 8192 (page_1 s1).1 (inr (inl refl)) (omega arith) (omega arith) refl

  module _ (s1 : Stores w0 8192 4120 w1) (s2 : Stores w1 4136 8192 w2) (s3 : Stores w2 4152 flags w3) where
    page_3 : (w3 ≡ built w2 4152 flags) × Stands w3 page_runs []
    page_3 = store_meta w2 w3 page_runs 0 32 flags (page_2 s1 s2).1 (inr (inl refl)) (omega arith) (omega arith) refl s3

    other : (b y : ℕ) → b ≢ 8192 → b ≢ 4136 → b ≢ 4152 → Sees w0 b y → Sees w3 b y
    other b y n1 n2 n3 s = sees-built_else w2 w3 4152 flags b y page_3.0 n3 (sees-built_else w1 w2 4136 8192 b y (page_2 s1 s2).0 n2 (sees-built_else w0 w1 8192 4120 b y (page_1 s1).0 n1 s))

    metas : (i b : ℕ) → i < 101 → b < 40 → b % 4 ≡ 0 → Sees w0 (4120 + 40 * i + b) 0
    metas i b lt lb al = subst (λ (u : View). Sees u (4120 + 40 * i + b) 0) (sym n0.view) (sees-run_else v 8192 1 (4120 + 40 * i + b) 0 (blank i b (omega arith) lt lb al))

    zeros : IsZeroPage w0 8192
    zeros = zero-run v w0 8192 n0.found refl n0.view

    in_meta : (b : ℕ) → b < 40 → b % 4 ≡ 0 → b ≢ 16 → b ≢ 32 → Sees w3 (4120 + b) 0
    in_meta b lt al n m = other (4120 + b) 0 (λ q. omega arith) (λ q. n (omega arith)) (λ q. m (omega arith)) (metas 0 b (omega arith) lt al)

    low : (i : ℕ) → i ≤ last + 1 → (x : ℕ) × Sees w3 (header group i) x × (x % 256 ≡ 0)
    low i le =
        let h = header_inside group i refl le fills.fits in let h0 = h.0 in let h1 = h.1 in let h2 = h.2 in
        let x : ℕ = header group i in let x0 : x % 4 ≡ 0 = h0 in let x1 : 8204 ≤ x = h1 in let x2 : x < 12288 = h2 in
        (0, other x 0 (λ q. omega arith) (λ q. omega arith) (λ q. omega arith) (zeros x x0 (omega arith) (omega arith)), refl)

    is_built : Built w3 group mask 0
    is_built = record {
      whole = refl;
      area = record { run = area_run; number = 0; noted = subst (Among area_run) (sym page_3.1.runs) (inr (inl refl)); is_area = refl; page = refl; place = refl; below = omega arith };
      unborn = λ g t. absurd (elim (subst (Among g) page_3.1.groups t) [ ]);
      live = omega arith;
      low = (let l = fills.low in omega arith);
      kind = fills.kind;
      run = record {
        run = plain_run 8192 1;
        noted = subst (Among (plain_run 8192 1)) (sym page_3.1.runs) (inl refl);
        plain = refl;
        begins = refl;
        fits = fills.fits;
        pages = refl;
        large = inr fills.large;
      };
      empty = λ g t. absurd (elim (subst (Among g) page_3.1.groups t) [ ]);
      base_whole = refl;
      links = λ b lt al. in_meta b (omega arith) al (λ q. omega arith) (λ q. omega arith);
      mem = sees-built_else w2 w3 4152 flags 4136 8192 page_3.0 (λ q. omega arith) (sees-built w1 w2 4136 8192 (page_2 s1 s2).0);
      mem_high = in_meta 20 (omega arith) refl (λ q. omega arith) (λ q. omega arith);
      freed = in_meta 28 (omega arith) refl (λ q. omega arith) (λ q. omega arith);
      flags = flags;
      flags_known = sees-built w2 w3 4152 flags page_3.0;
      flags_are = (let few = fills.few in let l = fills.low in record { last = omega arith; freeable = omega arith; class = omega arith; maplen = omega arith });
      flags_high = in_meta 36 (omega arith) refl (λ q. omega arith) (λ q. omega arith);
      base = sees-built_else w2 w3 4152 flags 8192 4120 page_3.0 (λ q. omega arith) (sees-built_else w1 w2 4136 8192 8192 4120 (page_2 s1 s2).0 (λ q. omega arith) (sees-built w0 w1 8192 4120 (page_1 s1).0));
      base_high = other 8196 0 (λ q. omega arith) (λ q. omega arith) (λ q. omega arith) (zeros 8196 refl (omega arith) (omega arith));
      lows = low;
      small = fills.masks.small;
      masks = fills.masks.apart;
      plain = fills.masks.plain;
    }

    pub page_builds : BuildsRun w3 4120 class mask
    page_builds = record { group = group; freed = 0; built = is_built; of_meta = refl; of_class = refl }

    module _ (u : View) (p : Publishes w3 4120 class mask u) where
      published : u ≡ run_published w3 group (plain_run 8192 1) mask 0
      unfolding page_builds is_built
      published = p.run page_builds

      pub page_built : IsBuilt u group mask
      page_built = record {
        stands = subst (λ (x : View). Stands x page_runs (group ∷ [])) (sym published) (record { runs = page_3.1.runs; nests = page_3.1.nests; groups = ap (λ (gs : List Group). group ∷ gs) page_3.1.groups; next = page_3.1.next });
        metas = λ i b le lt lb al. subst (λ (x : View). Sees x (4120 + 40 * i + b) 0) (sym published)
            (off_else 4120 4160 (4120 + 40 * i + b) 0 (cells_off 8192 12288 w3.desk.cells) (inr (omega arith)) (off_else 8192 12288 (4120 + 40 * i + b) 0 w3.desk.cells (inl (omega arith))
            (other (4120 + 40 * i + b) 0 (λ q. omega arith) (λ q. omega arith) (λ q. omega arith) (metas i b lt lb al))));
        listed = subst (λ (x : View). Among 4120 x.desk.listed) (sym published) (inl refl);
        others = w3.held;
        slots = ap (λ (x : View). x.held) published;
      }
