-- A group is built on a run, and published.
use Rattle.std.proofs.Common.{◌≡◌, ◌⊎◌, ℕ, ◌+◌, ◌-◌, ◌*◌, ◌%◌, ◌<◌, ◌≤◌, eqb, cond, List, [], ◌∷◌, refl, sym, ap, ◌∙◌, subst, ⊎_elim, inl, inr, mul-le-mul_left, arith}
use Rattle.ng_class.proofs.Slots.{stride_of_single}
use Rattle.ng_rule.proofs.geometry.Strides.{header_cell}
use Rattle.ng_view.specs.Conditions.{Built, Sees}
use Rattle.ng_view.specs.Layouts.{IsKind, OnRun}
use Rattle.ng_view.specs.LockSteps.{built, cells_off, published, run_published}
use Rattle.ng_view.specs.Places.{header, reach, stride}
use Rattle.ng_view.specs.Slots.{IsPlain}
use Rattle.ng_view.specs.declared.view.Group.{Group}
use Rattle.ng_view.specs.declared.view.View.{View}
use Rattle.ng_meta.specs.Place.{IsMetaPlace}
use Rattle.ng_view.specs.Groups.{AreMasks, BuildsRun, BuiltMeta, Publishes}
use Rattle.ng_view.specs.Notes.{IsClearedRun, plain_run}
use Rattle.ng_view.specs.Stores.{Stores}
use Rattle.ng_rule.proofs.lock.Knowing.{off_else, sees-built}
use Rattle.ng_build.specs.Cells.{IsIdleMeta, IsIdleRun, OnlyCells, knowing}
use Rattle.ng_build.specs.Drafts.{FitsRun, IsBlankMeta, IsCounted, avail_of, draft_group}
use Rattle.ng_build.specs.Runs.{AreHeadersZero, IsMetaOutside, PublishesRun, with_group}
use Rattle.ng_build.specs.declared.draft.Draft.{Draft}
use Rattle.ng_build.specs.Written.{freed_of, with_meta}
use Rattle.ng_build.proofs.Areas.{run_cell, run_head}
use Rattle.ng_build.proofs.Cells.{by_cells, idle_meta_only, idle_run_only, only_both, only_built, sees_else}
use Rattle.ng_build.proofs.Masks.{are_masks, is_bare, moves_first}
use Rattle.ng_build.proofs.Metas.{built_meta, meta_kept, meta_only, meta_view, meta_whole, several_plain}

-- ---- the shape of a group with a run of its own
kind_of : (g : Group) → FitsRun g → IsKind g
kind_of g (inl large) = inl large.kind
kind_of g (inr lone) = inr lone

class_low : (d : Draft) → FitsRun (draft_group d) → d.class < 64
class_low d (inl large) = let low = large.kind.low in omega arith
class_low d (inr lone) = let tag : d.class + 1 ≡ 64 = lone.lone in omega arith

plain_of : (d : Draft) → FitsRun (draft_group d) → 0 < d.last → IsPlain (draft_group d)
plain_of d (inl large) some = let low = large.kind.low in several_plain d (omega arith) some
plain_of d (inr lone) some = absurd (let none : d.last ≡ 0 = lone.single in omega arith)

large_of : (g : Group) → FitsRun g → (g.tag ≡ 64) ⊎ (2048 < Rattle.ng_view.specs.Places.size_of g + 16)
large_of g (inl large) = inr large.large
large_of g (inr lone) = inl lone.lone

reach_of : (g : Group) → 1 ≤ g.maplen → FitsRun g → reach g ≤ 4096 * g.maplen
unfolding stride
reach_of g some (inl large) = large.fits
reach_of g some (inr lone) =
    let e : stride g ≡ g.maplen * 4096 - 16 = stride_of_single (g.tag - 1) g.last g.maplen lone.single (omega arith) in
    let one : stride g * (g.last + 1) ≡ stride g * 1 = ap (λ n. stride g * (n + 1)) lone.single in
    omega arith

-- a header cell of the group, and the past cell, lie in its first bytes up to its reach
header_below : (g : Group) (i : ℕ) → i ≤ g.last + 1 → header g i < g.base + reach g
header_below g i le = let m : stride g * i ≤ stride g * (g.last + 1) = mul-le-mul_left (stride g) le in omega arith

-- ---- the cells are stored
module _ (v v1 v2 : View) (d : Draft) (pages : ℕ) (place : IsMetaPlace d.meta pages) (blank : IsBlankMeta v d.meta) (whole : d.base % 4096 ≡ 0) (some : 1 ≤ d.maplen) (run : IsClearedRun v d.base d.maplen) (s1 : Stores v d.base d.meta v1) where
  e1 : v1 ≡ built v d.base d.meta
  e1 = s1.page (run_head v d.base d.maplen run whole some)

  pub run_1 : OnlyCells v v1
  run_1 = only_built v v1 d.base d.meta e1

  module _ (s2 : Stores v1 (d.base + 8) d.active v2) where
    e2 : v2 ≡ built v1 (d.base + 8) d.active
    e2 = s2.page (run_cell v v1 d.base d.maplen 8 run whole run_1 (omega arith) refl)

    run_2 : OnlyCells v v2
    run_2 = only_both v v1 v2 run_1 (only_built v1 v2 (d.base + 8) d.active e2)

    view_2 : v2 ≡ knowing v v2.desk.cells v.readings
    view_2 = run_2.view ∙ ap (λ rs. knowing v v2.desk.cells rs) (ap (λ (x : View). x.readings) e2 ∙ ap (λ (x : View). x.readings) e1)

    pub idle_2 : IsIdleMeta v2 d.meta
    idle_2 = idle_meta_only v v2 d.meta run_2 blank.idle

    stays : (b y : ℕ) → (b < d.base) ⊎ (d.base < b) → (b < d.base + 8) ⊎ (d.base + 8 < b) → Sees v b y → Sees v2 b y
    stays b y n1 n2 s = sees_else v1 v2 (d.base + 8) d.active b y e2 n2 (sees_else v v1 d.base d.meta b y e1 n1 s)

    module _ (apart : IsMetaOutside d.meta d.base (d.base + 4096 * d.maplen)) (counted : IsCounted d) (shape : FitsRun (draft_group d)) (v3 : View) (e3 : v3 ≡ with_meta v2 d) where
      abbrev g : Group
      g = draft_group d

      blank_2 : IsBlankMeta v2 d.meta
      blank_2 = record {
        idle = idle_2;
        zero = λ b al low high. ⊎_elim
            (λ (l : d.meta + 40 ≤ d.base). stays b 0 (inl (omega arith)) (inl (omega arith)) (blank.zero b al low high))
            (λ (l : d.base + 4096 * d.maplen ≤ d.meta). stays b 0 (inr (omega arith)) (inr (omega arith)) (blank.zero b al low high))
            apart;
      }

      meta : BuiltMeta v3 g (freed_of d.active d.last)
      meta = built_meta v2 v3 d e3 (meta_whole d.meta pages place) blank_2 (kind_of g shape) counted.last (class_low d shape)

      masks : AreMasks g (avail_of d.active) (freed_of d.active d.last)
      masks = are_masks g d.active counted.active counted.last (plain_of d shape)

      -- what is known of a cell of the run
      in_run : (k y : ℕ) → k < 4096 * d.maplen → Sees v2 (d.base + k) y → Sees v3 (d.base + k) y
      in_run k y lt s = meta_kept v2 v3 d e3 (d.base + k) y (⊎_elim (λ (l : d.meta + 40 ≤ d.base). inr (omega arith)) (λ (l : d.base + 4096 * d.maplen ≤ d.meta). inl (omega arith)) apart) s

      pub run_lows : AreHeadersZero v3 g
      run_lows i le =
          let below = header_below g i le in
          let fits = reach_of g some shape in
          let cell : (header g i + 4) % 16 ≡ 0 = header_cell g i (omega arith) in
          let k : ℕ = 12 + stride g * i in
          let at : d.base + k ≡ header g i = omega arith in
          let zero : Sees v (d.base + k) 0 = subst (λ n. Sees v n 0) (sym at) (run.clear (header g i) (omega arith) (omega arith, omega arith)) in
          subst (λ n. Sees v3 n 0) at (in_run k 0 (omega arith) (stays (d.base + k) 0 (inr (omega arith)) (inr (omega arith)) zero))

      idle : IsIdleRun v3 d.base d.maplen
      idle = idle_run_only v2 v3 d.base d.maplen (meta_only v2 v3 d e3) (idle_run_only v v2 d.base d.maplen run_2 (record { noted = run.noted; empty = run.empty }))

      on_run : OnRun v3.desk.layout.runs g
      on_run = record { run = plain_run d.base d.maplen; noted = idle.noted; plain = refl; begins = refl; fits = reach_of g some shape; pages = refl; large = large_of g shape }

      is_built : Built v3 g (avail_of d.active) (freed_of d.active d.last)
      unfolding on_run
      is_built = record {
        whole = meta.whole;
        area = meta.area;
        unborn = meta.unborn;
        live = meta.live;
        low = meta.low;
        kind = meta.kind;
        run = on_run;
        empty = idle.empty;
        base_whole = omega arith;
        links = meta.links;
        mem = meta.mem;
        mem_high = meta.mem_high;
        freed = meta.freed;
        flags = meta.flags;
        flags_known = meta.flags_known;
        flags_are = meta.flags_are;
        flags_high = meta.flags_high;
        base = subst (λ n. Sees v3 n d.meta) (let e : d.base + 0 ≡ d.base = omega arith in e) (in_run 0 d.meta (omega arith) (subst (λ n. Sees v2 n d.meta) (let e : d.base ≡ d.base + 0 = omega arith in e) (sees_else v1 v2 (d.base + 8) d.active d.base d.meta e2 (inl (omega arith)) (sees-built v v1 d.base d.meta e1))));
        base_high = in_run 4 0 (omega arith) (stays (d.base + 4) 0 (inr (omega arith)) (inl (omega arith)) (run.clear (d.base + 4) (omega arith) (omega arith, omega arith)));
        lows = λ i le. (0, run_lows i le, refl);
        small = masks.small;
        masks = masks.apart;
        plain = masks.plain;
      }

      -- the active index is known
      pub run_index : Sees v3 (d.base + 8) d.active
      run_index = in_run 8 d.active (omega arith) (sees-built v1 v2 (d.base + 8) d.active e2)

      pub run_builds : BuildsRun v3 d.meta d.class (avail_of d.active)
      run_builds = record { group = g; freed = freed_of d.active d.last; built = is_built; of_meta = refl; of_class = refl }

      module _ (w : View) (p : Publishes v3 d.meta d.class (avail_of d.active) w) where
        abbrev cs : List (ℕ × ℕ)
        cs = cells_off d.meta (d.meta + 40) (cells_off d.base (d.base + 4096 * d.maplen) v3.desk.cells)

        is_published : w ≡ run_published v3 g (plain_run d.base d.maplen) (avail_of d.active) (freed_of d.active d.last)
        unfolding run_builds is_built on_run
        is_published = p.run run_builds

        view_3 : v3 ≡ knowing v v3.desk.cells v.readings
        view_3 = meta_view v2 v3 d e3 ∙ ap (λ x. knowing x v3.desk.cells x.readings) view_2

        is_view : w ≡ knowing (with_group v g d.active) cs v.readings
        is_view =
            is_published
            ∙ ap (λ (is : List ℕ). published v3 g is cs (cond (eqb (avail_of d.active) 0) (d.meta ∷ v3.desk.zero_avail) v3.desk.zero_avail)) (moves_first g d.active counted.active counted.last)
            ∙ ap (λ b. published v3 g (0 ∷ []) cs (cond b (d.meta ∷ v3.desk.zero_avail) v3.desk.zero_avail)) (is_bare d.active)
            ∙ ap (λ (x : View). published x g (0 ∷ []) cs (cond (eqb d.active 0) (d.meta ∷ x.desk.zero_avail) x.desk.zero_avail)) view_3

        pub run_publishes : PublishesRun v g d.active w
        run_publishes = record {
          view = by_cells (with_group v g d.active) w cs v.readings is_view;
          kept = λ b x out_meta out_run s. subst (λ (y : View). Sees y b x) (sym is_published)
              (off_else d.meta (d.meta + 40) b x (cells_off d.base (d.base + 4096 * d.maplen) v3.desk.cells) out_meta
              (off_else d.base (d.base + 4096 * d.maplen) b x v3.desk.cells out_run
              (meta_kept v2 v3 d e3 b x out_meta
              (⊎_elim (λ (l : b < d.base). stays b x (inl l) (inl (omega arith)) s) (λ (l : d.base + 4096 * d.maplen ≤ b). stays b x (inr (omega arith)) (inr (omega arith)) s) out_run))));
        }
