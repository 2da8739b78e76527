-- Runs become areas, and go.
use Rattle.std.proofs.Common.{◌≡◌, ◌⊎◌, ℕ, ◌+◌, ◌*◌, ◌/◌, ◌%◌, ◌<◌, ◌≤◌, false, List, [], ◌∷◌, ◌++◌, refl, sym, ap, ◌∙◌, subst, ⊎_elim, inl, inr, append_assoc, arith}
use Rattle.std.specs.Prelude.{bit_and}
use Rattle.std.proofs.lemmas.Nat.{and_mask}
use Rattle.ng_view.specs.Conditions.{AreaBuilt, Builds, Sees}
use Rattle.ng_view.specs.Layouts.{IsAreaAt}
use Rattle.ng_view.specs.LockSteps.{area_made, built, cells_off, run_left}
use Rattle.ng_view.specs.Steps.{read}
use Rattle.ng_view.specs.declared.view.Start.{Start}
use Rattle.ng_view.specs.declared.view.View.{View}
use Rattle.ng_view.specs.Notes.{IsClearedRun, NotesArea, NotesRun, plain_run}
use Rattle.ng_view.specs.Stores.{Stores}
use Rattle.ng_rule.proofs.lock.Knowing.{off_else, sees-built}
use Rattle.ng_build.specs.Areas.{AreMetasZero, with_area, without_run}
use Rattle.ng_build.specs.Cells.{AreZero, BuildsAll, IsIdleRun, KeepsOutside, OnlyCells, ReadsWithin, knowing}
use Rattle.ng_build.proofs.Cells.{builds_run, idle_run_only, only_both, only_built, reads_then, sees_else}

-- ---- a run goes
module _ (v u : View) (base pages : ℕ) (idle : IsIdleRun v base pages) where
  pub builds_all : BuildsAll v base (base + 4096 * pages)
  builds_all b al low high = builds_run v base pages b idle al low high

  module _ (only : OnlyCells v u) (zero : AreZero u base (base + 4096 * pages)) where
    pub cleared : IsClearedRun u base pages
    cleared =
        let still = idle_run_only v u base pages only idle in
        record { noted = still.noted; empty = still.empty; clear = λ b al inside. zero b al inside.0 inside.1 }

    module _ (w : View) (told : NotesRun u base pages false w) where
      pub gone_view : OnlyCells (without_run v base) w
      gone_view =
          let r = plain_run base pages in
          let e : w ≡ knowing (without_run v base) (cells_off base (base + 4096 * pages) u.desk.cells) (u.readings ++ (0, told.found) ∷ []) =
          told.view ∙ ap (λ x. read (run_left x r) 0 told.found) only.view in
          subst (OnlyCells (without_run v base)) (sym e)
          (record { view = refl; came = only.came ++ (0, told.found) ∷ []; readings = ap (λ rs. rs ++ (0, told.found) ∷ []) only.readings ∙ append_assoc v.readings only.came ((0, told.found) ∷ []) })

      pub gone_reads : ReadsWithin v u base (base + 4096 * pages) → ReadsWithin v w base (base + 4096 * pages)
      gone_reads reads = reads_then v u w base (base + 4096 * pages) (base + 4096 * pages) 0 told.found (omega arith) reads (ap (λ (x : View). x.readings) told.view) (inl refl)

      pub gone_kept : KeepsOutside v u base (base + 4096 * pages) → KeepsOutside v w base (base + 4096 * pages)
      gone_kept kept b x out s = subst (λ (y : View). Sees y b x) (sym told.view)
          (off_else base (base + 4096 * pages) b x u.desk.cells out (kept b x out s))

-- ---- a run becomes an area
idle_run : (v : View) (base pages : ℕ) → IsClearedRun v base pages → IsIdleRun v base pages
idle_run v base pages run = record { noted = run.noted; empty = run.empty }

pub run_head : (v : View) (base pages : ℕ) → IsClearedRun v base pages → base % 4096 ≡ 0 → 1 ≤ pages → Builds v base
run_head v base pages run whole some = builds_run v base pages base (idle_run v base pages run) (omega arith) (omega arith) (omega arith)

pub run_cell : (v w : View) (base pages k : ℕ) → IsClearedRun v base pages → base % 4096 ≡ 0 → OnlyCells v w → k < 4096 * pages → k % 4 ≡ 0 → Builds w (base + k)
run_cell v w base pages k run whole only lt al = builds_run w base pages (base + k) (idle_run_only v w base pages only (idle_run v base pages run)) (omega arith) (omega arith) (omega arith)

module _ (key : Start) (v w1 w2 w3 w4 : View) (addr before low high : ℕ) (run : IsClearedRun v addr 1) (whole : addr % 4096 ≡ 0) where
  module _ (s1 : Stores v addr low w1) where
    e1 : w1 ≡ built v addr low
    e1 = s1.page (run_head v addr 1 run whole (omega arith))

    pub area_1 : OnlyCells v w1
    area_1 = only_built v w1 addr low e1

    module _ (s2 : Stores w1 (addr + 4) high w2) where
      e2 : w2 ≡ built w1 (addr + 4) high
      e2 = s2.page (run_cell v w1 addr 1 4 run whole area_1 (omega arith) refl)

      pub area_2 : OnlyCells v w2
      area_2 = only_both v w1 w2 area_1 (only_built w1 w2 (addr + 4) high e2)

      module _ (s3 : Stores w2 (addr + 8) before w3) where
        e3 : w3 ≡ built w2 (addr + 8) before
        e3 = s3.page (run_cell v w2 addr 1 8 run whole area_2 (omega arith) refl)

        pub area_3 : OnlyCells v w3
        area_3 = only_both v w2 w3 area_2 (only_built w2 w3 (addr + 8) before e3)

        module _ (s4 : Stores w3 (addr + 16) 101 w4) where
          e4 : w4 ≡ built w3 (addr + 16) 101
          e4 = s4.page (run_cell v w3 addr 1 16 run whole area_3 (omega arith) refl)

          area_4 : OnlyCells v w4
          area_4 = only_both v w3 w4 area_3 (only_built w3 w4 (addr + 16) 101 e4)

          stays : (b y : ℕ) → (b < addr) ⊎ (addr < b) → (b < addr + 4) ⊎ (addr + 4 < b) → (b < addr + 8) ⊎ (addr + 8 < b) → (b < addr + 16) ⊎ (addr + 16 < b) → Sees v b y → Sees w4 b y
          stays b y n1 n2 n3 n4 s = sees_else w3 w4 (addr + 16) 101 b y e4 n4 (sees_else w2 w3 (addr + 8) before b y e3 n3 (sees_else w1 w2 (addr + 4) high b y e2 n2 (sees_else v w1 addr low b y e1 n1 s)))

          zero : (k : ℕ) → k % 4 ≡ 0 → k < 4096 → (k ≡ 12) ⊎ (16 < k) → Sees w4 (addr + k) 0
          zero k al lt which =
              let s : Sees v (addr + k) 0 = run.clear (addr + k) (omega arith) (omega arith, omega arith) in
              ⊎_elim
              (λ (e : k ≡ 12). stays (addr + k) 0 (inr (omega arith)) (inr (omega arith)) (inr (omega arith)) (inl (omega arith)) s)
              (λ (l : 16 < k). stays (addr + k) 0 (inr (omega arith)) (inr (omega arith)) (inr (omega arith)) (inr (omega arith)) s)
              which

          pub area_built : (before ≡ 0) ⊎ IsAreaAt v.desk.layout.runs before → low ≡ key.secret % 4294967296 → high ≡ key.secret / 4294967296 → AreaBuilt key w4 (plain_run addr 1)
          area_built link is_low is_high =
              let still = idle_run_only v w4 addr 1 area_4 (idle_run v addr 1 run) in
              let check : Sees w4 addr low = sees_else w3 w4 (addr + 16) 101 addr low e4 (inl (omega arith)) (sees_else w2 w3 (addr + 8) before addr low e3 (inl (omega arith)) (sees_else w1 w2 (addr + 4) high addr low e2 (inl (omega arith)) (sees-built v w1 addr low e1))) in
              let check_high : Sees w4 (addr + 4) high = sees_else w3 w4 (addr + 16) 101 (addr + 4) high e4 (inl (omega arith)) (sees_else w2 w3 (addr + 8) before (addr + 4) high e3 (inl (omega arith)) (sees-built w1 w2 (addr + 4) high e2)) in
              record {
                there = still.noted;
                plain = refl;
                page = refl;
                empty = still.empty;
                check = subst (λ n. Sees w4 (addr + 0) n) is_low (subst (λ n. Sees w4 n low) (let e : addr ≡ addr + 0 = omega arith in e) check);
                check_high = subst (λ n. Sees w4 (addr + 4) n) is_high check_high;
                next = before;
                next_known = sees_else w3 w4 (addr + 16) 101 (addr + 8) before e4 (inl (omega arith)) (sees-built w2 w3 (addr + 8) before e3);
                next_is = ⊎_elim (λ (e : before ≡ 0). inl e) (λ (a : IsAreaAt v.desk.layout.runs before). inr (subst (λ (x : View). IsAreaAt x.desk.layout.runs before) (sym area_4.view) a)) link;
                next_high = zero 12 refl (omega arith) (inl refl);
                nslots = sees-built w3 w4 (addr + 16) 101 e4;
                nslots_high = zero 20 refl (omega arith) (inr (omega arith));
                tail = λ b al from to. zero b al to (inr (omega arith));
                metas = λ i lt. subst (λ n. Sees w4 n 0) (let e : addr + (24 + 40 * i + 24) ≡ addr + 24 + 40 * i + 24 = omega arith in e) (zero (24 + 40 * i + 24) (omega arith) (omega arith) (inr (omega arith)));
              }

          module _ (w : View) (told : NotesArea w4 addr w) where
            pub area_view : OnlyCells (with_area v addr) w
            area_view =
                let cs = cells_off addr (addr + 24) (cells_off (addr + 4064) (addr + 4096) w4.desk.cells) in
                let e : w ≡ knowing (with_area v addr) cs (w4.readings ++ (0, told.found) ∷ []) = told.view ∙ ap (λ x. read (area_made x (plain_run addr 1)) 0 told.found) area_4.view in
                subst (OnlyCells (with_area v addr)) (sym e)
                (record { view = refl; came = area_4.came ++ (0, told.found) ∷ []; readings = ap (λ rs. rs ++ (0, told.found) ∷ []) area_4.readings ∙ append_assoc v.readings area_4.came ((0, told.found) ∷ []) })

            -- word 0 was read, at the note
            pub area_reads : (found : ℕ) × (w.readings ≡ v.readings ++ (0, found) ∷ [])
            area_reads =
                let same : w4.readings ≡ v.readings =
                ap (λ (x : View). x.readings) e4 ∙ ap (λ (x : View). x.readings) e3 ∙ ap (λ (x : View). x.readings) e2 ∙ ap (λ (x : View). x.readings) e1 in
                (told.found, ap (λ (x : View). x.readings) told.view ∙ ap (λ (rs : List (ℕ × ℕ)). rs ++ (0, told.found) ∷ []) same)

            noted : (b x : ℕ) → (b < addr) ⊎ (addr + 24 ≤ b) → (b < addr + 4064) ⊎ (addr + 4096 ≤ b) → Sees w4 b x → Sees w b x
            noted b x head tail s = subst (λ (y : View). Sees y b x) (sym told.view) (off_else addr (addr + 24) b x (cells_off (addr + 4064) (addr + 4096) w4.desk.cells) head (off_else (addr + 4064) (addr + 4096) b x w4.desk.cells tail s))

            pub area_metas : AreMetasZero w addr
            area_metas i b lt lb al =
                let s : Sees w4 (addr + 24 + 40 * i + b) 0 = subst (λ n. Sees w4 n 0) (let e : addr + (24 + 40 * i + b) ≡ addr + 24 + 40 * i + b = omega arith in e) (zero (24 + 40 * i + b) (omega arith) (omega arith) (inr (omega arith))) in
                noted (addr + 24 + 40 * i + b) 0 (inr (omega arith)) (inl (omega arith)) s

            pub area_kept : KeepsOutside v w addr (addr + 4096)
            area_kept b x out s = ⊎_elim
                (λ (l : b < addr). noted b x (inl l) (inl (omega arith)) (stays b x (inl l) (inl (omega arith)) (inl (omega arith)) (inl (omega arith)) s))
                (λ (l : addr + 4096 ≤ b). noted b x (inr (omega arith)) (inr l) (stays b x (inr (omega arith)) (inr (omega arith)) (inr (omega arith)) (inr (omega arith)) s))
                out

-- the secret's low cell, as it is computed
pub low_half_is : (n : ℕ) → bit_and n 4294967295 ≡ n % 4294967296
low_half_is n = and_mask n 32
