-- What the lock's seat knows after it loads, stores and clears cells.
use Rattle.std.proofs.Common.{◌≡◌, ◌≢◌, ◌⊎◌, ℕ, ◌+◌, ◌*◌, ◌%◌, ◌<◌, ◌≤◌, List, [], ◌∷◌, ◌++◌, refl, sym, ap, ◌∙◌, subst, ⊎_elim, inl, inr, append_assoc, append-nil, arith}
use Rattle.std.proofs.lemmas.Bool.{cases_eq, cases_lt}
use Rattle.ng_view.specs.Conditions.{Builds, IsMetaCell, IsRunCell, Sees}
use Rattle.ng_view.specs.Layouts.{InArea}
use Rattle.ng_view.specs.LockSteps.{built, learnt_free}
use Rattle.ng_view.specs.Lists.{Among}
use Rattle.ng_view.specs.Steps.{read}
use Rattle.ng_view.specs.declared.view.Layout.{Layout}
use Rattle.ng_view.specs.declared.view.View.{View}
use Rattle.ng_view.specs.Loads.{Loads}
use Rattle.ng_view.specs.Notes.{plain_run}
use Rattle.ng_view.specs.Stores.{Stores}
use Rattle.ng_rule.proofs.lock.Knowing.{sees-built, sees-built_else}
use Rattle.ng_build.specs.Cells.{AreZero, BuildsAll, IsIdleMeta, IsIdleRun, KeepsOutside, OnlyCells, ReadsWithin, knowing}

-- ---- views that differ in known cells and readings
pub only_none : (v : View) → OnlyCells v v
only_none v = record { view = refl; came = []; readings = sym (append-nil v.readings) }

pub only_both : (v w u : View) → OnlyCells v w → OnlyCells w u → OnlyCells v u
only_both v w u a b = record {
  view = b.view ∙ ap (λ x. knowing x u.desk.cells u.readings) a.view;
  came = a.came ++ b.came;
  readings = b.readings ∙ ap (λ rs. rs ++ b.came) a.readings ∙ append_assoc v.readings a.came b.came;
}

-- a view by its cells, with one more reading
pub only_read : (v u : View) (cs : List (ℕ × ℕ)) (a n : ℕ) → u ≡ knowing v cs (v.readings ++ (a, n) ∷ []) → OnlyCells v u
only_read v u cs a n e = subst (OnlyCells v) (sym e) (record { view = refl; came = (a, n) ∷ []; readings = refl })

pub only_built : (v u : View) (a x : ℕ) → u ≡ built v a x → OnlyCells v u
only_built v u a x e = subst (OnlyCells v) (sym e) (record { view = refl; came = []; readings = sym (append-nil v.readings) })

-- a view by its own cells
pub by_cells : (v w : View) (cs rs : List (ℕ × ℕ)) → w ≡ knowing v cs rs → w ≡ knowing v w.desk.cells rs
by_cells v w cs rs e = e ∙ ap (λ c. knowing v c rs) (sym (ap (λ (x : View). x.desk.cells) e))

-- ---- the cells that the seat builds stay so
pub builds_same : (v w : View) (a : ℕ) → w.desk.layout ≡ v.desk.layout → w.desk.groups ≡ v.desk.groups → Builds v a → Builds w a
builds_same v w a layout groups b = (
  b.0,
  ⊎_elim
      (λ (c : IsRunCell v a). inl (record { run = c.run; noted = subst (λ (d : Layout). Among c.run d.runs) (sym layout) c.noted; plain = c.plain; inside = c.inside; free = λ g t. c.free g (subst (Among g) groups t) }))
      (λ (c : IsMetaCell v a). inr (record { meta = c.meta; whole = c.whole; in_area = subst (λ (d : Layout). InArea d c.meta) (sym layout) c.in_area; unborn = λ g t. c.unborn g (subst (Among g) groups t); from = c.from; below = c.below }))
      b.1,
)

pub builds_only : (v w : View) (a : ℕ) → OnlyCells v w → Builds v a → Builds w a
builds_only v w a o = builds_same v w a (ap (λ (x : View). x.desk.layout) o.view) (ap (λ (x : View). x.desk.groups) o.view)

pub builds_meta : (v : View) (meta a : ℕ) → meta % 4 ≡ 0 → IsIdleMeta v meta → a % 4 ≡ 0 → meta ≤ a → a < meta + 40 → Builds v a
builds_meta v meta a whole idle al low high = (al, inr (record { meta = meta; whole = whole; in_area = idle.area; unborn = idle.unborn; from = low; below = high }))

pub builds_run : (v : View) (base pages a : ℕ) → IsIdleRun v base pages → a % 4 ≡ 0 → base ≤ a → a < base + 4096 * pages → Builds v a
builds_run v base pages a idle al low high = (al, inl (record { run = plain_run base pages; noted = idle.noted; plain = refl; inside = (low, high); free = idle.empty }))

-- ---- words are read in a range

abbrev IsWithin : ℕ → ℕ → List (ℕ × ℕ) → Type 0
IsWithin from to words = (word : ℕ × ℕ) → Among {A = ℕ × ℕ} word words → (word.0 ≡ 0) ⊎ ((from ≤ word.0) × (word.0 < to))

-- also in a greater one
pub within_more : (from to bottom top : ℕ) (words : List (ℕ × ℕ)) → bottom ≤ from → to ≤ top → IsWithin from to words → IsWithin bottom top words
within_more from to bottom top words low less known word there = ⊎_elim
    (λ (none : word.0 ≡ 0). inl none)
    (λ (range : (from ≤ word.0) × (word.0 < to)). inr (omega (arith, range.0), omega (arith, range.1)))
    (known word there)

-- and one word more is
pub within_then : (from to : ℕ) (words : List (ℕ × ℕ)) (a x : ℕ) → IsWithin from to words → (a ≡ 0) ⊎ ((from ≤ a) × (a < to)) → IsWithin from to (words ++ (a, x) ∷ [])
within_then from to [] a x known last word (inl e) = subst (λ n. (n ≡ 0) ⊎ ((from ≤ n) × (n < to))) (sym (ap (λ (p : ℕ × ℕ). p.0) e)) last
within_then from to [] a x known last word (inr there) = elim there [ ]
within_then from to (y ∷ words) a x known last word (inl e) = known word (inl e)
within_then from to (y ∷ words) a x known last word (inr there) = within_then from to words a x (λ other s. known other (inr s)) last word there

-- and more words of that range are
pub within_both : (from to : ℕ) (words more : List (ℕ × ℕ)) → IsWithin from to words → IsWithin from to more → IsWithin from to (words ++ more)
within_both from to [] more known others word there = others word there
within_both from to (y ∷ words) more known others word (inl e) = known word (inl e)
within_both from to (y ∷ words) more known others word (inr there) = within_both from to words more (λ other s. known other (inr s)) others word there

pub reads_then : (v w u : View) (from to top a x : ℕ) → to ≤ top → ReadsWithin v w from to → u.readings ≡ w.readings ++ (a, x) ∷ [] → (a ≡ 0) ⊎ ((from ≤ a) × (a < top)) → ReadsWithin v u from top
reads_then v w u from to top a x less reads more last = record {
  words = reads.words ++ (a, x) ∷ [];
  readings = more ∙ ap (λ rs. rs ++ (a, x) ∷ []) reads.readings ∙ append_assoc v.readings reads.words ((a, x) ∷ []);
  within = within_then from top reads.words a x (within_more from to from top reads.words (omega arith) less reads.within) last;
}

-- ---- cells are cleared one by one
pub record Clears (v : View) (from to : ℕ) (w : View) : Type 0 where
  pub view : OnlyCells v w
  pub zero : AreZero w from to
  pub kept : KeepsOutside v w from to
  pub reads : ReadsWithin v w from to

pub clears_none : (v : View) (from : ℕ) → Clears v from (from + 4 * 0) v
clears_none v from = record { view = only_none v; zero = λ b al low high. absurd (omega arith); kept = λ b x out s. s; reads = record { words = []; readings = sym (append-nil v.readings); within = λ word there. elim there [ ] } }

-- two ranges, one behind the other
clears_both : (v w u : View) (from mid to : ℕ) → from ≤ mid → mid ≤ to → Clears v from mid w → Clears w mid to u → Clears v from to u
clears_both v w u from mid to low high a b = record {
  view = only_both v w u a.view b.view;
  zero = λ c al above below. ⊎_elim
      (λ (l : c < mid). b.kept c 0 (inl l) (a.zero c al above l))
      (λ (l : mid ≤ c). b.zero c al l below)
      (cases_lt c mid);
  kept = λ c x out s. ⊎_elim
      (λ (l : c < from). b.kept c x (inl (omega arith)) (a.kept c x (inl l) s))
      (λ (l : to ≤ c). b.kept c x (inr l) (a.kept c x (inr (omega arith)) s))
      out;
  reads = record {
    words = a.reads.words ++ b.reads.words;
    readings = b.reads.readings ∙ ap (λ rs. rs ++ b.reads.words) a.reads.readings ∙ append_assoc v.readings a.reads.words b.reads.words;
    within = within_both from to a.reads.words b.reads.words
        (within_more from mid from to a.reads.words (omega arith) high a.reads.within)
        (within_more mid to from to b.reads.words low (omega arith) b.reads.within);
  };
}

-- one block of eight cells more
pub clears_block : (v w u : View) (from k : ℕ) → Clears v from (from + 32 * k) w → Clears w (from + 32 * k) (from + 32 * k + 32) u → Clears v from (from + 32 * (k + 1)) u
clears_block v w u from k before block =
    subst (λ to. Clears v from to u) (omega arith) (clears_both v w u from (from + 32 * k) (from + 32 * k + 32) (omega arith) (omega arith) before block)

-- one more cell is known to be 0, and of the others what was known still is
one_more : (v w u : View) (from k x : ℕ) → from % 4 ≡ 0 → Clears v from (from + 4 * k) w → OnlyCells w u → u.readings ≡ w.readings ++ (from + 4 * k, x) ∷ [] → Sees u (from + 4 * k) 0 → ((b x : ℕ) → b ≢ from + 4 * k → Sees w b x → Sees u b x)
    → Clears v from (from + 4 * (k + 1)) u
one_more v w u from k x whole c only more here others = record {
  view = only_both v w u c.view only;
  zero = λ b al low high. ⊎_elim
      (λ (e : b ≡ from + 4 * k). subst (λ n. Sees u n 0) (sym e) here)
      (λ (ne : b ≢ from + 4 * k). others b 0 ne (c.zero b al low (⊎_elim (λ (l : b < from + 4 * k). l) (λ (l : from + 4 * k ≤ b). absurd (ne (omega arith))) (cases_lt b (from + 4 * k)))))
      (cases_eq b (from + 4 * k));
  kept = λ b x out s. ⊎_elim
      (λ (l : b < from). others b x (λ q. omega arith) (c.kept b x (inl l) s))
      (λ (l : from + 4 * (k + 1) ≤ b). others b x (λ q. omega arith) (c.kept b x (inr (omega arith)) s))
      out;
  reads = reads_then v w u from (from + 4 * k) (from + 4 * (k + 1)) (from + 4 * k) x (omega arith) c.reads more (inr (omega arith, omega arith));
}

module _ (v w : View) (from cells k : ℕ) (whole : from % 4 ≡ 0) (all : BuildsAll v from (from + 4 * cells)) (c : Clears v from (from + 4 * k) w) (less : k < cells) where
  builds_next : Builds w (from + 4 * k)
  builds_next = builds_only v w (from + 4 * k) c.view (all (from + 4 * k) (omega arith) (omega arith) (omega arith))

  module _ (u : View) (x : ℕ) (told : Loads w (from + 4 * k) x u) where
    loaded : u ≡ read (learnt_free w (from + 4 * k) x) (from + 4 * k) x
    loaded = told.page builds_next

    only_loaded : OnlyCells w u
    only_loaded = only_read w u ((from + 4 * k, x) ∷ w.desk.cells) (from + 4 * k) x loaded

    pub builds_loaded : Builds u (from + 4 * k)
    builds_loaded = builds_only w u (from + 4 * k) only_loaded builds_next

    still : (b y : ℕ) → Sees w b y → Sees u b y
    still b y s = subst (λ (z : View). Sees z b y) (sym loaded) (inr s)

    -- the cell was 0
    pub clears_load : x ≡ 0 → Clears v from (from + 4 * (k + 1)) u
    clears_load none = one_more v w u from k x whole c only_loaded (ap (λ (z : View). z.readings) loaded) (subst (λ (z : View). Sees z (from + 4 * k) 0) (sym loaded) (inl (ap (λ (y : ℕ). (from + 4 * k, y)) (sym none)))) (λ b y ne. still b y)

    -- it wasn't
    pub clears_store : (t : View) → Stores u (from + 4 * k) 0 t → Clears v from (from + 4 * (k + 1)) t
    clears_store t told =
        let e = told.page builds_loaded in
        one_more v w t from k x whole c (only_both w u t only_loaded (only_built u t (from + 4 * k) 0 e)) (ap (λ (z : View). z.readings) e ∙ ap (λ (z : View). z.readings) loaded) (sees-built u t (from + 4 * k) 0 e)
        (λ b y ne s. sees-built_else u t (from + 4 * k) 0 b y e ne (still b y s))

-- ---- what stays with other cells
pub idle_run_only : (v w : View) (base pages : ℕ) → OnlyCells v w → IsIdleRun v base pages → IsIdleRun w base pages
idle_run_only v w base pages o idle = subst (λ (x : View). IsIdleRun x base pages) (sym o.view) (record { noted = idle.noted; empty = idle.empty })

pub idle_meta_only : (v w : View) (meta : ℕ) → OnlyCells v w → IsIdleMeta v meta → IsIdleMeta w meta
idle_meta_only v w meta o idle = subst (λ (x : View). IsIdleMeta x meta) (sym o.view) (record { area = idle.area; unborn = idle.unborn })

-- the cells of a range that other stores leave
pub sees_else : (v w : View) (a x b y : ℕ) → w ≡ built v a x → (b < a) ⊎ (a < b) → Sees v b y → Sees w b y
sees_else v w a x b y e apart = sees-built_else v w a x b y e (λ q. ⊎_elim (λ (l : b < a). omega arith) (λ (l : a < b). omega arith) apart)
