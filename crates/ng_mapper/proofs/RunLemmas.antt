-- Runs in the order of their addresses: one put in, one taken out, and how many there may be.
use Rattle.std.proofs.Common.{ℕ, zero, suc, ◌≡◌, ◌+◌, ◌*◌, ◌-◌, ◌<◌, ◌≤◌, ◌∙◌, inl, inr, ⊎_elim, sym, subst, ap, arith, List, ◌∷◌, length, insert, remove, Contains, slice_index_or}
use Rattle.std.specs.List.{AllPairs}
use Rattle.std.proofs.lemmas.Bool.{cases_lt}
use Rattle.std.proofs.lemmas.List.{get_or_default}
use Rattle.std.proofs.lemmas.List.Edits.{length-insert, get_or-insert_at, get_or-insert_below, get_or-insert_above}
use Rattle.std.proofs.lemmas.List.Elements.{All-cons, All-tail, All-from_get_or}
use Rattle.std.proofs.lemmas.List.Quantifiers.{all_pairs_remove}
use Rattle.std.proofs.lemmas.List.Sorted.{IsPermutation-insert, IsPermutation-remove, IsPermutation-sym, All-permutation}
use Rattle.std.proofs.Math.Nat.{eq-or-lt_of_le}
use Rattle.ng_mapper.specs.Runs.{Run, run_end, AreApart, LiesIn}
use Rattle.ng_mapper.specs.Mapping.{Span, IsFree}
use Rattle.ng_mapper.specs.Holes.{whole, HasNoHole}
use Rattle.ng_mapper.specs.InOrder.{AreInOrder, EndsBefore, Fits, run_of}

-- ---- the runs before one take their pages

pub pages_before : (span : Span) (runs : List Run) → AreInOrder span runs
    → (k : ℕ) → k < length runs → span.lower + 4096 * k ≤ (run_of runs k).0
pages_before span runs are zero within =
    let lies = are.lie zero (0, 0) within in
    omega (arith, lies.above)
pages_before span runs are (suc k) within =
    let before : span.lower + 4096 * k ≤ (run_of runs k).0 = pages_before span runs are k (omega arith) in
    let some : 1 ≤ (run_of runs k).1 = (are.lie k (0, 0) (omega arith)).some in
    let apart : run_end (run_of runs k) ≤ (run_of runs (suc k)).0 = are.ordered k (suc k) (0, 0) (omega arith) within in
    omega arith

-- ---- a run put into its place

-- the order of two runs, read at any default
ordered-any_default : (runs : List Run)
    → ((i j : ℕ) → i < j → j < length runs → EndsBefore (run_of runs i) (run_of runs j))
    → AllPairs EndsBefore runs
ordered-any_default runs ordered i j d before within =
    let first = get_or_default runs i (0, 0) d (omega arith) in
    let second = get_or_default runs j (0, 0) d within in
    subst (λ (a : Run). EndsBefore a (slice_index_or runs j d)) first
    (subst (λ (b : Run). EndsBefore (run_of runs i) b) second (ordered i j before within))

-- where an index stands to the new run's place
data Side (k next : ℕ) : Type 0 where
  below : k < next → Side k next
  here : k ≡ next → Side k next
  above : next < k → Side k next

side_of : (k next : ℕ) → Side k next
side_of k next = ⊎_elim
    (λ h. below h)
    (λ h. ⊎_elim (λ (e : next ≡ k). here (sym e)) (λ g. above g) (eq-or-lt_of_le h))
    (cases_lt k next)

module _ (span : Span) (runs : List Run) (pages at next : ℕ) (are : AreInOrder span runs) (fits : Fits span runs pages at next) where
  -- the runs with the new one
  abbrev now : List Run
  now = insert runs next (at, pages)

  run_below : (k : ℕ) → k < next → run_of now k ≡ run_of runs k
  run_below k h = get_or-insert_below runs next (at, pages) (0, 0) k h fits.place

  run_here : run_of now next ≡ (at, pages)
  run_here = get_or-insert_at runs next (at, pages) (0, 0) fits.place

  run_above : (k : ℕ) → next < k → run_of now k ≡ run_of runs (k - 1)
  run_above k h =
      let e : k ≡ (k - 1) + 1 = omega arith in
      subst (λ (m : ℕ). run_of now m ≡ run_of runs (k - 1)) (sym e)
      (get_or-insert_above runs next (at, pages) (0, 0) (k - 1) (omega arith) fits.place)

  ends_before : (i j : ℕ) → i < j → j < length runs + 1 → Side i next → Side j next
      → EndsBefore (run_of now i) (run_of now j)
  ends_before i j lt within (below a) (below b) =
      let le = fits.place in
      rw (run_below i a, run_below j b) (are.ordered i j (0, 0) lt (omega arith))
  ends_before i j lt within (below a) (here b) = rw (run_below i a, b, run_here) (fits.before i a)
  ends_before i j lt within (below a) (above b) =
      rw (run_below i a, run_above j b) (are.ordered i (j - 1) (0, 0) (omega arith) (omega arith))
  ends_before i j lt within (here a) (below b) = absurd (omega arith)
  ends_before i j lt within (here a) (here b) = absurd (omega arith)
  ends_before i j lt within (here a) (above b) =
      rw (a, run_here, run_above j b) (fits.behind (j - 1) (omega arith) (omega arith))
  ends_before i j lt within (above a) (below b) = absurd (omega arith)
  ends_before i j lt within (above a) (here b) = absurd (omega arith)
  ends_before i j lt within (above a) (above b) =
      rw (run_above i a, run_above j b) (are.ordered (i - 1) (j - 1) (0, 0) (omega arith) (omega arith))

  pub ordered-insert : AreInOrder span (insert runs next (at, pages))
  ordered-insert =
      let lies = LiesIn span.lower span.upper in
      record {
        lie = All-permutation lies ((at, pages) ∷ runs) now (IsPermutation-insert runs next (at, pages))
            (All-cons lies (at, pages) runs fits.lies are.lie);
        ordered = ordered-any_default now (λ i j before within.
            let len = length-insert runs next (at, pages) fits.place in
            ends_before i j before (omega arith) (side_of i next) (side_of j next));
      }

  pub free-fits : IsFree span runs (at, pages)
  free-fits = record {
    lies = fits.lies;
    apart = All-from_get_or (AreApart (at, pages)) runs (0, 0) (λ k within. ⊎_elim
        (λ (h : k < next). inr (fits.before k h))
        (λ (h : next ≤ k). inl (fits.behind k h within))
        (cases_lt k next));
  }

-- a page is left when one run more stands in its place
pub room-insert : (size : ℕ) (runs : List Run) (pages at next : ℕ)
    → AreInOrder (whole size) runs → Fits (whole size) runs pages at next → length runs + 2 ≤ size
room-insert size runs pages at next are fits =
    let now = insert runs next (at, pages) in
    let still : AreInOrder (whole size) now = ordered-insert (whole size) runs pages at next are fits in
    let len : length now ≡ length runs + 1 = length-insert runs next (at, pages) fits.place in
    let before : 4096 + 4096 * length runs ≤ (run_of now (length runs)).0 =
    pages_before (whole size) now still (length runs) (omega arith) in
    let last : LiesIn 4096 (4096 * size) (run_of now (length runs)) = still.lie (length runs) (0, 0) (omega arith) in
    let some : 1 ≤ (run_of now (length runs)).1 = last.some in
    let end : run_end (run_of now (length runs)) ≤ 4096 * size = last.below in
    omega arith

-- ---- a run that goes

pub ordered-remove : (span : Span) (runs : List Run) → AreInOrder span runs
    → (i : ℕ) → i < length runs → AreInOrder span (remove runs i)
ordered-remove span runs are i within =
    let lies = LiesIn span.lower span.upper in
    let this = run_of runs i in
    let moved = IsPermutation-remove runs i this within (get_or_default runs i (0, 0) this within) in
    record {
      lie = All-tail lies this (remove runs i) (All-permutation lies runs (this ∷ remove runs i) moved are.lie);
      ordered = all_pairs_remove EndsBefore runs i within are.ordered;
    }

-- ---- runs by their addresses

module _ (span : Span) (runs : List Run) (are : AreInOrder span runs) where
  -- a run doesn't begin where an earlier one does
  begins_behind : (i j : ℕ) → i < j → j < length runs → (run_of runs i).0 ≡ (run_of runs j).0 → ⊥
  begins_behind i j before within begins =
      let some = (are.lie i (0, 0) (omega arith)).some in
      let apart = are.ordered i j (0, 0) before within in
      omega arith

  begins_once : (i j : ℕ) → i < length runs → j < length runs → (run_of runs i).0 ≡ (run_of runs j).0 → i ≡ j
  begins_once i j a b begins = ⊎_elim
      (λ (h : i < j). absurd (begins_behind i j h b begins))
      (λ (h : j ≤ i). ⊎_elim
      (λ (e : j ≡ i). sym e)
      (λ (g : j < i). absurd (begins_behind j i g a (sym begins)))
      (eq-or-lt_of_le h))
      (cases_lt i j)

  -- the live run that begins where the run of this index does is that one
  pub run-once : (run : Run) → Contains runs run
      → (k : ℕ) → k < length runs → (run_of runs k).0 ≡ run.0 → run ≡ slice_index_or runs k run
  run-once run (j, within, is) k inside begins =
      let there : run_of runs j ≡ run = get_or_default runs j (0, 0) run within ∙ is in
      let one : k ≡ j = begins_once k j inside within (begins ∙ ap (λ (r : Run). r.0) (sym there)) in
      sym is ∙ ap (λ (m : ℕ). slice_index_or runs m run) (sym one)

-- ---- no hole

-- a run more leaves no hole where there was none
pub no_hole-insert : (span : Span) (runs : List Run) (next : ℕ) (run : Run) (pages : ℕ)
    → HasNoHole span runs pages → HasNoHole span (insert runs next run) pages
no_hole-insert span runs next run pages none at free =
    let now = insert runs next run in
    let apart = AreApart (at, pages) in
    let back = IsPermutation-sym (run ∷ runs) now (IsPermutation-insert runs next run) in
    none at (record {
      lies = free.lies;
      apart = All-tail apart run runs (All-permutation apart now (run ∷ runs) back free.apart);
    })

-- the whole space can't be had, since its first page is never given
pub no_hole-whole : (size : ℕ) (runs : List Run) → HasNoHole (whole size) runs size
no_hole-whole size runs at free =
    let above = free.lies.above in
    let below = free.lies.below in
    omega arith
