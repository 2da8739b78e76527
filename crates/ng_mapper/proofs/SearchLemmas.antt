-- What a binary search finds among runs in the order of their addresses.
use Rattle.std.proofs.Common.{◌≡◌, ◌≢◌, ℕ, ◌<◌, ◌≤◌, length, Result, Ok, Err, IfSome, IfNone, ⊎_elim, List, All, sym, ap, arith}
use Rattle.std.specs.List.{AllPairs}
use Rattle.std.specs.List.Sorted.{IsSearchInRange, IsBinarySearchResult, IsNonDecreasingBy}
use Rattle.std.specs.Result.{result_ok}
use Rattle.std.specs.Ordering.{nat_cmp, ordering_index}
use Rattle.std.proofs.lemmas.Bool.{cases_lt}
use Rattle.std.proofs.lemmas.Bool.Decides.{nat_tests}
use Rattle.std.proofs.lemmas.Cmp.{ranked}
use Rattle.std.proofs.lemmas.List.Elements.{All-from_get_or}
use Rattle.std.proofs.lemmas.List.Sorted.{IsNonDecreasingBy-from_default}
use Rattle.ng_mapper.specs.Runs.{Run}
use Rattle.ng_mapper.specs.InOrder.{EndsBefore, run_of}

module _ (runs : List Run) (ordered : AllPairs EndsBefore runs) (addr : ℕ) where
  -- the comparisons with an address rise along the list, as a binary search asks
  comparisons_rise : IsNonDecreasingBy (λ run. ordering_index (nat_cmp run.0 addr)) runs
  comparisons_rise =
      IsNonDecreasingBy-from_default (λ run. ordering_index (nat_cmp run.0 addr)) runs (0, 0) (λ i j le within.
      let same : i ≡ j → (run_of runs i).0 ≡ (run_of runs j).0 = ap (λ (k : ℕ). (run_of runs k).0) in
      let rise : (run_of runs i).0 ≤ (run_of runs j).0 = grind (arith, ordered i j (0, 0), same) in
      grind (arith, nat_tests))

  -- the search ends at the run that begins there, or no run does
  pub searched : (r : Result ℕ ℕ) → IsSearchInRange r (length runs)
      → IsBinarySearchResult (λ run. nat_cmp run.0 addr) runs r
      → record {
        within : IfSome (result_ok r) (λ k. k < length runs);
        begins : IfSome (result_ok r) (λ k. (run_of runs k).0 ≡ addr);
        none : IfNone (result_ok r) (All (λ run. run.0 ≢ addr) runs);
      }
  searched (Ok at) within equal =
      record { within = within; begins = ranked _ addr _ (sym (equal (0, 0))); none = tt }
  searched (Err at) within parted =
      let parts = parted comparisons_rise in
      let less = λ (k : ℕ) (h : k < at). ranked (run_of runs k).0 addr _ (sym (parts.0 k (0, 0) (omega arith) h)) in
      let more = λ (k : ℕ) (h : at ≤ k) (inside : k < length runs).
      ranked (run_of runs k).0 addr _ (sym (parts.1 k (0, 0) h inside)) in
      record {
        within = tt;
        begins = tt;
        none = All-from_get_or (λ run. run.0 ≢ addr) runs (0, 0) (λ k inside. ⊎_elim
            (λ (h : k < at). let less : (run_of runs k).0 < addr = less k h in λ same. omega arith)
            (λ (h : at ≤ k). let more : addr < (run_of runs k).0 = more k h inside in λ same. omega arith)
            (cases_lt k at));
      }
