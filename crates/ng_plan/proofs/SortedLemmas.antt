-- Names in order, each once.
use Rattle.std.proofs.Common.{◌≡◌, ℕ, List, eqb}
use Rattle.std.specs.Prelude.{Contains}
use Rattle.std.specs.List.{dedup}
use Rattle.std.specs.List.Sorted.{IsSorted, IsPermutation}
use Rattle.std.specs.Ordering.{nat_cmp}
use Rattle.std.proofs.lemmas.List.Kept.{AllPairs-from_increasing, Contains-dedup_nat}
use Rattle.std.proofs.lemmas.List.Sorted.{Contains-permutation}
use Rattle.std.proofs.lemmas.Map.Keys.{IsStrictlyIncreasing-dedup}
use Rattle.ng_plan.specs.Tables.{Rises}

pub rises : (sorted names : List ℕ) → IsSorted nat_cmp sorted → names ≡ dedup eqb sorted → Rises names
rises sorted names order is = rw is (record { order = λ i j below within. AllPairs-from_increasing (dedup eqb sorted) (IsStrictlyIncreasing-dedup sorted order) i j 0 below within })

pub still_known : (names sorted left : List ℕ) (name : ℕ) → IsPermutation names sorted → left ≡ dedup eqb sorted → Contains names name → Contains left name
still_known names sorted left name moved is known = rw is (Contains-dedup_nat sorted name (Contains-permutation names sorted name moved known))
