-- Rings as arrays of links between the metas' indices. No public clause cites this module.
use Rattle.std.specs.Prelude.{ℕ, zero, suc, ◌≡◌, ◌≢◌, ◌+◌, ◌*◌, ◌<◌, ◌≤◌, ◌==◌, List, [], ◌∷◌, All, AllPairs, Contains, count_by, length, map, slice_index}
use Rattle.ng_lists.specs.Place.{address_at}
use Rattle.ng_lists.specs.Rings.{RingTable}

-- n indices from one on, each with the next
abbrev pub walk : List ℕ → ℕ → ℕ → List ℕ
walk next zero at = []
walk next (suc n) at = at ∷ walk next n (slice_index next at)

-- how many metas have the mark of a class
abbrev pub members : List ℕ → ℕ → ℕ
members marks class = count_by (λ mark. mark == class + 1) marks

-- the ring of a class that begins with a head, by its indices
abbrev pub ring_at : List ℕ → List ℕ → ℕ → ℕ → List ℕ
ring_at next marks class head = walk next (members marks class) head

-- the rings of the classes from one on, by their addresses
abbrev pub rings_from : List ℕ → List ℕ → ℕ → List ℕ → List (List ℕ)
rings_from next marks class [] = []
rings_from next marks class (head ∷ heads) =
    map address_at (ring_at next marks class head) ∷ rings_from next marks (class + 1) heads

-- what contracts see of the arrays
abbrev pub table_of : List ℕ → List ℕ → List ℕ → ℕ → RingTable
table_of heads next marks pages = record { rings = rings_from next marks 0 heads; pages = pages }

-- one index is linked to another in both directions
pub record AreLinked (next prev : List ℕ) (from to : ℕ) : Type 0 where
  pub forth : slice_index next from ≡ to
  pub back : slice_index prev to ≡ from

-- links lead from one index by those of a list to another
abbrev pub IsChain : List ℕ → List ℕ → ℕ → List ℕ → ℕ → Type 0
IsChain next prev from [] to = AreLinked next prev from to
IsChain next prev from (x ∷ xs) to = AreLinked next prev from x × IsChain next prev x xs to

-- links lead from the head by the other indices of a list to the head again
abbrev pub IsCircle : List ℕ → List ℕ → ℕ → List ℕ → Type 0
IsCircle next prev head [] = Unit {0}
IsCircle next prev head (x ∷ xs) = (head ≡ x) × IsChain next prev x xs x

-- the list is the ring of a class that begins with the head: all that has its mark, once, and linked
pub record IsRing (next prev marks : List ℕ) (head class : ℕ) (ring : List ℕ) : Type 0 where
  pub circle : IsCircle next prev head ring
  pub marked : All (λ index. slice_index marks index ≡ class + 1) ring
  pub distinct : AllPairs (λ index other. index ≢ other) ring
  pub found : (index : ℕ) → slice_index marks index ≡ class + 1 → Contains ring index
  pub counted : members marks class ≡ length ring

-- the arrays hold a ring for each class, over the metas of a space's pages
pub record IsSound (heads next prev marks : List ℕ) (pages : ℕ) : Type 0 where
  pub least : 16 ≤ pages
  pub greatest : pages ≤ 16384
  pub classes : length heads ≡ 48
  pub nexts : length next ≡ 101 * pages
  pub prevs : length prev ≡ 101 * pages
  pub all_marks : length marks ≡ 101 * pages
  pub inside : (class : ℕ) → class < 48 → slice_index heads class < 101 * pages
  pub known : (index : ℕ) → slice_index marks index ≤ 48
  pub placed : (index : ℕ) → 0 < slice_index marks index → 101 ≤ index
  pub rings : (class : ℕ) → class < 48
      → IsRing next prev marks (slice_index heads class) class
      (ring_at next marks class (slice_index heads class))
