-- A queue as an array of links between the metas' indices. No public clause cites this module.
use Rattle.std.specs.Prelude.{ℕ, suc, ◌≡◌, ◌≢◌, ◌*◌, ◌<◌, ◌≤◌, ◌==◌, not, List, All, AllPairs, Contains, count_by, length, map, slice_index}
use Rattle.ng_lists.specs.Arrays.{walk}
use Rattle.ng_lists.specs.Place.{address_at}
use Rattle.ng_shelf.specs.FreeMetas.{FreeList}

-- how many indices have a link
abbrev pub linked : List ℕ → ℕ
linked after = count_by (λ next. not (next == 0)) after

-- the indices in the queue, from the first one on
abbrev pub queue_at : List ℕ → ℕ → List ℕ
queue_at after first = walk after (linked after) first

-- what contracts see of the array
abbrev pub list_of : List ℕ → ℕ → ℕ → FreeList
list_of after first pages = record { metas = map address_at (queue_at after first); pages = pages }

-- the array holds a queue of metas of a space's pages: all that have a link, once
pub record IsQueue (after : List ℕ) (first last pages : ℕ) : Type 0 where
  pub least : 16 ≤ pages
  pub greatest : pages ≤ 16384
  pub sized : length after ≡ 101 * pages
  pub first_inside : first < 101 * pages
  pub last_inside : last < 101 * pages
  pub inside : (index : ℕ) → slice_index after index < 101 * pages
  pub placed : (index : ℕ) → slice_index after index ≢ 0 → 101 ≤ index
  pub marked : All (λ index. slice_index after index ≢ 0) (queue_at after first)
  pub distinct : AllPairs (λ index other. index ≢ other) (queue_at after first)
  pub found : (index : ℕ) → slice_index after index ≢ 0 → Contains (queue_at after first) index
  pub ends : (before : ℕ) → linked after ≡ suc before → slice_index (queue_at after first) before ≡ last
