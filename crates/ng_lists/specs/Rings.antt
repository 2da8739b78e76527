-- Rings of metas, as lists of their addresses.
use Rattle.std.specs.Prelude.{ℕ, ◌==◌, List, [], ◌∷◌, ◌++◌, Any, Contains, slice_index, slice_index_or, slice_set}
use Rattle.std.specs.List.{before_first, after_first}

-- what contracts see: the ring of each class from its first meta on, and the pages of the space
pub record RingTable : Type 0 where
  pub rings : List (List ℕ)
  pub pages : ℕ

-- the ring of a class
abbrev pub ring_of : RingTable → ℕ → List ℕ
ring_of table class = slice_index_or table.rings class []

-- the same table with another ring of one class
abbrev pub with_ring : RingTable → ℕ → List ℕ → RingTable
with_ring table class ring = record table { rings = slice_set table.rings class ring }

-- the meta is in some ring
abbrev pub IsListed : RingTable → ℕ → Type 0
IsListed table meta = Any (λ ring. Contains ring meta) table.rings

-- no meta is in both rings
abbrev pub AreApart : List ℕ → List ℕ → Type 0
AreApart ring other = (meta : ℕ) → Contains ring meta → ¬ Contains other meta

-- the metas before one in its ring
abbrev pub before : ℕ → List ℕ → List ℕ
before meta ring = before_first (λ other. other == meta) ring

-- the metas after one in its ring
abbrev pub after : ℕ → List ℕ → List ℕ
after meta ring = after_first (λ other. other == meta) ring

-- the ring without one of its metas
abbrev pub without : ℕ → List ℕ → List ℕ
without meta ring = before meta ring ++ after meta ring

-- the ring from one of its metas on
abbrev pub rotated : ℕ → List ℕ → List ℕ
rotated meta ring = meta ∷ after meta ring ++ before meta ring

-- the meta after one in its ring, which is the first after the last
abbrev pub next_in : List ℕ → ℕ → ℕ
next_in ring meta = slice_index (after meta ring ++ ring) 0
