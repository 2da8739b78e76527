-- The metas that have no group: those that were returned, and those of the newest area that were never used.
use Rattle.std.specs.Prelude.{ℕ, zero, suc, List, [], ◌∷◌, ◌++◌, drop}
use Rattle.ng_meta.specs.Place.{meta_place}

-- what contracts see: the returned metas, the one returned longest ago first; the unused ones; the address of the newest
-- area, or 0; and the pages of the space
pub record Stock : Type 0 where
  pub returned : List ℕ
  pub unused : List ℕ
  pub area : ℕ
  pub pages : ℕ

-- the metas in the order in which they are taken
abbrev pub free_of : Stock → List ℕ
free_of stock = stock.returned ++ stock.unused

-- the unused metas that are left where one is taken: the first of them is taken where none was returned
abbrev pub unused_left : List ℕ → List ℕ → List ℕ
unused_left [] unused = drop 1 unused
unused_left (meta ∷ others) unused = unused

-- so many metas of an area, from the one of an index on
abbrev pub metas_from : ℕ → ℕ → ℕ → List ℕ
metas_from area i zero = []
metas_from area i (suc n) = meta_place area i ∷ metas_from area (suc i) n

-- all metas of an area
abbrev pub metas_of : ℕ → List ℕ
metas_of area = metas_from area 0 101
