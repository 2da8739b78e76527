-- The metas that are free, in the order in which they were returned.
use Rattle.std.specs.Prelude.{ℕ, List}

-- what contracts see: the addresses, oldest first, and the pages of the space
pub record FreeList : Type 0 where
  pub metas : List ℕ
  pub pages : ℕ
