-- A book as contracts see it.
use Rattle.std.specs.Prelude.{ℕ, List}
use Rattle.ng_terms.specs.declared.entry.Entry.{Entry}

-- the caller's number, how many entries there is room for, and the entries so far
pub record Shown : Type 0 where
  pub number : ℕ
  pub spare : ℕ
  pub entries : List Entry
