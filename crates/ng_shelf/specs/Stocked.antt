-- The unused metas by their numbers. No public clause cites this module.
use Rattle.std.specs.Prelude.{ℕ, ◌≡◌, ◌≢◌, ◌-◌, ◌*◌, ◌%◌, ◌<◌, ◌≤◌, List, ◌++◌, AllPairs}
use Rattle.ng_shelf.specs.Stock.{metas_from}

-- the metas of an area from an index on
abbrev pub unused_of : ℕ → ℕ → List ℕ
unused_of area unused = metas_from area unused (101 - unused)

-- where some metas are unused, the area is a page of the space; and no meta is both returned and unused
pub record IsStock (returned : List ℕ) (area unused pages : ℕ) : Type 0 where
  pub greatest : pages ≤ 16384
  pub some : unused ≤ 101
  pub page : area % 4096 ≡ 0
  pub above : unused < 101 → 0 < area
  pub below : area < 4096 * pages
  pub once : AllPairs (λ meta other. meta ≢ other) (returned ++ unused_of area unused)
