-- Where the metas of an area stand: 101 of 40 bytes each, from byte 24 of its page.
use Rattle.std.specs.Prelude.{ℕ, ◌≡◌, ◌≢◌, ◌⊎◌, ◌+◌, ◌*◌, ◌/◌, ◌%◌, ◌<◌, ◌≤◌}

-- the address of meta i in the area at an address
abbrev pub meta_place : ℕ → ℕ → ℕ
meta_place area i = area + 24 + 40 * i

-- the address of the page around an address
abbrev pub area_at : ℕ → ℕ
area_at addr = 4096 * (addr / 4096)

-- some meta of some page of the space but page 0 stands at the address
pub record IsMetaPlace (addr pages : ℕ) : Type 0 where
  pub page : ℕ
  pub i : ℕ
  pub mapped : 0 < page
  pub inside : page < pages
  pub counted : i < 101
  pub stands : addr ≡ meta_place (4096 * page) i

-- the 40 bytes of a meta lie behind the area's head of 24 bytes, and before the last 32 of its page
pub record LiesIn (area meta : ℕ) : Type 0 where
  pub after : area + 24 ≤ meta
  pub before : meta + 40 ≤ area + 4064

-- no byte is one of both metas
abbrev pub AreApart : ℕ → ℕ → Type 0
AreApart meta other = (meta + 40 ≤ other) ⊎ (other + 40 ≤ meta)

-- meta i of an area is apart from each meta of another index or area
abbrev pub IsApartFromOthers : ℕ → ℕ → ℕ → Type 0
IsApartFromOthers area i meta =
    (other j : ℕ) → other % 4096 ≡ 0 → j < 101 → (other ≢ area) ⊎ (j ≢ i) → AreApart meta (meta_place other j)
