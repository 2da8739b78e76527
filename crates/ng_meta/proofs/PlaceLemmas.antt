-- Metas and their addresses.
use Rattle.std.proofs.Common.{◌≡◌, ◌≢◌, ◌⊎◌, ℕ, ◌+◌, ◌-◌, ◌/◌, ◌%◌, ◌<◌, ◌≤◌, arith}
use Rattle.std.proofs.lemmas.Grind.{common_steps}
use Rattle.ng_meta.specs.Place.{AreApart, IsMetaPlace, area_at, meta_place}

-- an address of a meta's form is a meta's
pub meta_from_parts : (addr pages : ℕ) → 0 < addr / 4096 → addr / 4096 < pages → 24 ≤ addr % 4096 → (addr % 4096 - 24) % 40 ≡ 0 → (addr % 4096 - 24) / 40 < 101 → IsMetaPlace addr pages
meta_from_parts addr pages mapped inside head steps counted = record {
  page = addr / 4096;
  i = (addr % 4096 - 24) / 40;
  mapped = mapped;
  inside = inside;
  counted = counted;
  stands = omega arith;
}

-- the page around a meta is its area's
pub area_at-meta_place : (area i : ℕ) → area % 4096 ≡ 0 → i < 101 → area_at (meta_place area i) ≡ area
area_at-meta_place area i page counted = omega arith

-- metas of distinct areas or indices are apart
pub metas_apart : (area i other j : ℕ) → area % 4096 ≡ 0 → other % 4096 ≡ 0 → i < 101 → j < 101 → (other ≢ area) ⊎ (j ≢ i) → AreApart (meta_place area i) (meta_place other j)
metas_apart area i other j page page' counted counted' distinct = grind (arith, common_steps)

-- the area and the index of two addresses agree
pub record IsSameMeta (area i other j : ℕ) : Type 0 where
  pub same_area : area ≡ other
  pub same_index : i ≡ j

-- metas that have a byte in common are one
pub same_meta : (area i other j : ℕ) → area % 4096 ≡ 0 → other % 4096 ≡ 0 → i < 101 → j < 101 → meta_place area i < meta_place other j + 40 → meta_place other j < meta_place area i + 40 → IsSameMeta area i other j
same_meta area i other j page page' counted counted' below above =
    let same : area ≡ other = omega arith in
    record { same_area = same; same_index = omega arith }
