-- Indices and addresses of metas are inverse to each other.
use Rattle.std.proofs.Common.{◌≡◌, ℕ, ◌*◌, ◌/◌, ◌%◌, ◌^◌, ◌<◌, ◌≤◌, List, length, get_or, map, Contains, refl, ap, sym, ◌∙◌, arith}
use Rattle.std.proofs.lemmas.List.{get_or-map, get_or_default, length-map}
use Rattle.ng_meta.specs.Place.{IsMetaPlace}
use Rattle.ng_lists.specs.Place.{address_at, index_at}

pub index_at-address_at : (i : ℕ) → index_at (address_at i) ≡ i
index_at-address_at i = omega arith

pub address_at-index_at : (meta pages : ℕ) → IsMetaPlace meta pages → address_at (index_at meta) ≡ meta
address_at-index_at meta pages place = omega arith

-- the index of a meta of the space
pub index_from_page : (meta pages : ℕ) → IsMetaPlace meta pages → 101 ≤ index_at meta
index_from_page meta pages place = omega arith

pub index_below : (meta pages : ℕ) → IsMetaPlace meta pages → index_at meta < 101 * pages
index_below meta pages place = omega arith

-- the address at an index of the space
pub IsMetaPlace-address_at : (i pages : ℕ) → 101 ≤ i → i < 101 * pages → IsMetaPlace (address_at i) pages
IsMetaPlace-address_at i pages mapped inside = record {
  page = i / 101;
  i = i % 101;
  mapped = omega arith;
  inside = omega arith;
  counted = omega arith;
  stands = refl;
}

pub address_low : (i pages : ℕ) → i < 101 * pages → pages ≤ 16384 → address_at i < 2 ^ 26
address_low i pages inside few = omega arith

pub address_behind_head : (i : ℕ) → 24 ≤ address_at i % 4096
address_behind_head i = omega arith

-- a list of addresses has the address of each index of the list of indices
pub Contains-addresses : (xs : List ℕ) (i : ℕ) → Contains xs i → Contains (map address_at xs) (address_at i)
Contains-addresses xs i (k, within, is) =
    (k, omega (arith, length-map xs address_at), get_or-map address_at xs k i (address_at i) within ∙ ap address_at is)

-- what a list of addresses has is the address of an index of the list of indices
pub record IsAddressIn (xs : List ℕ) (meta : ℕ) : Type 0 where
  pub member : Contains xs (index_at meta)
  pub address : address_at (index_at meta) ≡ meta

pub member_of_addresses : (xs : List ℕ) (meta : ℕ) → Contains (map address_at xs) meta → IsAddressIn xs meta
member_of_addresses xs meta (k, within, is) =
    let inside : k < length xs = omega (arith, length-map xs address_at) in
    let i : ℕ = get_or xs k 0 in
    let here : address_at i ≡ meta = sym (get_or-map address_at xs k 0 meta inside) ∙ is in
    let index : index_at meta ≡ i = ap index_at (sym here) ∙ index_at-address_at i in
    record {
      member = (k, inside, get_or_default xs k (index_at meta) 0 inside ∙ sym index);
      address = ap address_at index ∙ here;
    }
