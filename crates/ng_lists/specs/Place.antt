-- Metas by number: those of page k are the 101 numbers from 101 * k on.
use Rattle.std.specs.Prelude.{ℕ, ◌+◌, ◌-◌, ◌*◌, ◌/◌, ◌%◌}
use Rattle.ng_meta.specs.Place.{meta_place}

-- the address of the meta at an index
abbrev pub address_at : ℕ → ℕ
address_at index = meta_place (4096 * (index / 101)) (index % 101)

-- the index of the meta at an address
abbrev pub index_at : ℕ → ℕ
index_at meta = 101 * (meta / 4096) + (meta % 4096 - 24) / 40
