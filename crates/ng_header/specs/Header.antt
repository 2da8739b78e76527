-- The header cell of an address.
use Rattle.std.specs.Prelude.{ℕ, ◌+◌, ◌*◌, ◌/◌, ◌%◌, ◌^◌, ◌<◌}
use Rattle.ng_header.specs.Bytes.{byte_of, half_of}
use Rattle.ng_header.specs.declared.header.Ib.{Ib}

-- the check in byte 0, index and reserved field in the low five and high three bits of byte 1, then the offset
abbrev pub ib_in : ℕ → Ib
ib_in cell = record {
  check = byte_of cell 0;
  index = byte_of cell 1 % 32;
  reserved = byte_of cell 1 / 32;
  offset = half_of cell 2;
}

-- the cell with these fields, byte by byte
abbrev pub cell_with : Ib → ℕ
cell_with ib = ib.check + 256 * (ib.index + 32 * ib.reserved) + 256 ^ 2 * ib.offset

-- each field has its width
pub record IsInRange (ib : Ib) : Type 0 where
  pub index : ib.index < 32
  pub reserved : ib.reserved < 8
  pub offset : ib.offset < 2 ^ 16
