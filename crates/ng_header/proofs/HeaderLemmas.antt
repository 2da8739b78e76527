-- A header cell and its fields are inverse to each other.
use Rattle.std.proofs.Common.{◌≡◌, ℕ, ◌^◌, ◌<◌, arith}
use Rattle.std.proofs.lemmas.Grind.{common_steps}
use Rattle.ng_header.specs.Header.{IsInRange, cell_with, ib_in}
use Rattle.ng_header.specs.declared.header.Ib.{Ib}

-- the fields of a cell make it again
pub cell_with-ib_in : (cell : ℕ) → cell < 2 ^ 32 → cell_with (ib_in cell) ≡ cell
cell_with-ib_in cell low = omega arith

-- the cell of some fields has these
pub ib_in-cell_with : (ib : Ib) → ib.check < 256 → IsInRange ib → ib_in (cell_with ib) ≡ ib
ib_in-cell_with ib check range = grind (arith, common_steps, range)
