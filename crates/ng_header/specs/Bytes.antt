-- The bytes of a cell, or of a longer number: the lowest first.
use Rattle.std.specs.Prelude.{ℕ, ◌+◌, ◌*◌, ◌/◌, ◌%◌, ◌^◌}

-- byte b: the bits from 8b to 8b + 7
abbrev pub byte_of : ℕ → ℕ → ℕ
byte_of cell b = cell / 2 ^ (8 * b) % 256

-- the 16-bit field in the bytes b and b + 1
abbrev pub half_of : ℕ → ℕ → ℕ
half_of cell b = byte_of cell b + 256 * byte_of cell (b + 1)
