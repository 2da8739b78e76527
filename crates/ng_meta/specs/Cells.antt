-- A 64-bit number and its two halves.
use Rattle.std.specs.Prelude.{ℕ, ◌+◌, ◌*◌, ◌/◌, ◌%◌, ◌^◌}

-- the number in two cells, the low one first
abbrev pub joined : ℕ → ℕ → ℕ
joined low high = low + 2 ^ 32 * high

-- the lower 32 bits
abbrev pub low_half : ℕ → ℕ
low_half number = number % 2 ^ 32

-- the upper 32 bits
abbrev pub high_half : ℕ → ℕ
high_half number = number / 2 ^ 32
