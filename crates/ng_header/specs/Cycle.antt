-- The offset that the blocks of a slot cycle through.
use Rattle.std.specs.Prelude.{ℕ, ◌+◌, ◌-◌, ◌%◌, ◌^◌, Option, Some, None, nat_le, if◌then◌else◌}
use Rattle.std.specs.Int.{leading_zeros, w64}

-- one more than the offset found at the slot's start, or the counter where none was found, of 8 bits
abbrev pub next_offset : Option ℕ → ℕ → ℕ
next_offset (Some old) counter = (old + 1) % 256
next_offset None counter = counter % 256

-- the least power of two above a slack
abbrev pub power_above : ℕ → ℕ
power_above slack = 2 ^ (64 - leading_zeros w64 slack)

-- an offset above the slack goes on from 0
abbrev pub wrapped : ℕ → ℕ → ℕ
wrapped offset slack = if nat_le offset slack then offset else offset - (slack + 1)

-- the low bits of the next offset, as many as the slack has, and wrapped where they are above the slack
abbrev pub cycle_of : Option ℕ → ℕ → ℕ → ℕ
cycle_of old slack counter = wrapped (next_offset old counter % power_above slack) slack
