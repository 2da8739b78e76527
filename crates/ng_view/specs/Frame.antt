-- Frames: what the cells of a slot say of a block, and where a block is put.
use Rattle.std.specs.Prelude.{◌≡◌, ◌⊎◌, ℕ, ◌+◌, ◌-◌, ◌*◌, ◌/◌, ◌%◌, ◌^◌, ◌<◌, ◌≤◌, max, min, leb, cond, Option, Some, None}
use Rattle.ng_header.specs.Cycle.{cycle_of}
use Rattle.ng_view.specs.declared.view.Held.{Held}
use Rattle.ng_view.specs.Places.{slot_start, slot_end, room}
use Rattle.ng_view.specs.Blocks.{Knows, Carries}

-- the byte at y is known to be b
abbrev pub KnowsByte : ℕ → ℕ → Held → Type 0
KnowsByte y b h = (x : ℕ) × Knows (4 * (y / 4)) x h × (x / 2 ^ (8 * (y % 4)) % 256 ≡ b)

-- what follows a block of length n at p up to the slot's end: r bytes
abbrev pub IsTrailer : Held → ℕ → Type 0
IsTrailer h r = (r ≡ 0)
    ⊎ ((0 < r) × (r < 5) × KnowsByte (slot_end h.place - r) 0 h)
    ⊎ ((4 < r) × KnowsByte (slot_end h.place - r) 0 h × Knows (slot_end h.place - 4) r h
    × KnowsByte (slot_end h.place - 5) 0 h)

-- where p isn't the slot's start, the header cell at the start has the distance
abbrev pub IsShift : Held → ℕ → Type 0
IsShift h p = (p ≡ slot_start h.place)
    ⊎ ((a x : ℕ) × (a + 4 ≡ slot_start h.place) × Knows a x h × (x % 256 ≡ 0)
    × (x / 256 % 256 ≡ 224) × (x / 65536 ≡ (p - slot_start h.place) / 16 % 65536))

-- the cells carry the frame of (p, n) but for the header cell, which gets x
pub record Frames (h : Held) (p n x : ℕ) : Type 0 where
  pub whole : p % 16 ≡ 0
  pub from : slot_start h.place ≤ p
  pub roomy : p < slot_start h.place + room h.place.group
  pub within : p + n ≤ slot_end h.place
  pub carries : Carries h p x
  pub field : x / 8192 % 8 ≡ min (slot_end h.place - p - n) 5
  pub trailer : IsTrailer h (slot_end h.place - p - n)
  pub shift : IsShift h p

-- and the header cell is known
abbrev pub IsFramed : Held → ℕ → ℕ → Type 0
IsFramed h p n = (a x : ℕ) × (a + 4 ≡ p) × Knows a x h × Frames h p n x

-- ---- where a block is put
-- the units that a request of n leaves in the room
abbrev pub slack_of : Held → ℕ → ℕ
slack_of h n = (room h.place.group - 4 - n) / 16

-- a block of n with align a, at the offset o: the least multiple of the align that isn't below it
abbrev pub IsPut : Held → ℕ → ℕ → ℕ → Type 0
IsPut h p a o = (p % max a 16 ≡ 0) × (slot_start h.place + 16 * o ≤ p)
    × (p < slot_start h.place + 16 * o + max a 16)

-- the header cell at the start, as it was found: its field counts where its byte at start-3 isn't 0
abbrev pub field_of : ℕ → Option ℕ
field_of x = cond (leb 1 (x / 256 % 256)) (Some (x / 65536)) None

-- a block of n with align a was put at p, by the header cell x that was found at the start
pub record IsGiven (h : Held) (p n a x counter : ℕ) : Type 0 where
  -- the slot has room for the request, with what the align may take of it
  pub fits : n + max a 16 ≤ room h.place.group + 12
  pub framed : IsFramed h p n
  pub put : IsPut h p a (cycle_of (field_of x) (slack_of h ((n + max a 16) - 16)) counter)
