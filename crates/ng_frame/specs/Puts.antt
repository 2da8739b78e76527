-- Where a block is put.
use Rattle.std.specs.Prelude.{◌≡◌, ◌⊎◌, ℕ, ◌+◌, ◌-◌, ◌*◌, ◌/◌, ◌%◌, ◌<◌, ◌≤◌, max}
use Rattle.std.specs.Int.{next_multiple_of}
use Rattle.ng_header.specs.Cycle.{cycle_of}
use Rattle.ng_view.specs.Blocks.{Knows}
use Rattle.ng_view.specs.Frame.{field_of}
use Rattle.ng_view.specs.Steps.{loaded}
use Rattle.ng_view.specs.declared.view.Held.{Held}
use Rattle.ng_view.specs.declared.view.View.{View}
use Rattle.ng_space.specs.Blocks.{BlockToken, offset_in}
use Rattle.ng_space.specs.Tokens.{Token}

-- the slot begins and ends at cells, and its room ends by the next header cell
pub record IsWhole (slot : Token) : Type 0 where
  pub start : slot.start % 16 ≡ 0
  pub end : slot.end % 16 ≡ 12
  pub front : 16 ≤ slot.start
  pub some : slot.start < slot.end
  pub room : slot.start + slot.room ≤ slot.end + 4

-- the word in front of the slot's start was loaded and nothing else was done, and by its low half
-- the offset is the next in the slot's cycle
pub record Cycles (before : View) (slot : Token) (n counter offset : ℕ) (after : View) : Type 0 where
  pub word : ℕ
  pub view : after ≡ loaded before (slot.start - 4) word
  pub offset_is : offset ≡ cycle_of (field_of (word % 4294967296)) ((slot.room - 4 - n) / 16) counter

-- where a block begins: the least multiple of its align, and of 16, from the offset on
abbrev pub place_of : Token → ℕ → ℕ → ℕ
place_of slot align offset = next_multiple_of (slot.start + 16 * offset) (max align 16)

-- the bytes that a block asks for: its length, and the room to align in
abbrev pub asked_for : ℕ → ℕ → ℕ
asked_for n align = (n + max align 16) - 16

-- the slot is its group's first, or each offset in it has room in a header
abbrev pub IsNarrowOrFirst : Token → Type 0
IsNarrowOrFirst slot = (slot.start ≡ slot.storage) ⊎ (offset_in slot (slot.start + slot.room) < 65536)

-- so many bytes at the offset have room in the slot, and where an offset has no room in a header the slot is its group's first
pub record IsNear (slot : Token) (asked offset : ℕ) : Type 0 where
  pub whole : IsWhole slot
  pub within : 16 * offset + asked + 4 ≤ slot.room
  pub small : offset < 256
  pub narrow : IsNarrowOrFirst slot

-- the block of n bytes with an align, from the offset on
abbrev pub put_at : Token → ℕ → ℕ → ℕ → BlockToken
put_at slot n align offset = record { slot = slot; at = place_of slot align offset; len = n; align = align }

-- n bytes at the place are aligned, and lie in the slot
pub record IsPlace (slot : Token) (n align place : ℕ) : Type 0 where
  pub aligned : place % max align 16 ≡ 0
  pub whole : place % 16 ≡ 0
  pub from : slot.start ≤ place
  pub roomy : place < slot.start + slot.room
  pub within : place + n ≤ slot.end

-- a wide offset of the place is known in the cell before its header
abbrev pub KnowsWide : Token → ℕ → Held → Type 0
KnowsWide slot at h = 65536 ≤ offset_in slot at → (slot.start < at) × Knows (at - 8) (offset_in slot at) h
