-- A live block in the slot that a view has it in: where it lies, and what its header says.
use Rattle.std.specs.Prelude.{◌≡◌, ◌⊎◌, ℕ, ◌+◌, ◌*◌, ◌/◌, ◌%◌, ◌<◌, ◌≤◌, Option, Some, None}
use Rattle.ng_terms.specs.declared.entry.Extent.{Extent}
use Rattle.ng_view.specs.Lists.{Among}
use Rattle.ng_view.specs.Places.{slot_start, stride, room}
use Rattle.ng_view.specs.declared.view.Held.{Held}

-- the cell at a is known to have the value x
abbrev pub Knows : ℕ → ℕ → Held → Type 0
Knows a x h = Among {A = ℕ × ℕ} (a, x) h.cells

-- the header x has the offset of p itself, in units of 16 bytes from the group's first slot
pub record IsNarrow (h : Held) (p x : ℕ) : Type 0 where
  pub check : x % 256 ≡ 0
  pub offset : p ≡ (h.place.group.base + 16) + 16 * (x / 65536)

-- the offset of p is above 65535 and stands in the cell before the header x
pub record IsWide (h : Held) (p x : ℕ) : Type 0 where
  pub check : x % 256 ≡ 1
  pub field : x / 65536 ≡ 0
  pub behind : slot_start h.place < p
  pub cell : ℕ
  pub offset : ℕ
  pub front : cell + 8 ≡ p
  pub known : Knows cell offset h
  pub large : 65535 < offset
  pub place : p ≡ (h.place.group.base + 16) + 16 * offset

-- the value x in front of p has the slot's index and the offset of p
pub record Carries (h : Held) (p x : ℕ) : Type 0 where
  pub index : x / 256 % 32 ≡ h.place.index
  pub offset : IsNarrow h p x ⊎ IsWide h p x

-- the header cell in front of p is known, and carries the slot's index and the offset of p
pub record IsHeader (h : Held) (p : ℕ) : Type 0 where
  pub cell : ℕ
  pub value : ℕ
  pub front : cell + 4 ≡ p
  pub known : Knows cell value h
  pub carries : Carries h p value

-- the block lies in the slot
pub record IsBlock (h : Held) (b : Extent) : Type 0 where
  -- its address is a multiple of 16 in the slot's room, and its header cell another than the next
  -- slot's
  pub whole : b.at % 16 ≡ 0
  pub from : slot_start h.place ≤ b.at
  pub first : b.at + 4 < slot_start h.place + stride h.place.group
  pub roomy : b.at < slot_start h.place + room h.place.group
  -- its bytes end by the slot's end
  pub within : b.at + b.len + 4 ≤ slot_start h.place + stride h.place.group
  -- its header carries it
  pub header : IsHeader h b.at

-- the slot's block, if there is one
abbrev pub IsSet : Held → Option Extent → Type 0
IsSet h None = Unit {0}
IsSet h (Some b) = IsBlock h b
