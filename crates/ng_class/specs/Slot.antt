-- The slots of a group: their stride, the room for blocks in them, and where each begins and ends.
use Rattle.std.specs.Prelude.{◌≡◌, ◌⊎◌, ◌+◌, ◌-◌, ◌*◌, ◌<◌, ◌≤◌, ◌==◌, ◌&&◌, ℕ, min, if◌then◌else◌, nat_lt}
use Rattle.ng_class.specs.Class.{units_of}

-- a group of class 63 is one slot in a run of its own
pub record IsLoneGroup (class last maplen : ℕ) : Type 0 where
  pub lone : class ≡ 63
  pub single : last ≡ 0
  pub mapped : 1 ≤ maplen

-- the class of a group with the slots 0 to last in a run of maplen pages, or in no run of its own
abbrev pub IsGroupClass : ℕ → ℕ → ℕ → Type 0
IsGroupClass class last maplen = class < 48 ⊎ IsLoneGroup class last maplen

-- the bytes from slot to slot: the class size, but a slot alone in its run of pages of 4096 bytes
-- has all but 16 of these
unfoldable pub stride_of : ℕ → ℕ → ℕ → ℕ
stride_of class last maplen =
    if last == 0 && nat_lt 0 maplen then maplen * 4096 - 16 else 16 * units_of class

-- the bytes in which a block may be placed: the stride, but at most the size of a class below 48
unfoldable pub room_of : ℕ → ℕ → ℕ → ℕ
room_of class last maplen =
    if class == 63 then stride_of class last maplen
    else min (stride_of class last maplen) (16 * units_of class)

-- the start of a slot, for slots from the address storage on
abbrev pub start_at : ℕ → ℕ → ℕ → ℕ
start_at storage stride index = storage + stride * index

-- the end of a slot, 4 bytes below the start of the next
abbrev pub end_at : ℕ → ℕ → ℕ → ℕ
end_at storage stride index = start_at storage stride index + stride - 4

-- addr is in the slot's own cells: from its header cell, 4 bytes below its start, up to its end
pub record IsOwnCell (storage stride index addr : ℕ) : Type 0 where
  pub from : start_at storage stride index - 4 ≤ addr
  pub below : addr < end_at storage stride index
