-- Where the slots of a group lie.
use Rattle.std.specs.Prelude.{◌≡◌, ℕ, ◌+◌, ◌*◌, ◌-◌, ◌<◌, ◌≤◌, ◌&&◌, leb, Bool}
use Rattle.ng_class.specs.Class.{units_of, IsLeastClass}
use Rattle.ng_class.specs.Slot.{stride_of, room_of, start_at, end_at}
use Rattle.ng_view.specs.declared.view.Group.{Group}
use Rattle.ng_view.specs.declared.view.Place.{Place}

-- the units of 16 bytes in a slot of a tag's class; the tag is the class and 1
abbrev pub units : ℕ → ℕ
units t = units_of (t - 1)

-- the size of a slot of a tag's class
abbrev pub class_size : ℕ → ℕ
class_size t = 16 * units t

-- the tag is that of the least class with room for n and 4 bytes; from 131052 bytes on there is none
abbrev pub IsClass : ℕ → ℕ → Type 0
IsClass t n = (n < 131052) × (class : ℕ) × (t ≡ class + 1) × IsLeastClass n class

-- the distance from slot to slot
unfoldable pub stride : Group → ℕ
stride g = stride_of (g.tag - 1) g.last g.maplen

-- the bytes from a slot's start on in which a block may start
unfoldable pub room : Group → ℕ
room g = room_of (g.tag - 1) g.last g.maplen

-- the first byte of a slot; the group's own 16 bytes stand before slot 0
abbrev pub slot_start : Place → ℕ
slot_start p = start_at (p.group.base + 16) (stride p.group) p.index

-- the address behind the slot's last byte, where a cell begins that isn't the slot's own
abbrev pub slot_end : Place → ℕ
slot_end p = end_at (p.group.base + 16) (stride p.group) p.index

-- the cell at a is one of the slot's own: from the header cell, 4 bytes before the start, up to the end
abbrev pub Owns : Place → ℕ → Type 0
Owns p a = (slot_start p ≤ a + 4) × (a + 4 < slot_start p + stride p.group)

-- the same as a test
abbrev pub owns_at : Place → ℕ → Bool
owns_at p a = leb (slot_start p) (a + 4) && leb (a + 5) (slot_start p + stride p.group)

-- the bytes from a group's base to the end of its slots
abbrev pub reach : Group → ℕ
reach g = 16 + stride g * (g.last + 1)

-- the header cell of the slot i, and behind the last slot the past cell
abbrev pub header : Group → ℕ → ℕ
header g i = (g.base + 12) + stride g * i

-- the bytes of the slots of a group of a class below 48
abbrev pub size_of : Group → ℕ
size_of g = class_size g.tag * (g.last + 1)
