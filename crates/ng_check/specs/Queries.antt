-- What a check of a pointer is asked and its loads found, and what follows from that. A value is
-- None where a cell that it needs wasn't read.
use Rattle.std.specs.Prelude.{ℕ, ◌+◌, ◌-◌, ◌*◌, ◌/◌, ◌%◌, ◌==◌, ◌&&◌, ◌||◌, Bool, nat_lt, if◌then◌else◌, List, Option, Some, None, Result, Ok, Err}
use Rattle.std.specs.Option.{option_and_then, option_map}
use Rattle.ng_class.specs.Slot.{end_at, start_at, stride_of}
use Rattle.ng_header.specs.Bytes.{byte_of}
use Rattle.ng_header.specs.Reading.{reserved_in}
use Rattle.ng_header.specs.declared.reading.NominalFault.{NominalFault}
use Rattle.ng_meta.specs.Cells.{joined}
use Rattle.ng_meta.specs.Flags.{fields_in}
use Rattle.ng_meta.specs.Place.{area_at}
use Rattle.ng_meta.specs.declared.flags.Fields.{Fields}
use Rattle.ng_check.specs.Cells.{cell_at}

-- the pages of the space, the secret, the pointer, and the pairs (address, word) that were found
pub record Query : Type 0 where
  pub pages : ℕ
  pub secret : ℕ
  pub addr : ℕ
  pub cells : List (ℕ × ℕ)

-- a function of two values, where both are there
abbrev pub both : {A B C : Type 0} → (A → B → C) → Option A → Option B → Option C
both f a b = option_and_then (λ x. option_map (f x) b) a

-- ---- cells, numbers of 64 bits and bytes
abbrev pub cell : Query → ℕ → Option ℕ
cell q a = cell_at a q.cells

unfoldable pub number : Query → ℕ → Option ℕ
number q a = both joined (cell q a) (cell q (a + 4))

unfoldable pub byte : Query → ℕ → Option ℕ
byte q a = option_map (λ x. byte_of x (a % 4)) (cell q (4 * (a / 4)))

-- ---- the header in front of the address, and its fields
unfoldable pub header : Query → Option ℕ
header q = cell q (q.addr - 4)

unfoldable pub wide : Query → Option ℕ
wide q = cell q (q.addr - 8)

unfoldable pub index : Query → Option ℕ
index q = option_map (λ h. h / 256 % 32) (header q)

unfoldable pub field : Query → Option ℕ
field q = option_map (λ h. h / 8192 % 8) (header q)

-- the offset is in the header's upper half, or where its low byte isn't 0 in the cell before it
unfoldable pub offset : Query → Option ℕ
offset q = option_and_then (λ h. if h % 256 == 0 then Some (h / 65536) else wide q) (header q)

-- ---- the group that the offset leads to
unfoldable pub base : Query → Option ℕ
base q = option_map (λ o. q.addr - 16 * o - 16) (offset q)

-- the number at the base
unfoldable pub named : Query → Option ℕ
named q = option_and_then (number q) (base q)

-- the meta, where that number is in the space
unfoldable pub meta : Query → Option ℕ
meta q = option_and_then (λ m. if nat_lt m (4096 * q.pages) then Some m else None) (named q)

unfoldable pub mem : Query → Option ℕ
mem q = option_and_then (λ m. number q (m + 16)) (meta q)

unfoldable pub avail : Query → Option ℕ
avail q = option_and_then (λ m. cell q (m + 24)) (meta q)

unfoldable pub freed : Query → Option ℕ
freed q = option_and_then (λ m. cell q (m + 28)) (meta q)

unfoldable pub flags : Query → Option ℕ
flags q = option_and_then (λ m. number q (m + 32)) (meta q)

unfoldable pub fields : Query → Option Fields
fields q = option_map fields_in (flags q)

-- the number at the start of the meta's page
unfoldable pub check_word : Query → Option ℕ
check_word q = option_and_then (λ m. number q (area_at m)) (meta q)

-- ---- the slot
-- the class is below 48, or that of a group of one slot in pages of its own
abbrev pub is_class : Fields → Bool
is_class f = nat_lt f.class 48 || (f.class == 63 && (f.last == 0 && nat_lt 0 f.maplen))

-- the stride, where the class is one of groups
unfoldable pub stride : Query → Option ℕ
stride q = option_and_then (λ f. if is_class f then Some (stride_of f.class f.last f.maplen) else None) (fields q)

unfoldable pub start : Query → Option ℕ
start q = option_and_then (λ b. both (start_at (b + 16)) (stride q) (index q)) (base q)

unfoldable pub slot_end : Query → Option ℕ
slot_end q = option_and_then (λ b. both (end_at (b + 16)) (stride q) (index q)) (base q)

-- the slot's end, where it is in the space
unfoldable pub end : Query → Option ℕ
end q = option_and_then (λ e. if nat_lt e (4096 * q.pages) then Some e else None) (slot_end q)

-- ---- what stands round the slot's end: the last number before it, the byte before that, the byte at
-- the end
unfoldable pub word : Query → Option ℕ
word q = option_and_then (λ e. cell q (e - 4)) (end q)

unfoldable pub fifth : Query → Option ℕ
fifth q = option_and_then (λ e. byte q (e - 5)) (end q)

unfoldable pub last : Query → Option ℕ
last q = option_and_then (byte q) (end q)

-- the reserved number or its fault, by the header's field and, where that is 5, by word and fifth
unfoldable pub reserved_with : Query → ℕ → ℕ → Option (Result ℕ NominalFault)
reserved_with q f e =
    if f == 5 then both (λ w x. reserved_in f w x (e - q.addr)) (word q) (fifth q) else Some (reserved_in f 0 0 (e - q.addr))

unfoldable pub reserved : Query → Option (Result ℕ NominalFault)
reserved q = option_and_then (λ f. option_and_then (reserved_with q f) (end q)) (field q)

-- the first reserved byte, if there is one
abbrev pub mark_with : Query → ℕ → Result ℕ NominalFault → Option ℕ
mark_with q e (Ok r) = if r == 0 then None else byte q (e - r)
mark_with q e (Err fault) = None

unfoldable pub mark : Query → Option ℕ
mark q = option_and_then (λ e. option_and_then (mark_with q e) (reserved q)) (end q)

-- the length of the block: what isn't reserved of the bytes from the address to the slot's end
abbrev pub len_with : ℕ → Result ℕ NominalFault → Option ℕ
len_with gap (Ok r) = Some (gap - r)
len_with gap (Err fault) = None

unfoldable pub len : Query → Option ℕ
len q = option_and_then (λ e. option_and_then (len_with (e - q.addr)) (reserved q)) (end q)
