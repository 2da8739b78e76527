-- A slot with the group that it is in, as numbers.
use Rattle.std.specs.Prelude.{◌≡◌, ◌≢◌, ◌+◌, ℕ}
use Rattle.ng_class.specs.Slot.{stride_of, start_at, end_at, IsOwnCell}

-- the addresses of the group's meta and of the group, its class, last index and pages, and the slot
pub record Place : Type 0 where
  pub meta : ℕ
  pub base : ℕ
  pub class : ℕ
  pub last : ℕ
  pub maplen : ℕ
  pub index : ℕ

-- the start of the group's slot 0: the group's own 16 bytes stand before it
abbrev pub storage_of : Place → ℕ
storage_of place = place.base + 16

-- the stride of the group's slots
abbrev pub slot_stride : Place → ℕ
slot_stride place = stride_of place.class place.last place.maplen

-- the slot's first byte
abbrev pub start_of : Place → ℕ
start_of place = start_at (storage_of place) (slot_stride place) place.index

-- the address after the slot's last byte
abbrev pub end_of : Place → ℕ
end_of place = end_at (storage_of place) (slot_stride place) place.index

-- addr is in the slot's own cells
abbrev pub Owns : Place → ℕ → Type 0
Owns place addr = IsOwnCell (storage_of place) (slot_stride place) place.index addr

-- the two slots are in one group
abbrev pub InOneGroup : Place → Place → Type 0
InOneGroup place other = other ≡ record place { index = other.index }

-- distinct slots of one group have no cell in common
abbrev pub SlotsAreApart : Type 0
SlotsAreApart = (place other : Place) → InOneGroup place other → place.index ≢ other.index
    → (addr : ℕ) → Owns place addr → ¬ Owns other addr
