-- The damage of a block's frame, by the words that were read of it.
use Rattle.std.specs.Prelude.{◌≡◌, ◌↔◌, ℕ, ◌-◌, ◌*◌, ◌/◌, ◌%◌, ◌≤◌, min, Option, Some, None, Result, Ok, Err}
use Rattle.ng_header.specs.Bytes.{byte_of}
use Rattle.ng_header.specs.Reading.{IsBadReserved, IsOverrun, reserved_by}
use Rattle.ng_terms.specs.declared.entry.Entry.{Entry}
use Rattle.ng_terms.specs.declared.entry.Entry.TheVariants.{Refused, Take}
use Rattle.ng_view.specs.Blocks.{Knows}
use Rattle.ng_view.specs.Steps.{loaded}
use Rattle.ng_view.specs.declared.view.Held.{Held}
use Rattle.ng_view.specs.declared.view.View.{View}
use Rattle.ng_space.specs.Blocks.{BlockToken, Kills}
use Rattle.ng_space.specs.Callers.{Caller}
use Rattle.ng_space.specs.Entries.{Enters}
use Rattle.ng_frame.specs.declared.damage.Damage.{Damage}
use Rattle.ng_frame.specs.declared.damage.Damage.TheVariants.{BadReserved, Overrun}
use Rattle.ng_frame.specs.declared.words.Words.{Words}

-- the header's reserved field, the number in the last cell before the slot's end, and the byte in
-- front of that cell
abbrev pub field_in : Words → ℕ
field_in w = w.header / 8192 % 8

abbrev pub number_in : Words → ℕ
number_in w = w.last % 4294967296

abbrev pub fifth_in : Words → ℕ
fifth_in w = byte_of w.fifth 3

-- the bytes from a block's address to the end of its slot
abbrev pub gap_of : BlockToken → ℕ
gap_of block = block.slot.end - block.at

-- those of them that aren't the block's own
abbrev pub tail_of : BlockToken → ℕ
tail_of block = gap_of block - block.len

-- the words tell no reserved number, or one above the gap
abbrev pub IsBad : BlockToken → Words → Type 0
IsBad block w = IsBadReserved (field_in w) (number_in w) (fifth_in w) (gap_of block)

-- where the first reserved byte is
abbrev pub mark_at : BlockToken → Words → ℕ
mark_at block w = block.slot.end - reserved_by (field_in w) (number_in w)

-- in the cell there, the first reserved byte isn't 0
abbrev pub IsOver : BlockToken → Words → ℕ → Type 0
IsOver block w mark = IsOverrun (reserved_by (field_in w) (number_in w)) (byte_of mark (mark_at block w % 4))

-- the words are those of the block's frame
pub record TellLength (block : BlockToken) (w : Words) : Type 0 where
  pub field : field_in w ≡ min (tail_of block) 5
  pub number : 5 ≤ tail_of block → number_in w ≡ tail_of block
  pub fifth : 5 ≤ tail_of block → fifth_in w ≡ 0
  pub within : tail_of block ≤ gap_of block

-- and each is what the slot is known to have there, where that is known
pub record AreKnown (block : BlockToken) (w : Words) (h : Held) : Type 0 where
  pub header : (y : ℕ) → Knows (block.at - 4) y h → w.header ≡ y
  pub last : (y : ℕ) → Knows (block.slot.end - 4) y h → w.last ≡ y
  pub fifth : (y : ℕ) → Knows (block.slot.end - 8) y h → w.fifth ≡ y

-- the view once the words of a block's frame were loaded
abbrev pub looked : View → BlockToken → Words → View
looked v block w =
    loaded (loaded (loaded v (block.at - 4) w.header) (block.slot.end - 4) w.last) (block.slot.end - 8) w.fifth

-- the number of a damage in the entry of a refused pointer
abbrev pub number_of : Damage → ℕ
number_of BadReserved = 12
number_of Overrun = 13

-- the damage that a free was refused for, if it was
abbrev pub damage_of : {A B : Type 0} → Result A (B × Damage) → Option Damage
damage_of (Ok done) = None
damage_of (Err left) = Some left.1

-- the entry of a free of the block at an address: it is taken, or refused for its damage
abbrev pub free_entry : {A B : Type 0} → ℕ → Result A (B × Damage) → Entry
free_entry at (Ok done) = Take at
free_entry at (Err left) = Refused at (number_of left.1)

-- the words of the frame were loaded, and the cell of the first reserved byte where they aren't bad;
-- what they tell is the damage that was found
pub record Inspects (before : View) (block : BlockToken) (found : Option Damage) (after : View) : Type 0 where
  pub words : Words
  pub mark : ℕ
  pub bad : (found ≡ Some BadReserved) ↔ IsBad block words
  pub overrun : (found ≡ Some Overrun) ↔ ((¬ IsBad block words) × IsOver block words mark)
  pub stops : IsBad block words → after ≡ looked before block words
  pub marks : (¬ IsBad block words) → after ≡ loaded (looked before block words) (4 * (mark_at block words / 4)) mark

-- no damage was found, and then the block was ended
pub record Takes (before : View) (block : BlockToken) (number : ℕ) (after : View) : Type 0 where
  pub between : View
  pub inspects : Inspects before block None between
  pub kills : Kills between block number after

-- damage was found, and the refusal was entered
pub record Refuses (before : Caller) (block : BlockToken) (found : Damage) (after : Caller) : Type 0 where
  pub between : View
  pub inspects : Inspects before.view block (Some found) between
  pub enters : Enters between before.number (Refused block.at (number_of found)) after.view
