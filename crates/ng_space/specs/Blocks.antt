-- Live blocks of a hand as contracts see them.
use Rattle.std.specs.Prelude.{◌≡◌, ℕ, ◌+◌, ◌-◌, ◌/◌, ◌%◌, ◌<◌, ◌≤◌, leb, cond, min, max, Some}
use Rattle.ng_header.specs.Header.{cell_with}
use Rattle.ng_header.specs.declared.header.Ib.{Ib}
use Rattle.ng_terms.specs.Heap.{extent}
use Rattle.ng_view.specs.Blocks.{Knows}
use Rattle.ng_view.specs.Classes.{IsAllowed}
use Rattle.ng_view.specs.Frame.{IsFramed, IsShift, IsTrailer}
use Rattle.ng_view.specs.Lists.{find}
use Rattle.ng_view.specs.Steps.{killed, loaded}
use Rattle.ng_view.specs.declared.view.Held.{Held}
use Rattle.ng_view.specs.declared.view.View.{View}
use Rattle.ng_space.specs.Callers.{Caller}
use Rattle.ng_space.specs.Tokens.{LiesAt, Token}

-- a live block of a hand: its slot, its address, length and align
pub record BlockToken : Type 0 where
  pub slot : Token
  pub at : ℕ
  pub len : ℕ
  pub align : ℕ

-- the hand has the block, in its slot
pub record HasBlock (hand : Caller) (block : BlockToken) : Type 0 where
  pub own : block.slot.hand ≡ hand.number
  pub held : Held
  pub found : find block.slot.meta block.slot.index hand.view.held ≡ Some held
  pub live : held.block ≡ Some (extent block.at block.len block.align)
  pub place : LiesAt held.place block.slot

-- and knows that the slot's cells are the block's frame
pub record HasFramed (hand : Caller) (block : BlockToken) : Type 0 where
  pub has : HasBlock hand block
  pub framed : IsFramed has.held block.at block.len

-- what holds of the numbers of every block
pub record IsBlockToken (block : BlockToken) : Type 0 where
  pub whole : block.at % 16 ≡ 0
  pub from : block.slot.start ≤ block.at
  pub within : block.at + block.len ≤ block.slot.end

-- so it is of what the hand has in that slot
abbrev pub OfSlot : Caller → Token → (Held → Type 0) → Type 0
OfSlot hand slot P = (h : Held) → find slot.meta slot.index hand.view.held ≡ Some h → P h

-- the class of the slot may serve n bytes with an align
abbrev pub Serves : ℕ → ℕ → Held → Type 0
Serves n align h = IsAllowed h.place.group.tag ((n + max align 16) - 16)

-- ---- frames
-- from the group's first slot to an address, in units of 16 bytes
abbrev pub offset_in : Token → ℕ → ℕ
offset_in slot at = (at - slot.storage) / 16

-- the fields of the header cell of n bytes at an address: a wide offset stands in the cell before
abbrev pub ib_at : Token → ℕ → ℕ → Ib
ib_at slot at n = record {
  check = cond (leb 65536 (offset_in slot at)) 1 0;
  index = slot.index;
  reserved = min ((slot.end - at) - n) 5;
  offset = cond (leb 65536 (offset_in slot at)) 0 (offset_in slot at);
}

abbrev pub header_at : Token → ℕ → ℕ → ℕ
header_at slot at n = cell_with (ib_at slot at n)

-- the slot's known cells are the frame of n bytes at an address, whatever the header cell in front of it is
pub record IsReady (slot : Token) (at n : ℕ) (h : Held) : Type 0 where
  pub whole : at % 16 ≡ 0
  pub from : slot.start ≤ at
  pub roomy : at < slot.start + slot.room
  pub within : at + n ≤ slot.end
  pub wide : 65536 ≤ offset_in slot at → (slot.start < at) × Knows (at - 8) (offset_in slot at) h
  pub trailer : IsTrailer h ((slot.end - at) - n)
  pub shift : IsShift h at

-- the header cell was loaded, and then stored with 255 in its byte 1 and 0 behind it, and the block went with its entry
pub record Kills (before : View) (block : BlockToken) (number : ℕ) (after : View) : Type 0 where
  pub header : ℕ
  pub view : after ≡ killed (loaded before (block.at - 4) header) block.slot.meta block.slot.index block.at number (header % 256 + 65280)
