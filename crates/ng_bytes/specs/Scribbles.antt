-- A byte of a block that is stored.
use Rattle.std.specs.Prelude.{◌≡◌, ℕ, ◌+◌, ◌-◌, ◌*◌, ◌/◌, ◌%◌, ◌^◌}
use Rattle.ng_header.specs.Bytes.{byte_of}
use Rattle.ng_space.specs.Blocks.{BlockToken}
use Rattle.ng_view.specs.Steps.{loaded, stored}
use Rattle.ng_view.specs.declared.view.View.{View}

-- the cell with another byte at one of its four places
abbrev pub with_byte : ℕ → ℕ → ℕ → ℕ
with_byte cell place byte = (cell - byte_of cell place * 2 ^ (8 * place)) + byte * 2 ^ (8 * place)

-- the cell of the byte at y was loaded, and then stored with that byte
pub record Scribbles (before : View) (block : BlockToken) (y byte : ℕ) (after : View) : Type 0 where
  pub word : ℕ
  pub view : after ≡ stored (loaded before (4 * (y / 4)) word) block.slot.meta block.slot.index (4 * (y / 4))
      (with_byte (word % 4294967296) (y % 4) byte)
