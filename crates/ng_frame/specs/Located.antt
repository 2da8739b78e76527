-- Where a block's slot lies.
use Rattle.std.specs.Prelude.{◌≡◌, ℕ, ◌+◌, ◌/◌, ◌%◌}
use Rattle.ng_view.specs.declared.view.Held.{Held}
use Rattle.ng_space.specs.Blocks.{BlockToken}
use Rattle.ng_frame.specs.declared.locating.Location.{Location}

-- the location is that of the block's slot
pub record IsLocated (location : Location) (block : BlockToken) (h : Held) : Type 0 where
  pub class : h.place.group.tag ≡ location.class + 1
  pub maplen : h.place.group.maplen ≡ location.maplen
  pub start : block.slot.start ≡ location.start

-- the header cell at a slot's start has the distance of a block that begins further on
pub record TellsDistance (header distance : ℕ) : Type 0 where
  pub check : header % 256 ≡ 0
  pub mark : header / 256 % 256 ≡ 224
  pub offset : header / 65536 ≡ distance % 65536
