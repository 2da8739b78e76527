-- What holds of the seats of parcels. No public clause cites this module.
use Rattle.std.specs.Prelude.{◌≡◌, true, [], Some}
use Rattle.atomic_table.specs.Seated.{TableId}
use Rattle.atomic_table.specs.declared.shared.Seat.{Seat}
use Rattle.ng_terms.specs.Heap.{extent}
use Rattle.ng_view.specs.Frame.{IsFramed}
use Rattle.ng_view.specs.Lists.{is_at}
use Rattle.ng_view.specs.Steps.{parcel_of}
use Rattle.ng_view.specs.declared.view.Held.{Held}
use Rattle.ng_view.specs.declared.view.View.{View}
use Rattle.ng_space.specs.Blocks.{BlockToken}
use Rattle.ng_space.specs.Tokens.{LiesAt}

-- the seat of a parcel has the block, and knows its frame
pub record IsPacked (table : TableId) (seat : Seat (Unit {0}) View) (block : BlockToken) : Type 0 where
  pub fits : seat.table_id ≡ table
  pub no_slots : seat.me.1 ≡ []
  pub held : Held
  pub view : seat.me.0 ≡ parcel_of held
  pub there : is_at block.slot.meta block.slot.index held.place ≡ true
  pub live : held.block ≡ Some (extent block.at block.len block.align)
  pub place : LiesAt held.place block.slot
  pub framed : IsFramed held block.at block.len
