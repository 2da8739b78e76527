-- Blocks on their way from hand to hand as contracts see them.
use Rattle.std.specs.Prelude.{◌≡◌, ℕ, Option, Some, None, true}
use Rattle.ng_view.specs.Lists.{is_at}
use Rattle.ng_view.specs.Steps.{parcel_of, spent}
use Rattle.ng_view.specs.declared.view.Held.{Held}
use Rattle.ng_view.specs.declared.view.View.{View}
use Rattle.ng_space.specs.Blocks.{BlockToken}

-- what is known of the block's slot, and the block as its sender had it
pub record ParcelToken : Type 0 where
  pub view : View
  pub block : BlockToken

-- the view of a slot that goes into a parcel
abbrev pub sent_with : Option Held → View
sent_with None = spent
sent_with (Some h) = parcel_of h

-- the block in the hand of another number
abbrev pub taken_by : BlockToken → ℕ → BlockToken
taken_by block number = record block { slot = record block.slot { hand = number } }

-- what is known of the parcel is of one slot, that of its block
pub record IsOfOneSlot (parcel : ParcelToken) : Type 0 where
  pub held : Held
  pub view : parcel.view ≡ parcel_of held
  pub there : is_at parcel.block.slot.meta parcel.block.slot.index held.place ≡ true
