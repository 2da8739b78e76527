-- What a call leaves of a hand's view.
use Rattle.std.specs.Prelude.{◌≡◌, ◌+◌}
use Rattle.ng_view.specs.declared.view.View.{View}
use Rattle.ng_space.specs.Leaving.{AreFramed}
use Rattle.ng_space.specs.Blocks.{BlockToken, HasBlock}
use Rattle.ng_space.specs.Callers.{Caller}
use Rattle.ng_space.specs.Tokens.{HasSlot, Token}
use Rattle.ng_group.specs.Hands.{IsApart}

-- the hand's number is the same, and where each of its blocks was framed, each is
pub record KeepsFrames (before after : Caller) : Type 0 where
  pub number : after.number ≡ before.number
  pub each : AreFramed before.view → AreFramed after.view

-- the view with a parcel more sent off, and with one more taken in
abbrev pub sent_one : View → View
sent_one v = record v { sent = v.sent + 1 }

abbrev pub took_one : View → View
took_one v = record v { taken = v.taken + 1 }

-- the block's slot is apart from each that the hand had
pub record IsFresh (before : Caller) (slot : Token) : Type 0 where
  pub slots : (other : Token) → HasSlot before other → IsApart other slot
  pub blocks : (other : BlockToken) → HasBlock before other → IsApart other.slot slot
