-- Slots as contracts see them.
use Rattle.std.specs.Prelude.{◌≡◌, ℕ, ◌+◌, ◌*◌, ◌%◌, ◌<◌, ◌≤◌, Some, None}
use Rattle.ng_meta.specs.Place.{IsMetaPlace}
use Rattle.ng_view.specs.Lists.{find}
use Rattle.ng_view.specs.Places as place
use Rattle.ng_view.specs.declared.view.Held.{Held}
use Rattle.ng_view.specs.declared.view.Place.{Place}
use Rattle.ng_view.specs.declared.view.Start.{Start}
use Rattle.ng_space.specs.Callers.{Caller}

-- a slot of a hand: the meta of its group, its index, where the group's first slot begins, where it begins
-- and ends, the room for a block's start, and the hand's number
pub record Token : Type 0 where
  pub meta : ℕ
  pub index : ℕ
  pub storage : ℕ
  pub start : ℕ
  pub end : ℕ
  pub room : ℕ
  pub hand : ℕ

-- the slot lies where the token says
pub record LiesAt (p : Place) (token : Token) : Type 0 where
  pub storage : token.storage ≡ p.group.base + 16
  pub start : token.start ≡ place.slot_start p
  pub end : token.end ≡ place.slot_end p
  pub room : token.room ≡ place.room p.group

-- the hand has the slot, without a live block
pub record HasSlot (hand : Caller) (slot : Token) : Type 0 where
  pub own : slot.hand ≡ hand.number
  pub held : Held
  pub found : find slot.meta slot.index hand.view.held ≡ Some held
  pub free : held.block ≡ None
  pub place : LiesAt held.place slot

-- what holds of the numbers of every token
pub record IsToken (key : Start) (token : Token) : Type 0 where
  pub place : IsMetaPlace token.meta key.pages
  pub few : token.index < 32
  pub whole : token.storage % 16 ≡ 0
  pub first : token.storage ≤ token.start
  pub below : token.end + 4 ≤ 4096 * key.pages
  pub addressed : key.pages ≤ 16384
