-- The stores of the lock's seat in pages that it has.
use Rattle.std.specs.Prelude.{◌≡◌, ◌⊎◌, ℕ, ◌+◌, ◌%◌, Some}
use Rattle.ng_view.specs.Conditions.{Builds}
use Rattle.ng_view.specs.LockSteps.{built}
use Rattle.ng_view.specs.Lists.{Among, find}
use Rattle.ng_view.specs.Places.{Owns, slot_start}
use Rattle.ng_view.specs.Steps.{stored}
use Rattle.ng_view.specs.declared.view.Group.{Group}
use Rattle.ng_view.specs.declared.view.Held.{Held}
use Rattle.ng_view.specs.declared.view.View.{View}

-- the cell has the active index of a live group
pub record IsActiveIndex (v : View) (a : ℕ) : Type 0 where
  pub group : Group
  pub there : Among group v.desk.groups
  pub place : a ≡ group.base + 8

-- the cell is one of a slot in motion
pub record IsInMotion (v : View) (a : ℕ) : Type 0 where
  pub slot : Held
  pub found : find slot.place.group.meta slot.place.index v.held ≡ Some slot
  pub own : Owns slot.place a
  pub whole : a % 4 ≡ 0

-- x may come into that cell: in the one before the slot's start its low byte is 0
pub record FitsMotion (v : View) (a x : ℕ) : Type 0 where
  pub cell : IsInMotion v a
  pub low : a + 4 ≡ slot_start cell.slot.place → x % 256 ≡ 0

-- the seat builds or clears the cell, or it has an active index, or it is one of a slot in motion
abbrev pub MayStore : View → ℕ → ℕ → Type 0
MayStore v a x = Builds v a ⊎ IsActiveIndex v a ⊎ FitsMotion v a x

-- x was stored at a: a cell that the seat builds, or one of a slot in motion, is then known
pub record Stores (v : View) (a x : ℕ) (w : View) : Type 0 where
  pub page : Builds v a → w ≡ built v a x
  pub index : IsActiveIndex v a → w ≡ v
  pub slot : (c : IsInMotion v a) → w ≡ stored v c.slot.place.group.meta c.slot.place.index a x
