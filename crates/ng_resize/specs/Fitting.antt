-- Where a block may get another length without a move.
use Rattle.std.specs.Prelude.{◌≡◌, ◌⊎◌, ℕ, ◌+◌, ◌-◌, ◌<◌, ◌≤◌}
use Rattle.ng_class.specs.Class.{IsLeastClass}
use Rattle.ng_frame.specs.Inspects.{gap_of}
use Rattle.ng_heap.specs.Causes.{threshold}
use Rattle.ng_space.specs.Blocks.{BlockToken}
use Rattle.ng_terms.specs.Accounts.{pages_for}
use Rattle.ng_view.specs.Frame.{IsShift}
use Rattle.ng_view.specs.declared.view.Held.{Held}

-- a slot of a class below 48 with room for n bytes in its gap: the class is at most one above the least that holds them
pub record FitsSlot (class gap n : ℕ) : Type 0 where
  pub slotted : class < 48
  pub within : n ≤ gap
  pub small : n < threshold
  pub near : (least : ℕ) → IsLeastClass n least → class ≤ least + 1

-- a block by itself: n bytes and those in front of it in its slot take just the pages of its run
pub record FitsRun (class pages skipped n : ℕ) : Type 0 where
  pub lone : class ≡ 63
  pub large : threshold ≤ n
  pub exact : pages_for (n + skipped) ≡ pages

-- the rule: a block of n bytes may stand in the slot where this block does
abbrev pub StaysInPlace : ℕ → BlockToken → Held → Type 0
StaysInPlace n block h = (class : ℕ) × (h.place.group.tag ≡ class + 1)
    × (FitsSlot class (gap_of block) n ⊎ FitsRun class h.place.group.maplen (block.at - block.slot.start) n)

-- and the header cell at the slot's start, where the block begins further on, tells its place
pub record MayStay (n : ℕ) (block : BlockToken) (h : Held) : Type 0 where
  pub rule : StaysInPlace n block h
  pub marked : IsShift h block.at
