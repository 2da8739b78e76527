-- What is looked at before a block gets another length.
use Rattle.std.specs.Prelude.{◌≡◌, ℕ, Ok, None}
use Rattle.ng_frame.specs.Inspects.{Inspects, gap_of}
use Rattle.ng_frame.specs.Judging.{IsJudged}
use Rattle.ng_space.specs.Blocks.{BlockToken, HasFramed, OfSlot}
use Rattle.ng_space.specs.Callers.{Caller}
use Rattle.ng_space.specs.Leaving.{KeepsBook, LeavesAll}

-- the frame of the block was read, which has no damage and tells this length
pub record FindsLength (before : Caller) (block : BlockToken) (len : ℕ) (after : Caller) : Type 0 where
  pub inspects : Inspects before.view block None after.view
  pub judged : OfSlot after block.slot (λ h. IsJudged h block.at (gap_of block) (Ok len))
  pub framed : HasFramed before block → len ≡ block.len
  pub leaves : LeavesAll before.view after.view
  pub book : KeepsBook before after

-- and then where its slot lies, and whether the header cell at the slot's start tells its place
pub record LooksFirst (before : Caller) (block : BlockToken) (len : ℕ) (looked : Caller) : Type 0 where
  pub read : Caller
  pub finds : FindsLength before block len read
  pub leaves : LeavesAll read.view looked.view
  pub book : KeepsBook read looked
