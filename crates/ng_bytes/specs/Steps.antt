-- What single steps leave of a hand. No public clause cites this module.
use Rattle.std.specs.Prelude.{ℕ, ◌+◌, ◌<◌}
use Rattle.ng_frame.specs.Contents.{KeepsAround}
use Rattle.ng_frame.specs.Judging.{IsSureByte}
use Rattle.ng_space.specs.Blocks.{BlockToken, HasBlock, OfSlot}
use Rattle.ng_space.specs.Callers.{Caller}
use Rattle.ng_space.specs.Leaving.{IsOther, KeepsBook, Leaves, Stays}
use Rattle.ng_space.specs.Tokens.{Token}
use Rattle.ng_view.specs.Frame.{KnowsByte}
use Rattle.ng_view.specs.declared.view.Held.{Held}
use Rattle.ng_view.specs.declared.view.View.{View}

-- the block is there, and of its slot only the bytes from one address up to another have changed
pub record Changes (first behind : ℕ) (block : BlockToken) (before after : Caller) : Type 0 where
  pub around : Stays block.slot.meta block.slot.index before.view after.view (KeepsAround first behind)
  pub has : HasBlock after block
  pub leaves : Leaves block.slot before.view after.view
  pub book : KeepsBook before after

-- each byte that a hand is sure of it is sure of still
pub record KeepsSure (h k : Held) : Type 0 where
  pub bytes : (y b : ℕ) → IsSureByte y b h → IsSureByte y b k

-- in each slot
abbrev pub StaySure : View → View → Type 0
StaySure v w = (m i : ℕ) → Stays m i v w KeepsSure

-- in each slot but one
abbrev pub OthersStaySure : Token → View → View → Type 0
OthersStaySure slot v w = (m i : ℕ) → IsOther slot m i → Stays m i v w KeepsSure

-- the hand is sure of so many bytes of one block, and knows them to be those of the other
abbrev pub HasCopied : Caller → BlockToken → BlockToken → ℕ → Type 0
HasCopied hand from to count = (i : ℕ) → i < count
    → (b : ℕ) × OfSlot hand from.slot (IsSureByte (from.at + i) b) × OfSlot hand to.slot (KnowsByte (to.at + i) b)
