use Rattle.std.proofs.Common.{ℕ, ◌+◌, ◌<◌, get_or}
use Rattle.ng_frame.specs.Judging.{IsSureByte}
use Rattle.ng_space.specs.Blocks.{HasBlock, OfSlot}
use Rattle.ng_space.specs.Leaving.{KeepsBook, LeavesAll}
use Rattle.ng_bytes.proofs.reading.read.Given as goal

-- the bytes so far are those of the block
abbrev pub invariant-loop-i : goal.invariant-loop-i
invariant-loop-i g l = record {
  has : HasBlock l.hand l.block;
  bytes : (i : ℕ) → i < l.i → OfSlot l.hand l.block.slot (IsSureByte (l.block.at + l.from + i) (get_or l.out i 0));
  leaves : LeavesAll l.initial.hand.view l.hand.view;
  book : KeepsBook l.initial.hand l.hand;
}
