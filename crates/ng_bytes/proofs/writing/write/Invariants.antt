use Rattle.std.proofs.Common.{ℕ, ◌+◌, ◌<◌, get_or}
use Rattle.ng_space.specs.Blocks.{OfSlot}
use Rattle.ng_view.specs.Frame.{KnowsByte}
use Rattle.ng_bytes.specs.Steps.{Changes}
use Rattle.ng_bytes.proofs.writing.write.Given as goal

-- the bytes so far are written, and no others
abbrev pub invariant-loop-i : goal.invariant-loop-i
invariant-loop-i g l = record {
  written : (i : ℕ) → i < l.i → OfSlot l.hand l.block.slot (KnowsByte (l.block.at + l.from + i) (get_or l.bytes i 0));
  changes : Changes (l.block.at + l.from) (l.block.at + l.from + l.i) l.block l.initial.hand l.hand;
}
