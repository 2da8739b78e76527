use Rattle.std.proofs.Common.{◌≡◌, ℕ, ◌+◌, ◌-◌, ◌%◌, ◌<◌, ◌≤◌}
use Rattle.ng_space.specs.Blocks.{OfSlot}
use Rattle.ng_view.specs.Frame.{KnowsByte}
use Rattle.ng_bytes.specs.Steps.{Changes}
use Rattle.ng_bytes.proofs.clearing.clear.Given as goal

-- the bytes so far are 0, in whole cells but for the last
abbrev pub invariant-loop-done : goal.invariant-loop-done
invariant-loop-done g l = record {
  within : l.done ≤ l.count;
  whole : l.done < l.count → l.done % 4 ≡ 0;
  zeros : (i : ℕ) → i < l.done → OfSlot l.hand l.block.slot (KnowsByte (l.block.at + i) 0);
  changes : Changes l.block.at (l.block.at + l.done) l.block l.initial.hand l.hand;
}

abbrev pub decreases-loop-done : goal.decreases-loop-done
decreases-loop-done g l = l.count - l.done
