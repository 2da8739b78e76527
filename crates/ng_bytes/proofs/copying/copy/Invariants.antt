use Rattle.std.proofs.Common.{◌≡◌, ◌+◌, ◌-◌, ◌%◌, ◌<◌, ◌≤◌}
use Rattle.ng_space.specs.Blocks.{HasBlock}
use Rattle.ng_bytes.specs.Steps.{Changes, HasCopied}
use Rattle.ng_bytes.proofs.copying.copy.Given as goal

-- the bytes so far are copied, in whole cells but for the last
abbrev pub invariant-loop-done : goal.invariant-loop-done
invariant-loop-done g l = record {
  within : l.done ≤ l.count;
  whole : l.done < l.count → l.done % 4 ≡ 0;
  from : HasBlock l.hand l.from;
  copied : HasCopied l.hand l.from l.to l.done;
  changes : Changes l.to.at (l.to.at + l.done) l.to l.initial.hand l.hand;
}

abbrev pub decreases-loop-done : goal.decreases-loop-done
decreases-loop-done g l = l.count - l.done
