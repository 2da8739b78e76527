use Rattle.std.proofs.Common.{◌-◌, ◌≡◌, ◌<◌, ◌≤◌, ◌^◌, ◌%◌, length}
use Rattle.ng_mtrace.specs.Plain.{AreDigitsFrom}
use Rattle.ng_mtrace.proofs.number.last_digits.Given as goal

-- the digits so far, and by what the next one counts
abbrev pub invariant-loop-start : goal.invariant-loop-start
invariant-loop-start l = record {
  read : AreDigitsFrom l.start l.text l.value;
  above : l.low ≤ l.start;
  small : l.value < 16 ^ (length l.text - l.start);
  scaled : l.scale ≡ 16 ^ (length l.text - l.start) % 2 ^ 64;
}

abbrev pub decreases-loop-start : goal.decreases-loop-start
decreases-loop-start l = l.start - l.low
