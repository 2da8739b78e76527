use Rattle.std.proofs.Common.{◌≡◌, ◌≤◌, ◌-◌, length, take}
use Rattle.ng_mtrace.specs.Streams.{added}
use Rattle.ng_mtrace.proofs.writing.write_all.Given as goal

-- the bytes up to the place were written
abbrev pub invariant-loop-at : goal.invariant-loop-at
invariant-loop-at g l = record {
  within : l.at ≤ length l.bytes;
  written : g.O.Sink.written l.out ≡ added (g.O.Sink.written l.initial.out) (take l.at l.bytes);
  later : g.O.Sink.faults l.initial.out ≤ g.O.Sink.faults l.out;
}

abbrev pub decreases-loop-at : goal.decreases-loop-at
decreases-loop-at g l = length l.bytes - l.at
