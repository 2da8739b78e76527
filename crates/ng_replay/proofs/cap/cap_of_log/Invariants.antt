use Rattle.std.proofs.Common.{◌<◌, take}
use Rattle.ng_terms.specs.Heap.{large}
use Rattle.ng_replay.specs.Caps.{IsCapIn}
use Rattle.ng_replay.proofs.cap.cap_of_log.Given as goal

abbrev pub invariant-loop-op : goal.invariant-loop-op
invariant-loop-op l = IsCapIn l.mode (take l.op-index l.ops) l.cap × (l.cap < large)
