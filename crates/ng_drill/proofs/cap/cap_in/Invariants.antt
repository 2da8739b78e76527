use Rattle.std.proofs.Common.{◌<◌, take}
use Rattle.ng_terms.specs.Heap.{large}
use Rattle.ng_drill.specs.Caps.{IsCapOf}
use Rattle.ng_drill.proofs.cap.cap_in.Given as goal

abbrev pub invariant-loop-command : goal.invariant-loop-command
invariant-loop-command l = IsCapOf (take l.command-index l.commands) l.cap × (l.cap < large)
