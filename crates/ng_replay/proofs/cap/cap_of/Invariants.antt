use Rattle.std.proofs.Common.{◌<◌, take}
use Rattle.ng_replay.specs.Serving.{IsCapOf}
use Rattle.ng_terms.specs.Heap.{large}
use Rattle.ng_replay.proofs.CapLemmas.{with_logs}
use Rattle.ng_replay.proofs.cap.cap_of.Given as goal

abbrev pub invariant-loop-ops : goal.invariant-loop-ops
invariant-loop-ops l = IsCapOf l.cap (with_logs l.plan (take l.ops-index l.plan.logs)) l.mode × (l.cap < large)
