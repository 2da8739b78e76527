use Rattle.std.proofs.Common.{◌≡◌, ◌≤◌}
use Rattle.ng_policy.specs.Musl.{fitting}
use Rattle.ng_policy.proofs.musl.halved.Given as goal

abbrev pub invariant-loop-slots : goal.invariant-loop-slots
invariant-loop-slots l = (fitting l.units l.slots ≡ fitting l.units l.initial.slots) × (l.slots ≤ 32)

abbrev pub decreases-loop-slots : goal.decreases-loop-slots
decreases-loop-slots l = l.slots
