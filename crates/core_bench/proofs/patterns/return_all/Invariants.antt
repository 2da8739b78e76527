use Rattle.std.proofs.Common.{◌≡◌, ◌≤◌, length, vec_capacity}
use Rattle.ng_group.specs.Tests.{HasAll}
use Rattle.core_bench.proofs.patterns.return_all.Given as goal

abbrev pub invariant-loop-core : goal.invariant-loop-core
invariant-loop-core g l = HasAll l.hand l.slots.items × (60 ≤ vec_capacity l.slots) × (l.hand.spare ≡ l.initial.hand.spare)

abbrev pub decreases-loop-core : goal.decreases-loop-core
decreases-loop-core g l = length l.slots.items
