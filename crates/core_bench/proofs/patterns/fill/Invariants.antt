use Rattle.std.proofs.Common.{◌≡◌, ◌≤◌, length, vec_capacity}
use Rattle.ng_group.specs.Tests.{HasAll}
use Rattle.core_bench.proofs.patterns.fill.Given as goal

abbrev pub invariant-loop : goal.invariant-loop
invariant-loop g l = HasAll l.hand l.slots.items × (length l.slots.items ≡ l.counter) × (60 ≤ vec_capacity l.slots) × (1 ≤ l.hand.spare)
