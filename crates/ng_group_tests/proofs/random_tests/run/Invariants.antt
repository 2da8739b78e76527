use Rattle.std.proofs.Common.{◌≤◌, length, vec_capacity}
use Rattle.ng_group.specs.Tests.{HasAll}
use Rattle.ng_group_tests.proofs.random_tests.run.Given as goal

abbrev pub invariant-loop-call : goal.invariant-loop-call
invariant-loop-call g l = HasAll l.hand l.slots.items × (length l.slots.items ≤ 1500) × (1500 ≤ vec_capacity l.slots)
