use Rattle.std.proofs.Common.{length}
use Rattle.ng_group.specs.Tests.{HasAll}
use Rattle.ng_group_tests.proofs.random_tests.return_all.Given as goal

abbrev pub invariant-loop-core : goal.invariant-loop-core
invariant-loop-core g l = HasAll l.hand l.slots.items

abbrev pub decreases-loop-core : goal.decreases-loop-core
decreases-loop-core g l = length l.slots.items
