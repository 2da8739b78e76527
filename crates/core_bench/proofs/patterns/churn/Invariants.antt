use Rattle.std.proofs.Common.{◌≡◌, ◌≤◌, [], vec_capacity}
use Rattle.core_bench.proofs.patterns.churn.Given as goal

abbrev pub invariant-loop : goal.invariant-loop
invariant-loop g l = (l.slots.items ≡ []) × (60 ≤ vec_capacity l.slots) × (1 ≤ l.hand.spare)
