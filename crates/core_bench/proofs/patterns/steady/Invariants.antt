use Rattle.std.proofs.Common.{◌≤◌}
use Rattle.ng_space.specs.Tokens.{HasSlot}
use Rattle.core_bench.proofs.patterns.steady.Given as goal

abbrev pub invariant-loop : goal.invariant-loop
invariant-loop g l = HasSlot l.hand l.kept × (1 ≤ l.hand.spare)
