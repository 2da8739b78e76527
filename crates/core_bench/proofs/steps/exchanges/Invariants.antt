use Rattle.ng_space.specs.Tokens.{HasSlot}
use Rattle.core_bench.proofs.steps.exchanges.Given as goal

abbrev pub invariant-loop : goal.invariant-loop
invariant-loop g l = HasSlot l.hand l.slot
