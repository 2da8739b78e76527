use Rattle.ng_space.specs.Tokens.{HasSlot}
use Rattle.core_bench.proofs.steps.stores.Given as goal

abbrev pub invariant-loop : goal.invariant-loop
invariant-loop g l = HasSlot l.hand l.slot
