use Rattle.std.proofs.Common.{◌≡◌}
use Rattle.ng_generator.specs.Generated.{after}
use Rattle.ng_generator.proofs.made.run.Given as goal

abbrev pub invariant-loop-number : goal.invariant-loop-number
invariant-loop-number l = l.generator ≡ after l.seed l.number
