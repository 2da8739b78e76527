use Rattle.ng_space_tests.specs.Trials.{IsCleared}
use Rattle.ng_space_tests.proofs.page.clear.Given as goal

abbrev pub invariant-loop-k : goal.invariant-loop-k
invariant-loop-k g l = IsCleared l.initial.seat l.from l.k l.seat
