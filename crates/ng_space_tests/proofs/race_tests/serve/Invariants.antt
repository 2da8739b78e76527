use Rattle.ng_space_tests.specs.Race.{Serves}
use Rattle.ng_space_tests.proofs.race_tests.serve.Given as goal

abbrev pub invariant-loop-round : goal.invariant-loop-round
invariant-loop-round g l = Serves l.seat
