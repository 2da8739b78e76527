use Rattle.std.specs.Prelude.{IfSome}
use Rattle.ng_space.specs.Tests.{HasEntered}
use Rattle.ng_space.specs.Tokens.{HasSlot}
use Rattle.ng_space_tests.proofs.race_tests.trade.Given as goal

abbrev pub invariant-loop-round : goal.invariant-loop-round
invariant-loop-round g l = IfSome l.kept (HasSlot l.hand) × HasEntered l.initial.hand l.hand
