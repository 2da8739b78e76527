use Rattle.std.proofs.Common.{ap, ◌∙◌}
use Rattle.ng_space.specs.Callers.{fresh_callers}
use Rattle.ng_replay.proofs.CrewLemmas.{length-callers, receivers_within}
use Rattle.ng_replay_tests.proofs.threading_tests.replayed.Goals as goal

pub open-requires-clause-receivers : goal.open-requires-clause-receivers
open-requires-clause-receivers g c = receivers_within c.args.plan.now c.requires.sound

pub open-requires-3-clause-hands : goal.open-requires-3-clause-hands
open-requires-3-clause-hands g c = length-callers c.args.plan.now _ (c.in-Ok-open.ensures.hands ∙ ap (fresh_callers 1) c.requires.parts.rooms)
