use Rattle.ng_tool.proofs.EndLemmas.{named}
use Rattle.ng_tool.proofs.performing.replay_plan.Goals as goal

pub run-requires-clause-named : goal.run-requires-clause-named
run-requires-clause-named g c = named _ _ _ _ _ _ c.requires.no_runs c.in-Ok.ensures.fits
