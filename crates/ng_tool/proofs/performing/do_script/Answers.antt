use Rattle.ng_tool.proofs.EndLemmas.{named}
use Rattle.ng_tool.proofs.performing.do_script.Goals as goal

pub run_script-requires-clause-named : goal.run_script-requires-clause-named
run_script-requires-clause-named g c = named _ _ _ _ _ 1 c.requires.no_runs c.in-Ok.ensures.fits
