use Rattle.std.proofs.Common.{refl}
use Rattle.ng_space.proofs.LeavingFrames.{leaves_loaded}
use Rattle.ng_space.proofs.space.Space.counter.Goals as goal

pub returns-clause-view : goal.returns-clause-view
returns-clause-view g c = record { word = c.load.result; view = c.load.ensures.view; counter_is = refl }

pub returns-clause-leaves : goal.returns-clause-leaves
returns-clause-leaves g c = leaves_loaded c.args.hand.now.view c.load.new.hand.view _ c.load.result c.load.ensures.view
