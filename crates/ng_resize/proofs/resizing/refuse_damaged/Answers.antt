use Rattle.ng_space.proofs.LeavingFrames.{leaves_entered}
use Rattle.ng_resize.proofs.resizing.refuse_damaged.Goals as goal

pub returns-clause-leaves : goal.returns-clause-leaves
returns-clause-leaves g c = leaves_entered c.args.hand.now.view c.enter.new.hand.view _ _ c.enter.ensures.view
