use Rattle.ng_space.proofs.LeavingFrames.{leaves_all_then}
use Rattle.ng_resize.proofs.fitting.may_stay.Goals as goal

pub returns-then-not-fits-clause-leaves : goal.returns-then-not-fits-clause-leaves
returns-then-not-fits-clause-leaves g c = leaves_all_then c.args.hand.now.view c.locate-location.new.hand.view c.fits.new.hand.view c.locate-location.ensures.leaves c.fits.ensures.leaves

pub returns-clause-leaves : goal.returns-clause-leaves
returns-clause-leaves g c =
    leaves_all_then c.args.hand.now.view c.locate-location.new.hand.view c.is_marked.new.hand.view c.locate-location.ensures.leaves
    (leaves_all_then c.locate-location.new.hand.view c.fits.new.hand.view c.is_marked.new.hand.view c.fits.ensures.leaves c.is_marked.ensures.leaves)
