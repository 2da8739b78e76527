use Rattle.std.proofs.Common.{length}
use Rattle.ng_lists.specs.Rings.{after, ring_of, rotated}
use Rattle.ng_serve.proofs.Candidates.{Walked}
use Rattle.ng_serve.proofs.choosing.choose.Given as goal

abbrev pub invariant-loop-offer : goal.invariant-loop-offer
invariant-loop-offer g l = Walked l.fn.seat (ring_of l.rings l.class) l.start l.meta l.best l.seat

abbrev pub decreases-loop-offer : goal.decreases-loop-offer
decreases-loop-offer g l = length (after l.meta (rotated l.start (ring_of l.rings l.class)))
