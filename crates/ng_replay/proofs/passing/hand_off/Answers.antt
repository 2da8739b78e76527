use Rattle.ng_replay.proofs.OpLemmas.{AreHeld-sent}
use Rattle.ng_replay.proofs.passing.hand_off.Goals as goal

pub returns-clause-held : goal.returns-clause-held
returns-clause-held g c = AreHeld-sent _ _ _ c.in-Some-block.block c.in-Some-block.is c.send-parcel.ensures.book.number c.send-parcel.ensures.leaves
