use Rattle.ng_replay.proofs.cap.asked_by.Goals as goal

pub returns-in-Make-clause-capped : goal.returns-in-Make-clause-capped
returns-in-Make-clause-capped c = rw c.in-Make.is (rw c.alignment.ensures at c.most_asked.ensures.greatest)

pub returns-in-Move-clause-capped : goal.returns-in-Move-clause-capped
returns-in-Move-clause-capped c = rw c.in-Move.is (rw c.alignment-in-Move.ensures at c.most_asked-in-Move.ensures.greatest)
