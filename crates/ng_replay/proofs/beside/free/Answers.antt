use Rattle.std.proofs.Common.{subst}
use Rattle.ng_replay.specs.Serving.{IsApartFrom}
use Rattle.ng_replay.proofs.MoveLemmas.{HasFramed-beside, KeepsFrames-same, KeepsRest-same}
use Rattle.ng_replay.proofs.beside.free.Goals as goal

pub returns-then-eq-clause-frames : goal.returns-then-eq-clause-frames
returns-then-eq-clause-frames g c = KeepsFrames-same c.args.hand.now c.leave.new.hand c.leave.ensures

pub returns-then-eq-clause-rest : goal.returns-then-eq-clause-rest
returns-then-eq-clause-rest g c = KeepsRest-same c.args.hand.now c.leave.new.hand c.leave.ensures

pub returns-in-Some-clause-others : goal.returns-in-Some-clause-others
returns-in-Some-clause-others g c =
    λ other apart f. HasFramed-beside _ _ _ c.free_framed.ensures.frames.number c.free_framed.ensures.others other (subst (λ source. IsApartFrom source other) c.in-Some.is apart) f
