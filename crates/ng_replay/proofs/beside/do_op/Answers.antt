use Rattle.std.proofs.Common.{inl, refl, subst, sym}
use Rattle.ng_space.specs.Blocks.{HasFramed}
use Rattle.ng_replay.specs.Serving.{IsApartFrom}
use Rattle.ng_replay.proofs.MoveLemmas.{HasFramed-kept, IsApartFrom-fresh}
use Rattle.ng_replay.proofs.beside.do_op.Goals as goal

pub make-made-requires-clause-cap : goal.make-made-requires-clause-cap
make-made-requires-clause-cap g c = rw c.in-Make.is at c.requires.cap

pub make-made-requires-in-None-clause-cap : goal.make-made-requires-in-None-clause-cap
make-made-requires-in-None-clause-cap g c = rw c.in-Move.is at c.requires.cap

pub move_from-requires-clause-cap : goal.move_from-requires-clause-cap
move_from-requires-clause-cap g c = (rw c.in-Move.is at c.requires.cap) c.in-Move.size (inl refl)

pub returns-in-Free-clause-entries : goal.returns-in-Free-clause-entries
returns-in-Free-clause-entries g c = rw c.in-Free.is (c.free.ensures.entries c.args.mode)

pub returns-in-Make-clause-others : goal.returns-in-Make-clause-others
returns-in-Make-clause-others g c =
    λ other apart f. HasFramed-kept _ _ c.make-made.ensures.made.frames.number c.make-made.ensures.made.slots other (subst (λ hand. HasFramed hand other) (sym c.leave.ensures) f)

pub returns-in-Make-clause-apart : goal.returns-in-Make-clause-apart
returns-in-Make-clause-apart g c =
    λ other apart f. IsApartFrom-fresh c.leave.new.hand c.make-made.result.1 other c.make-made.ensures.made.fresh
    (subst (λ hand. HasFramed hand other) (sym c.leave.ensures) f)

pub returns-in-Some-clause-others : goal.returns-in-Some-clause-others
returns-in-Some-clause-others g c =
    λ other apart f. c.move_from.ensures.resizes.others other (subst (λ source. IsApartFrom source other) c.in-Some.is apart) f

pub returns-in-None-clause-others : goal.returns-in-None-clause-others
returns-in-None-clause-others g c = λ other apart f. HasFramed-kept _ _ c.make-made-in-None.ensures.made.frames.number c.make-made-in-None.ensures.made.slots other f

pub returns-in-None-clause-apart : goal.returns-in-None-clause-apart
returns-in-None-clause-apart g c =
    λ other apart f. IsApartFrom-fresh c.args.hand.now c.make-made-in-None.result.1 other c.make-made-in-None.ensures.made.fresh f

pub returns-in-Make-clause-zeroed : goal.returns-in-Make-clause-zeroed
returns-in-Make-clause-zeroed g c = λ making none zero. c.make-made.ensures.zeroed none zero

pub returns-in-Some-clause-zeroed : goal.returns-in-Some-clause-zeroed
returns-in-Some-clause-zeroed g c = λ making. absurd (rw (c.in-Some.is, c.in-Move.is) at making)

pub returns-in-None-clause-zeroed : goal.returns-in-None-clause-zeroed
returns-in-None-clause-zeroed g c = λ making none zero. c.make-made-in-None.ensures.zeroed none zero

pub returns-in-Make-clause-stays : goal.returns-in-Make-clause-stays
returns-in-Make-clause-stays g c = rw c.in-Make.is tt

pub returns-in-Make-clause-kept : goal.returns-in-Make-clause-kept
returns-in-Make-clause-kept g c = rw c.in-Make.is tt

pub returns-in-Free-clause-stays : goal.returns-in-Free-clause-stays
returns-in-Free-clause-stays g c = rw c.in-Free.is tt

pub returns-in-Free-clause-kept : goal.returns-in-Free-clause-kept
returns-in-Free-clause-kept g c = rw c.in-Free.is tt

pub returns-in-Some-clause-stays : goal.returns-in-Some-clause-stays
returns-in-Some-clause-stays g c = rw (c.in-Some.is, c.in-Move.is) c.move_from.ensures.stays

pub returns-in-Some-clause-kept : goal.returns-in-Some-clause-kept
returns-in-Some-clause-kept g c = rw (c.in-Some.is, c.in-Move.is) c.move_from.ensures.kept

pub returns-in-None-clause-stays : goal.returns-in-None-clause-stays
returns-in-None-clause-stays g c = rw (c.in-None.is, c.in-Move.is) tt

pub returns-in-None-clause-kept : goal.returns-in-None-clause-kept
returns-in-None-clause-kept g c = rw (c.in-None.is, c.in-Move.is) tt
