use Rattle.std.proofs.Common.{None, sym, ◌∙◌}
use Rattle.ng_replay.proofs.MoveLemmas.{HasFramed-kept}
use Rattle.ng_replay.proofs.RowLemmas.{AreApartFrom-fresh, AreApartFrom-taken, AreHeld-kept, AreHeld-taken, get_or-there}
use Rattle.ng_replay.proofs.source.take_source.Goals as goal

pub returns-in-Own-clause-apart : goal.returns-in-Own-clause-apart
returns-in-Own-clause-apart g c =
    rw c.take.ensures.after
    (AreApartFrom-taken c.args.hand.now c.args.row.now c.in-Own.maker c.take.result
    (c.take.ensures.value ∙ get_or-there c.args.row.now c.in-Own.maker c.index-row-maker.result None (c.requires.earlier c.in-Own.maker (sym c.origin.ensures ∙ c.in-Own.is))) c.requires.held)

pub returns-in-Own-clause-held : goal.returns-in-Own-clause-held
returns-in-Own-clause-held g c = rw c.take.ensures.after (AreHeld-taken c.args.hand.now c.args.row.now c.in-Own.maker c.requires.held)

pub returns-in-Some-clause-apart : goal.returns-in-Some-clause-apart
returns-in-Some-clause-apart g c = AreApartFrom-fresh c.args.hand.now c.args.row.now c.receive.result c.receive.ensures.fresh c.requires.held

pub returns-in-Some-clause-held : goal.returns-in-Some-clause-held
returns-in-Some-clause-held g c =
    AreHeld-kept c.args.hand.now c.receive.new.hand c.args.row.now
    (λ op block is framed. HasFramed-kept _ _ c.receive.ensures.book.number c.receive.ensures.slots block framed) c.requires.held
