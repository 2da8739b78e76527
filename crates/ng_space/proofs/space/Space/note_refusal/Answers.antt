use Rattle.std.proofs.Common.{sym, subst, arith}
use Rattle.ng_view.specs.declared.view.View.{View}
use Rattle.ng_view.specs.Notes.{IsNewRefusal}
use Rattle.ng_rule.proofs.lock.Noting.{notes_refusal}
use Rattle.ng_space.proofs.Annotated.{refusal_stays}
use Rattle.ng_space.proofs.space.Space.note_refusal.Goals as goal

pub note_told-requires-clause-may : goal.note_told-requires-clause-may
note_told-requires-clause-may g c = notes_refusal _ _ _ c.seat.invariant.leads c.args.number (subst (λ (v : View). IsNewRefusal v c.args.number) (sym c.seat.view_is) c.requires.number) (let f = c.ranges.number.fits in omega arith)

pub invariant_of-seat : goal.invariant_of-seat
invariant_of-seat g c = refusal_stays _ _ _ _ _ c.seat.invariant c.note_told.ensures.table c.note_told.ensures.slots c.args.number c.note_told.ensures.told.1
