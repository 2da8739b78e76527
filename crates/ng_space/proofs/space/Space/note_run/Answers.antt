use Rattle.std.proofs.Common.{sym, subst}
use Rattle.ng_view.specs.declared.view.View.{View}
use Rattle.ng_view.specs.Notes.{MayNoteRun}
use Rattle.ng_rule.proofs.lock.Noting.{notes_run}
use Rattle.ng_space.proofs.Annotated.{run_stays}
use Rattle.ng_space.proofs.space.Space.note_run.Goals as goal

pub note_told-requires-clause-may : goal.note_told-requires-clause-may
note_told-requires-clause-may g c = notes_run _ _ _ c.seat.invariant.leads c.args.addr c.args.pages c.args.live (subst (λ (v : View). MayNoteRun g.N.Name.facts.start v c.args.addr c.args.pages c.args.live) (sym c.seat.view_is) c.requires.run)

pub invariant_of-seat : goal.invariant_of-seat
invariant_of-seat g c = run_stays _ _ _ _ _ c.seat.invariant c.note_told.ensures.table c.note_told.ensures.slots c.args.addr c.args.pages c.args.live c.note_told.ensures.told.1
