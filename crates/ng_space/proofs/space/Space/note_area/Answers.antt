use Rattle.std.proofs.Common.{sym, subst}
use Rattle.ng_view.specs.Conditions.{AreaBuilt}
use Rattle.ng_view.specs.declared.view.View.{View}
use Rattle.ng_view.specs.Notes.{plain_run}
use Rattle.ng_rule.proofs.lock.Noting.{notes_area}
use Rattle.ng_space.proofs.Annotated.{area_stays}
use Rattle.ng_space.proofs.space.Space.note_area.Goals as goal

pub note_told-requires-clause-may : goal.note_told-requires-clause-may
note_told-requires-clause-may g c = notes_area _ _ _ c.seat.invariant.leads c.args.addr (subst (λ (v : View). AreaBuilt g.N.Name.facts.start v (plain_run c.args.addr 1)) (sym c.seat.view_is) c.requires.built)

pub invariant_of-seat : goal.invariant_of-seat
invariant_of-seat g c = area_stays _ _ _ _ _ c.seat.invariant c.note_told.ensures.table c.note_told.ensures.slots c.args.addr c.note_told.ensures.told.1
