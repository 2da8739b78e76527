use Rattle.std.proofs.Common.{subst}
use Rattle.ng_view.specs.declared.view.View.{View}
use Rattle.ng_view.specs.Loads.{TellsGroups}
use Rattle.ng_space.specs.Placed.{AreOfGroups}
use Rattle.ng_space.proofs.Slotted.{looks_slots}
use Rattle.ng_space.proofs.Stepped.{looks_stays}
use Rattle.ng_space.proofs.space.Space.load_seat.Goals as goal

pub load_told-requires-clause-may : goal.load_told-requires-clause-may
load_told-requires-clause-may g c = looks_slots _ _ _ c.seat.invariant.leads c.args.addr

pub invariant_of-seat : goal.invariant_of-seat
invariant_of-seat g c = looks_stays _ _ _ _ _ c.seat.invariant c.load_told.ensures.table c.load_told.ensures.slots c.args.addr c.load_told.result c.load_told.ensures.told.0

pub returns-clause-told : goal.returns-clause-told
returns-clause-told g c = subst (λ (v : View). TellsGroups v c.args.addr c.load_told.result) c.seat.view_is c.load_told.ensures.told.1

pub returns-clause-slots : goal.returns-clause-slots
returns-clause-slots g c = subst AreOfGroups c.seat.view_is c.load_told.ensures.told.2
