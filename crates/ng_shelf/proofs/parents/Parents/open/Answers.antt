use Rattle.ng_shelf.proofs.CarrierLemmas.{opening_none}
use Rattle.std.proofs.Common.{◌*◌}
use Rattle.ng_shelf.proofs.parents.Parents.open.Goals as goal

pub returns-clause-none : goal.returns-clause-none
returns-clause-none c meta = rw (c.in_ok-metas.ensures, c.in_ok-slots.ensures) (opening_none (101 * c.args.pages) c.args.pages meta)
