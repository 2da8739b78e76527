use Rattle.ng_group.proofs.WholeLemmas.{looks_at}
use Rattle.ng_group.proofs.returning.read_masks.Goals as goal

pub returns : goal.returns
returns g c = looks_at _ _ _ c.args.meta _ _ c.requires.live c.load_seat.ensures.view c.load_seat.ensures.told c.load_seat-2.ensures.view c.load_seat-2.ensures.told _ _ c.mask_of-avail.ensures c.mask_of-freed.ensures
