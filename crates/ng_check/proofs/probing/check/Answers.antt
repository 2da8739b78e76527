use Rattle.ng_check.proofs.Growing.{cell_later}
use Rattle.ng_check.proofs.probing.check.Goals as goal

pub returns-in_err-fields-clause-cell : goal.returns-in_err-fields-clause-cell
returns-in_err-fields-clause-cell g c =
    cell_later c.read_group.new.reader c.read_slot.new.reader c.read_slot.ensures.goes.grows
    (cell_later c.read_header.new.reader c.read_group.new.reader c.read_group.ensures.goes.grows c.read_header.ensures.cell)

pub returns-clause-cell : goal.returns-clause-cell
returns-clause-cell g c =
    cell_later c.read_slot.new.reader c.read_end.new.reader c.read_end.ensures.goes.grows
    (cell_later c.read_group.new.reader c.read_slot.new.reader c.read_slot.ensures.goes.grows
    (cell_later c.read_header.new.reader c.read_group.new.reader c.read_group.ensures.goes.grows c.read_header.ensures.cell))
