use Rattle.ng_group.proofs.TestLemmas.{slot_stays}
use Rattle.ng_group_tests.proofs.cell_tests.slot_at.Goals as goal

pub returns-clause-others : goal.returns-clause-others
returns-clause-others g c = slot_stays _ _ c.alloc_slot.ensures.book c.alloc_slot.ensures.slots
