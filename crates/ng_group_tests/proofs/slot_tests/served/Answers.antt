use Rattle.ng_group.proofs.TestLemmas.{class_1_fits, slot_stays}
use Rattle.ng_group_tests.proofs.slot_tests.served.Goals as goal

pub alloc_slot-requires-clause-bytes : goal.alloc_slot-requires-clause-bytes
alloc_slot-requires-clause-bytes g c = class_1_fits

pub returns-clause-others : goal.returns-clause-others
returns-clause-others g c = slot_stays _ _ c.alloc_slot.ensures.book c.alloc_slot.ensures.slots
