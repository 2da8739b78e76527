use Rattle.ng_group.proofs.TestLemmas.{class_1_fits, slot_stays}
use Rattle.core_bench.proofs.SlotLemmas.{has_entered}
use Rattle.core_bench.proofs.heap.get.Goals as goal

pub alloc_slot-requires-clause-bytes : goal.alloc_slot-requires-clause-bytes
alloc_slot-requires-clause-bytes g c = class_1_fits

pub returns-in-Ok-clause-others : goal.returns-in-Ok-clause-others
returns-in-Ok-clause-others g c = slot_stays _ _ c.alloc_slot.ensures.book c.alloc_slot.ensures.slots

pub returns-in-Err-clause-others : goal.returns-in-Err-clause-others
returns-in-Err-clause-others g c = λ token has.
    has_entered c.alloc_slot.new.hand c.enter_no_memory.new.hand 20 c.in-Err.excuse.number token c.enter_no_memory.ensures.number c.enter_no_memory.ensures.view
    (slot_stays _ _ c.alloc_slot.ensures.book c.alloc_slot.ensures.slots token has)
