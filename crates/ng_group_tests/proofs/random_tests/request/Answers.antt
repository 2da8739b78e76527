use Rattle.ng_group.proofs.HandSlotLemmas.{answered_excuse}
use Rattle.ng_group.proofs.TestLemmas.{slot_stays}
use Rattle.ng_group_tests.proofs.ClassLemmas.{class_fits}
use Rattle.ng_group_tests.proofs.random_tests.request.Goals as goal

pub alloc_slot-requires-clause-bytes : goal.alloc_slot-requires-clause-bytes
alloc_slot-requires-clause-bytes g c = class_fits c.class_for-class.ensures.class

pub returns-then-bytes-ge-THRESHOLD-clause-others : goal.returns-then-bytes-ge-THRESHOLD-clause-others
returns-then-bytes-ge-THRESHOLD-clause-others g c = slot_stays _ _ c.alloc_lone.ensures.book c.alloc_lone.ensures.slots

pub returns-then-bytes-ge-THRESHOLD-clause-excuse : goal.returns-then-bytes-ge-THRESHOLD-clause-excuse
returns-then-bytes-ge-THRESHOLD-clause-excuse g c = answered_excuse _ _ _ _ _ c.alloc_lone.result c.alloc_lone.ensures.excuse

pub returns-clause-others : goal.returns-clause-others
returns-clause-others g c = slot_stays _ _ c.alloc_slot.ensures.book c.alloc_slot.ensures.slots

pub returns-clause-excuse : goal.returns-clause-excuse
returns-clause-excuse g c = answered_excuse _ _ _ _ _ c.alloc_slot.result c.alloc_slot.ensures.excuse
