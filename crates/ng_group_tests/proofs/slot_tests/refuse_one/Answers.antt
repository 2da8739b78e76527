use Rattle.ng_group.proofs.TestLemmas.{class_1_fits}
use Rattle.ng_group_tests.proofs.slot_tests.refuse_one.Goals as goal

pub alloc_slot-requires-clause-bytes : goal.alloc_slot-requires-clause-bytes
alloc_slot-requires-clause-bytes g c = class_1_fits
