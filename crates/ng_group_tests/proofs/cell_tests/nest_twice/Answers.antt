use Rattle.ng_group.proofs.TestLemmas.{apart_flips}
use Rattle.ng_group_tests.proofs.cell_tests.nest_twice.Goals as goal

pub return_slot-requires : goal.return_slot-requires
return_slot-requires g c = record { slot = c.check_headers.ensures.slots _ (c.check_indices.ensures.slots _ (c.slot_at-second.ensures.others _ c.slot_at-first.ensures.slot)) }

pub return_slot-requires-2 : goal.return_slot-requires-2
return_slot-requires-2 g c = record {
  slot = c.return_slot.ensures.others _
      (c.check_headers.ensures.slots _ (c.check_indices.ensures.slots _ c.slot_at-second.ensures.slot))
      (apart_flips c.slot_at-first.result c.slot_at-second.result (c.slot_at-second.ensures.apart _ c.slot_at-first.ensures.slot));
}
