use Rattle.ng_group.proofs.TestLemmas.{apart_flips}
use Rattle.ng_group_tests.proofs.cell_tests.raise_once.Goals as goal

pub return_slot-requires : goal.return_slot-requires
return_slot-requires g c = record {
  slot = c.check_word-2.ensures.slots _ (c.slot_at-fourth.ensures.others _ (c.check_word.ensures.slots _ (c.slot_at-third.ensures.others _ (c.slot_at-second.ensures.others _ c.slot_at-first.ensures.slot))));
}

pub return_slot-requires-2 : goal.return_slot-requires-2
return_slot-requires-2 g c = record {
  slot = c.return_slot.ensures.others _
      (c.check_word-2.ensures.slots _ (c.slot_at-fourth.ensures.others _ (c.check_word.ensures.slots _ (c.slot_at-third.ensures.others _ c.slot_at-second.ensures.slot))))
      (apart_flips c.slot_at-first.result c.slot_at-second.result (c.slot_at-second.ensures.apart _ c.slot_at-first.ensures.slot));
}

pub return_slot-requires-3 : goal.return_slot-requires-3
return_slot-requires-3 g c = record {
  slot = c.return_slot-2.ensures.others _
      (c.return_slot.ensures.others _
      (c.check_word-2.ensures.slots _ (c.slot_at-fourth.ensures.others _ (c.check_word.ensures.slots _ c.slot_at-third.ensures.slot)))
      (apart_flips c.slot_at-first.result c.slot_at-third.result (c.slot_at-third.ensures.apart _ (c.slot_at-second.ensures.others _ c.slot_at-first.ensures.slot))))
      (apart_flips c.slot_at-second.result c.slot_at-third.result (c.slot_at-third.ensures.apart _ c.slot_at-second.ensures.slot));
}

pub return_slot-requires-4 : goal.return_slot-requires-4
return_slot-requires-4 g c = record {
  slot = c.return_slot-3.ensures.others _
      (c.return_slot-2.ensures.others _
      (c.return_slot.ensures.others _
      (c.check_word-2.ensures.slots _ c.slot_at-fourth.ensures.slot)
      (apart_flips c.slot_at-first.result c.slot_at-fourth.result (c.slot_at-fourth.ensures.apart _ (c.check_word.ensures.slots _ (c.slot_at-third.ensures.others _ (c.slot_at-second.ensures.others _ c.slot_at-first.ensures.slot))))))
      (apart_flips c.slot_at-second.result c.slot_at-fourth.result (c.slot_at-fourth.ensures.apart _ (c.check_word.ensures.slots _ (c.slot_at-third.ensures.others _ c.slot_at-second.ensures.slot)))))
      (apart_flips c.slot_at-third.result c.slot_at-fourth.result (c.slot_at-fourth.ensures.apart _ (c.check_word.ensures.slots _ c.slot_at-third.ensures.slot)));
}
