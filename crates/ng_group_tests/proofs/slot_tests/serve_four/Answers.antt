use Rattle.ng_space.specs.Tokens.{Token}
use Rattle.ng_group.proofs.TestLemmas.{apart_flips}
use Rattle.ng_group_tests.proofs.slot_tests.serve_four.Goals as goal

pub return_slot-requires : goal.return_slot-requires
return_slot-requires g c =
    let first : Token = c.served-first.result in
    record { slot = c.served-fourth.ensures.others first (c.served-third.ensures.others first (c.served-second.ensures.others first c.served-first.ensures.slot)) }

pub return_slot-requires-2 : goal.return_slot-requires-2
return_slot-requires-2 g c =
    let first : Token = c.served-first.result in
    let second : Token = c.served-second.result in
    let has = c.served-fourth.ensures.others second (c.served-third.ensures.others second c.served-second.ensures.slot) in
    record { slot = c.return_slot.ensures.others second has (apart_flips first second (c.served-second.ensures.apart first c.served-first.ensures.slot)) }

pub return_slot-requires-3 : goal.return_slot-requires-3
return_slot-requires-3 g c =
    let first : Token = c.served-first.result in
    let second : Token = c.served-second.result in
    let third : Token = c.served-third.result in
    let has = c.served-fourth.ensures.others third c.served-third.ensures.slot in
    let of_first = apart_flips first third (c.served-third.ensures.apart first (c.served-second.ensures.others first c.served-first.ensures.slot)) in
    let of_second = apart_flips second third (c.served-third.ensures.apart second c.served-second.ensures.slot) in
    record { slot = c.return_slot-2.ensures.others third (c.return_slot.ensures.others third has of_first) of_second }

pub return_slot-requires-4 : goal.return_slot-requires-4
return_slot-requires-4 g c =
    let first : Token = c.served-first.result in
    let second : Token = c.served-second.result in
    let third : Token = c.served-third.result in
    let fourth : Token = c.served-fourth.result in
    let has_first = c.served-third.ensures.others first (c.served-second.ensures.others first c.served-first.ensures.slot) in
    let has_second = c.served-third.ensures.others second c.served-second.ensures.slot in
    let of_first = apart_flips first fourth (c.served-fourth.ensures.apart first has_first) in
    let of_second = apart_flips second fourth (c.served-fourth.ensures.apart second has_second) in
    let of_third = apart_flips third fourth (c.served-fourth.ensures.apart third c.served-third.ensures.slot) in
    record {
      slot = c.return_slot-3.ensures.others fourth (c.return_slot-2.ensures.others fourth (c.return_slot.ensures.others fourth c.served-fourth.ensures.slot of_first) of_second) of_third;
    }
