use Rattle.std.proofs.Common.{arith}
use Rattle.ng_group.proofs.TestLemmas.{has_none}
use Rattle.ng_group_tests.proofs.random_tests.run.Goals as goal

pub loop-call-init : goal.loop-call-init
loop-call-init g c =
    let made = c.in_ok-slots.ensures in
    (has_none c.index_mut-hand.result.now c.in_ok-slots.slots.items made.items, omega (arith, made.len), made.capacity)
