use Rattle.ng_mask.proofs.Trading.{pop_even}
use Rattle.ng_space_tests.proofs.Bare.{bare_keeps}
use Rattle.ng_space_tests.proofs.pair_tests.find_bare.Goals as goal

pub returns-clause-slots : goal.returns-clause-slots
returns-clause-slots g c = bare_keeps c.args.hand.now c.pop.new.hand 4120 23 c.in-Bare.ensures.cause c.pop.ensures.number

pub returns-clause-hand : goal.returns-clause-hand
returns-clause-hand g c =
    let even = pop_even c.args.hand.now.view 4120 23 c.pop.result c.pop.new.hand.view c.pop.ensures.cause in
    record { number = c.pop.ensures.number; sent = even.sent; taken = even.taken }
