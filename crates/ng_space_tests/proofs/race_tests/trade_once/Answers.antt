use Rattle.ng_mask.proofs.Trading.{pop_even, push_even}
use Rattle.ng_space_tests.proofs.race_tests.trade_once.Goals as goal

pub returns-in-Done-clause-hand : goal.returns-in-Done-clause-hand
returns-in-Done-clause-hand g c = let e = push_even _ _ _ _ _ c.in-Done.ensures.cause in record { number = c.in-Done.ensures.number; sent = e.sent; taken = e.taken }

pub returns-in-Left-clause-hand : goal.returns-in-Left-clause-hand
returns-in-Left-clause-hand g c = let e = push_even _ _ _ _ _ c.in-Left.ensures.cause in record { number = c.in-Left.ensures.number; sent = e.sent; taken = e.taken }

pub returns-in-Won-clause-hand : goal.returns-in-Won-clause-hand
returns-in-Won-clause-hand g c = let e = pop_even c.args.hand.now.view 4120 9 c.pop.result c.pop.new.hand.view c.pop.ensures.cause in record { number = c.pop.ensures.number; sent = e.sent; taken = e.taken }

pub returns-in-Bare-clause-hand : goal.returns-in-Bare-clause-hand
returns-in-Bare-clause-hand g c = let e = pop_even c.args.hand.now.view 4120 9 c.pop.result c.pop.new.hand.view c.pop.ensures.cause in record { number = c.pop.ensures.number; sent = e.sent; taken = e.taken }

pub returns-in-Other-clause-hand : goal.returns-in-Other-clause-hand
returns-in-Other-clause-hand g c = let e = pop_even c.args.hand.now.view 4120 9 c.pop.result c.pop.new.hand.view c.pop.ensures.cause in record { number = c.pop.ensures.number; sent = e.sent; taken = e.taken }
