use Rattle.ng_space_tests.proofs.Race.{has_group, may_push, may_refill, serves-none, serves-pushed, serves-stocked, serves-taken, serves-taken_lowest}
use Rattle.ng_space_tests.proofs.race_tests.serve_once.Goals as goal

pub pop_core-requires : goal.pop_core-requires
pop_core-requires g c = record { live = (has_group _ c.requires.serves) }

pub push_parent-freed-requires : goal.push_parent-freed-requires
push_parent-freed-requires g c = record { slots = (may_push _ _ _ c.requires.serves c.in-Some.ensures.taken) }

pub take-taken-requires-clause-live : goal.take-taken-requires-clause-live
take-taken-requires-clause-live g c = has_group _ (serves-none _ _ c.requires.serves c.in-None.ensures.none)

pub stock-requires : goal.stock-requires
stock-requires g c = record { may = (may_refill _ _ _ _ c.requires.serves c.in-None.ensures.none c.take-taken.ensures.taken) }

pub returns-in-Some : goal.returns-in-Some
returns-in-Some g c = record { serves = serves-pushed _ _ _ _ (serves-taken_lowest _ _ _ c.requires.serves c.in-Some.ensures.taken) c.push_parent-freed.ensures }

pub returns-in-None : goal.returns-in-None
returns-in-None g c = record { serves = serves-stocked _ _ _ (serves-taken _ _ 31 _ (serves-none _ _ c.requires.serves c.in-None.ensures.none) c.take-taken.ensures.taken) c.stock.ensures.none c.stock.ensures.stocked }
