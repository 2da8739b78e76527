use Rattle.std.proofs.Common.{subst, sym}
use Rattle.ng_group.specs.Tests.{HasAll}
use Rattle.ng_group.proofs.TestLemmas.{came_last}
use Rattle.ng_group_tests.proofs.random_tests.call_once.Goals as goal

pub returns-in-Ok-clause-slots : goal.returns-in-Ok-clause-slots
returns-in-Ok-clause-slots g c =
    let came = c.in-Ok.ensures in
    subst (HasAll c.request.new.hand) (sym c.push_reserved.ensures.items)
    (came_last c.args.hand.now c.request.new.hand c.in-Ok.slot c.args.slots.now.items c.request.ensures.others came.slot came.apart c.requires.slots)
