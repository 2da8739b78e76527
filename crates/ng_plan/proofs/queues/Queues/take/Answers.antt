use Rattle.std.proofs.Common.{◌≡◌, ◌++◌, List, drop, rules}
use Rattle.std.specs.Option.{option_to_list}
use Rattle.ng_plan.specs.declared.step.Place.{Place}
use Rattle.ng_plan.proofs.QueueLemmas.{taken_at, left_at}
use Rattle.ng_plan.proofs.queues.Queues.take.Goals as goal

pub returns-clause-earliest : goal.returns-clause-earliest
returns-clause-earliest c =
    let was : List Place = c.index_mut.result.now.items in
    let now : List Place = c.pop_front.new.self.items in
    let items : was ≡ option_to_list c.pop_front.result ++ now = search (rules, c.pop_front.ensures.items) in
    let rest : now ≡ drop 1 was = search (rules, c.pop_front.ensures.rest) in
    λ names blocks rising same table.
    (taken_at names c.args.self.now.each.items blocks c.args.at c.index_mut.result.now c.pop_front.new.self c.pop_front.result same c.requires (search (rules, c.index_mut.ensures.value)) items rest table).0

pub returns-clause-left : goal.returns-clause-left
returns-clause-left c =
    let was : List Place = c.index_mut.result.now.items in
    let now : List Place = c.pop_front.new.self.items in
    let items : was ≡ option_to_list c.pop_front.result ++ now = search (rules, c.pop_front.ensures.items) in
    let rest : now ≡ drop 1 was = search (rules, c.pop_front.ensures.rest) in
    λ names blocks rising same table.
    left_at names c.args.self.now.each.items blocks c.args.at c.pop_front.new.self rising same c.requires (taken_at names c.args.self.now.each.items blocks c.args.at c.index_mut.result.now c.pop_front.new.self c.pop_front.result same c.requires (search (rules, c.index_mut.ensures.value)) items rest table).1 table
