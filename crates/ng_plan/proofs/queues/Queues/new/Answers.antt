use Rattle.std.proofs.Common.{◌≡◌, ◌++◌, ◌∷◌, [], rules}
use Rattle.ng_plan.proofs.QueueLemmas.{empty_more}
use Rattle.ng_plan.proofs.queues.Queues.new.Goals as goal

pub loop-preserved : goal.loop-preserved
loop-preserved c =
    let pushed : c.push.new.self.items ≡ c.loop.each.items ++ c.new.result ∷ [] = search (rules, c.in_ok-push.ensures.items) in
    record {
      long = search (rules, c.in_ok-push.ensures.len, c.loop.invariant.long);
      empty = λ i none below. rw pushed (empty_more c.loop.each.items c.new.result c.loop.counter c.loop.invariant.long c.new.ensures.items c.loop.invariant.empty i none below);
    }
