use Rattle.std.proofs.Common.{◌≡◌, map, take}
use Rattle.ng_plan.proofs.planning.plan_from.Given as goal

-- the logs of the takers so far
abbrev pub invariant-loop-taker : goal.invariant-loop-taker
invariant-loop-taker l = l.receivers.items ≡ map (λ place. place.log) (take l.taker-index l.taker-items)
