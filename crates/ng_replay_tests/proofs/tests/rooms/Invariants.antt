use Rattle.std.proofs.Common.{◌≡◌, ◌≤◌, ◌*◌, List, length, map, take, vec_capacity}
use Rattle.ng_terms.specs.declared.plan.Op.{Op}
use Rattle.ng_replay_tests.proofs.tests.rooms.Given as goal

abbrev pub invariant-loop-ops : goal.invariant-loop-ops
invariant-loop-ops l = record {
  count : length l.rooms.items ≡ l.ops-index;
  items : l.rooms.items ≡ map (λ (ops : List Op). 2 * length ops) (take l.ops-index l.logs);
  few : length l.logs ≤ 16;
  room : length l.logs ≤ vec_capacity l.rooms;
}
