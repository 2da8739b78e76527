use Rattle.std.proofs.Common.{◌≡◌, ℕ, ◌<◌, [], length, get_or}
use Rattle.std.specs.declared.collections.VecDeque.{VecDeque}
use Rattle.std.specs.declared.alloc.Global.{Global}
use Rattle.ng_plan.specs.declared.step.Place.{Place}
use Rattle.ng_plan.proofs.queues.Queues.new.Given as goal

-- the queues so far are empty
abbrev pub invariant-loop : goal.invariant-loop
invariant-loop l = record {
  long : length l.each.items ≡ l.counter;
  empty : (i : ℕ) (none : VecDeque Place Global) → i < l.counter → (get_or l.each.items i none).items ≡ [];
}
