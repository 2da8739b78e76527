use Rattle.std.proofs.Common.{◌≡◌, ◌≤◌, ◌++◌, length, vec_capacity}
use Rattle.std.specs.Vec.Iter.{into_iter_items, into_iter_len}
use Rattle.ng_replay.specs.Serial.{replies_in}
use Rattle.ng_replay.proofs.turns.items_of.Given as goal

abbrev pub invariant-loop-row : goal.invariant-loop-row
invariant-loop-row l = record {
  left : l.yielded ++ into_iter_items l.row-iterator ≡ into_iter_items l.initial.row-iterator;
  known : into_iter_len l.row-iterator ≡ length (into_iter_items l.row-iterator);
  made : l.replies.items ≡ replies_in l.yielded;
  room : length (into_iter_items l.initial.row-iterator) ≤ vec_capacity l.replies;
}
