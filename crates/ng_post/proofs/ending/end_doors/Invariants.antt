use Rattle.std.proofs.Common.{◌≡◌, ◌+◌, ◌++◌, drop, length}
use Rattle.std.specs.Vec.Iter.{into_iter_items, into_iter_len}
use Rattle.ng_post.specs.Ending.{HaveEnded}
use Rattle.ng_post.proofs.ending.end_doors.Given as goal

-- the first door has ended, and so many others
abbrev pub invariant-loop-door : goal.invariant-loop-door
invariant-loop-door g l = record {
  all : l.yielded ++ into_iter_items l.door-iterator ≡ drop 1 l.fn.doors.items;
  count : into_iter_len l.door-iterator ≡ length (into_iter_items l.door-iterator);
  ended : HaveEnded l.boxes l.fn.doors.items (length l.yielded + 1) l.leads.items;
}
