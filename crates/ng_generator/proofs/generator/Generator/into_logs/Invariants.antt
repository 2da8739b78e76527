use Rattle.std.proofs.Common.{◌≡◌, ◌++◌, length, map}
use Rattle.std.specs.Vec.Iter.{into_iter_items, into_iter_len}
use Rattle.ng_generator.specs.Lists.{items_in}
use Rattle.ng_generator.proofs.generator.Generator.into_logs.Given as goal

abbrev pub invariant-loop-lines : goal.invariant-loop-lines
invariant-loop-lines l = record {
  left : l.yielded ++ into_iter_items l.lines-iterator ≡ into_iter_items l.initial.lines-iterator;
  known : into_iter_len l.lines-iterator ≡ length (into_iter_items l.lines-iterator);
  made : map (λ log. log.lines) l.logs.items ≡ items_in l.yielded;
}
