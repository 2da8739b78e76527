use Rattle.std.proofs.Common.{◌≡◌, ◌≤◌, ◌+◌, ◌*◌, ◌++◌, length, vec_len, vec_capacity}
use Rattle.std.specs.Iterator.Adapters.{zip_first, zip_second}
use Rattle.std.specs.Slice.Iter.{iter_rest}
use Rattle.ng_terms.specs.Reports.{log_lines}
use Rattle.ng_report.specs.declared.room.TheConstants.{OP}
use Rattle.ng_report.proofs.call_lines.put_log.Given as goal

abbrev pub invariant-loop-op : goal.invariant-loop-op
invariant-loop-op l = record {
  left : length (iter_rest (zip_second l.op-iterator)) ≡ length (iter_rest (zip_first l.op-iterator));
  lines : l.text.items ++ log_lines l.mode l.number (iter_rest (zip_first l.op-iterator)) (iter_rest (zip_second l.op-iterator))
      ≡ l.initial.text.items ++ log_lines l.mode l.number l.ops l.replies;
  short : vec_len l.text + OP * length (iter_rest (zip_first l.op-iterator)) ≤ vec_len l.initial.text + OP * length l.ops;
  room : vec_capacity l.initial.text ≤ vec_capacity l.text;
}
