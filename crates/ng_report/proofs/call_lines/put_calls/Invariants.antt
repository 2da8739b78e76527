use Rattle.std.proofs.Common.{◌≡◌, ◌≤◌, ◌+◌, ◌*◌, ◌++◌, length, vec_len, vec_capacity}
use Rattle.std.specs.Iterator.Adapters.{zip_first, zip_second}
use Rattle.ng_report.proofs.CallLemmas.{lines_from}
use Rattle.std.specs.Slice.Iter.{iter_rest}
use Rattle.ng_terms.specs.Reports.{call_lines}
use Rattle.ng_report.specs.Room.{HasReplies}
use Rattle.ng_terms.specs.Calls.{op_count}
use Rattle.ng_report.specs.declared.room.TheConstants.{OP}
use Rattle.ng_report.proofs.call_lines.put_calls.Given as goal

abbrev pub invariant-loop-ops : goal.invariant-loop-ops
invariant-loop-ops l = record {
  number : l.number + length (iter_rest (zip_first l.ops-iterator)) ≡ length l.logs;
  answered : HasReplies (iter_rest (zip_first l.ops-iterator)) (iter_rest (zip_second l.ops-iterator));
  lines : l.text.items ++ lines_from l.mode (l.number + 1) (iter_rest (zip_first l.ops-iterator)) (iter_rest (zip_second l.ops-iterator))
      ≡ l.initial.text.items ++ call_lines l.mode l.logs l.fn.replies;
  short : vec_len l.text + OP * op_count (iter_rest (zip_first l.ops-iterator)) ≤ vec_len l.initial.text + OP * op_count l.logs;
  room : vec_capacity l.initial.text ≤ vec_capacity l.text;
}
