use Rattle.std.proofs.lemmas.Slice.Zip.{either_empty_from_Zip}
use Rattle.ng_report.proofs.CallLemmas.{no_lines_left}
use Rattle.ng_report.proofs.call_lines.put_calls.Goals as goal

pub returns-clause-items : goal.returns-clause-items
returns-clause-items c =
    no_lines_left _ _ _ _ _ _ (either_empty_from_Zip c.loop-ops.ops-iterator c.next.new.self c.next.result c.in-None.is c.next.ensures.steps) c.loop-ops.invariant.lines
