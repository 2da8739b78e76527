use Rattle.std.proofs.Common.{ℕ, ◌*◌, ◌<◌, ◌≤◌, length, take, get_or, vec_len}
use Rattle.std.specs.Prelude.{sum_by}
use Rattle.ng_mtrace.specs.declared.log.Log.{Log}
use Rattle.ng_plan.specs.Plans.{lines_of}
use Rattle.ng_plan.specs.Tables.{AreKnown}
use Rattle.ng_plan.proofs.planning.names_of.Given as goal

-- the logs so far are known, by at most two names a line
abbrev pub invariant-loop-log : goal.invariant-loop-log
invariant-loop-log l = record {
  known : (k : ℕ) (log : Log) → k < l.log-index → AreKnown l.names.items (get_or l.logs k log);
  few : vec_len l.names ≤ 2 * sum_by length (take l.log-index (lines_of l.logs));
}
