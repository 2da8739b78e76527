use Rattle.std.proofs.Common.{ℕ, ◌+◌, ◌*◌, ◌<◌, ◌≤◌, get_or, vec_len}
use Rattle.std.specs.Prelude.{Contains}
use Rattle.ng_mtrace.specs.declared.log.Line.{Line}
use Rattle.ng_plan.specs.Tables.{IsKnown}
use Rattle.ng_plan.proofs.names.mention_all.Given as goal

-- the lines so far are known, and what was known still is
abbrev pub invariant-loop-line : goal.invariant-loop-line
invariant-loop-line l = record {
  known : (k : ℕ) (line : Line) → k < l.line-index → IsKnown l.names.items (get_or l.lines k line);
  few : vec_len l.names ≤ vec_len l.fn.names + 2 * l.line-index;
  kept : (name : ℕ) → Contains l.fn.names.items name → Contains l.names.items name;
}
