use Rattle.std.proofs.Common.{◌≡◌, List, ℕ, length}
use Rattle.ng_plan.specs.Schedules.{AreTurns, FitsLogs, named_logs}
use Rattle.ng_plan.specs.Tables.{Rises}
use Rattle.ng_plan.specs.Turns.{rounds, start}
use Rattle.ng_plan.proofs.rounds.all_turns.Given as goal

-- this many times on
abbrev pub invariant-loop : goal.invariant-loop
invariant-loop l = record {
  fits : FitsLogs l.schedule l.logs;
  turns : (names : List ℕ) → Rises names → length names ≡ l.names → AreTurns names l.schedule (rounds l.counter (named_logs names l.logs) (start (named_logs names l.logs)));
}
