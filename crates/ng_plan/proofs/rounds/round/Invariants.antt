use Rattle.std.proofs.Common.{List, ℕ, take}
use Rattle.ng_plan.specs.Schedules.{AreTurns, FitsLogs, named_logs}
use Rattle.ng_plan.specs.Turns.{Turns, round_from}
use Rattle.ng_plan.proofs.rounds.round.Given as goal

-- the logs so far had their places
abbrev pub invariant-loop-log : goal.invariant-loop-log
invariant-loop-log l = record {
  fits : FitsLogs l.schedule l.logs;
  turns : (names : List ℕ) (turns : Turns) → AreTurns names l.initial.schedule turns → AreTurns names l.schedule (round_from 0 (take l.log (named_logs names l.logs)) turns);
}
