-- A schedule that fits its logs.
use Rattle.std.proofs.Common.{◌≡◌, ℕ, ◌+◌, ◌<◌, ◌≤◌, List, [], ◌∷◌, length, map, get_or, refl, sym, ◌∙◌, subst, arith}
use Rattle.std.specs.Prelude.{All, sum_by}
use Rattle.std.proofs.lemmas.Option.{slice_get_within, get_or_from_slice_get}
use Rattle.std.proofs.lemmas.List.{length-map}
use Rattle.std.proofs.lemmas.List.Sums.{sum_by-cons}
use Rattle.ng_plan.specs.declared.schedule.Schedule.{Schedule}
use Rattle.ng_plan.specs.declared.step.Step.{Step}
use Rattle.ng_plan.specs.Schedules.{AreTurns, AllDone, FitsLogs, IsFirstLeft, named_logs}
use Rattle.ng_plan.specs.Tables.{IsNumbered, named}
use Rattle.ng_plan.specs.Turns.{rounds, start, turns_of}
use Rattle.ng_plan.proofs.RoundLemmas.{go_on_done, rounds_end}

-- a schedule of the same sizes fits the logs too
pub still_fits : (before now : Schedule) (logs : List (List Step)) → length now.done.items ≡ length before.done.items → length now.queues.each.items ≡ length before.queues.each.items → FitsLogs before logs → FitsLogs now logs
still_fits before now logs done queues fits = record {
  long = done ∙ fits.long;
  few = fits.few;
  short = fits.short;
  numbers = subst (λ (n : ℕ). All (All (IsNumbered n)) logs) (sym queues) fits.numbers;
}

-- the op of the first log left is in range
pub left_few : (schedule : Schedule) (logs : List (List Step)) (log : ℕ) (step : Step) → FitsLogs schedule logs → IsFirstLeft schedule logs log step → get_or schedule.done.items log 0 < 1000000
left_few schedule logs log step fits first =
    let short : length (get_or logs log []) ≤ 1000000 = fits.short log [] first.within in
    let within : get_or schedule.done.items log 0 < length (get_or logs log []) = slice_get_within (get_or logs log []) (get_or schedule.done.items log 0) step first.next in
    omega arith

-- and so are its numbers
pub left_numbered : (schedule : Schedule) (logs : List (List Step)) (log : ℕ) (step : Step) → FitsLogs schedule logs → IsFirstLeft schedule logs log step → IsNumbered (length schedule.queues.each.items) step
left_numbered schedule logs log step fits first =
    let steps : List Step = get_or logs log [] in
    let at : ℕ = get_or schedule.done.items log 0 in
    subst (IsNumbered (length schedule.queues.each.items)) (get_or_from_slice_get steps at step step first.next) (fits.numbers log [] first.within at step (slice_get_within steps at step first.next))

-- there are as many steps by names
pub sum_named : (names : List ℕ) (logs : List (List Step)) → sum_by length (named_logs names logs) ≡ sum_by length logs
sum_named names [] = refl
sum_named names (steps ∷ logs) =
    let rest : sum_by length (named_logs names logs) ≡ sum_by length logs = sum_named names logs in
    let long : length (map (named names) steps) ≡ length steps = length-map steps (named names) in
    let left : sum_by length (named_logs names (steps ∷ logs)) ≡ length (map (named names) steps) + sum_by length (named_logs names logs) = sum_by-cons length (map (named names) steps) (named_logs names logs) in
    let right : sum_by length (steps ∷ logs) ≡ length steps + sum_by length logs = sum_by-cons length steps logs in
    omega arith

-- all rounds were done
pub at_total : (names : List ℕ) (schedule : Schedule) (logs : List (List Step)) (i : ℕ) → i ≡ sum_by length logs → AreTurns names schedule (rounds i (named_logs names logs) (start (named_logs names logs))) → AreTurns names schedule (turns_of (named_logs names logs))
unfolding turns_of
at_total names schedule logs i all are =
    subst (λ (n : ℕ). AreTurns names schedule (rounds n (named_logs names logs) (start (named_logs names logs)))) (all ∙ sym (sum_named names logs)) are

-- no op was left after these rounds
pub all_done : (names : List ℕ) (schedule : Schedule) (logs : List (List Step)) (i : ℕ) → i ≤ sum_by length logs → AllDone schedule logs → AreTurns names schedule (rounds i (named_logs names logs) (start (named_logs names logs))) → AreTurns names schedule (turns_of (named_logs names logs))
unfolding turns_of
all_done names schedule logs i few done are =
    let steps : List (List Step) = named_logs names logs in
    let total : sum_by length steps ≡ sum_by length logs = sum_named names logs in
    subst (AreTurns names schedule) (sym (rounds_end i (sum_by length steps) steps (start steps) (omega arith) (go_on_done names schedule (rounds i steps (start steps)) logs are done))) are
