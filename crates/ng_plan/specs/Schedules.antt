-- The turns so far as the code holds them. No public clause cites this module.
use Rattle.std.specs.Prelude.{ℕ, ◌≡◌, ◌<◌, ◌≤◌, List, [], All, length, map, Option, Some, None, slice_get, slice_index, slice_index_or}
use Rattle.ng_plan.specs.declared.schedule.Schedule.{Schedule}
use Rattle.ng_plan.specs.declared.step.Step.{Step}
use Rattle.ng_plan.specs.Blocks.{AreQueues}
use Rattle.ng_plan.specs.Tables.{Rises, IsNumbered, named}
use Rattle.ng_plan.specs.Turns.{Posted, Turns, hand_off, makers_of, takers_of}

-- the schedule stands for the turns
pub record AreTurns (names : List ℕ) (schedule : Schedule) (turns : Turns) : Type 0 where
  pub rising : Rises names
  pub long : length names ≡ length schedule.queues.each.items
  pub done : schedule.done.items ≡ turns.done
  pub queues : AreQueues names schedule.queues.each.items turns.posted
  pub makers : schedule.makers.items ≡ makers_of turns
  pub takers : schedule.takers.items ≡ takers_of turns
  pub order : schedule.order.items ≡ turns.order

-- the schedule has a place for each log, and a queue for each number of these steps
pub record FitsLogs (schedule : Schedule) (logs : List (List Step)) : Type 0 where
  pub long : length schedule.done.items ≡ length logs
  pub few : length logs ≤ 16
  pub short : All (λ steps. length steps ≤ 1000000) logs
  pub numbers : All (All (IsNumbered (length schedule.queues.each.items))) logs

-- the steps of each log, by names
abbrev pub named_logs : List ℕ → List (List Step) → List (List Step)
named_logs names logs = map (map (named names)) logs

-- the logs below this one have no op left
pub record DoneBelow (schedule : Schedule) (logs : List (List Step)) (upto : ℕ) : Type 0 where
  pub below : (log : ℕ) → log < upto → slice_get (slice_index_or logs log []) (slice_index schedule.done.items log) ≡ None

-- this log is the first with an op left, and this is its step
pub record IsFirstLeft (schedule : Schedule) (logs : List (List Step)) (log : ℕ) (step : Step) : Type 0 where
  pub within : log < length logs
  pub before : DoneBelow schedule logs log
  pub next : slice_get (slice_index_or logs log []) (slice_index schedule.done.items log) ≡ Some step

-- no log has an op left
abbrev pub AllDone : Schedule → List (List Step) → Type 0
AllDone schedule logs = DoneBelow schedule logs (length logs)

-- the claim of the next op takes this block, if there is one
abbrev pub handed_over : Turns → ℕ → Option Posted → Turns
handed_over turns log None = turns
handed_over turns log (Some block) = hand_off turns log block
