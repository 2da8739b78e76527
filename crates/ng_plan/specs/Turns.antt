-- Whose turn comes next, and which block a claim takes.
use Rattle.std.specs.Prelude.{ℕ, ◌+◌, List, [], ◌∷◌, ◌++◌, ◌==◌, length, find, map, Option, Some, None, if◌then◌else◌, slice_get, slice_index, slice_set, sum_by, replicate, zero, suc}
use Rattle.ng_plan.specs.declared.step.Place.{Place}
use Rattle.ng_plan.specs.declared.step.Step.{Step}

-- a block that was posted and that no claim took
pub record Posted : Type 0 where
  pub name : ℕ
  pub maker : Place

-- a claim that took a block: the op that made the block, and the one that claimed it
pub record HandOff : Type 0 where
  pub maker : Place
  pub taker : Place

-- the turns so far: how many ops of each log are done, the posted blocks and the hand-offs in their order, and the log of
-- each turn
pub record Turns : Type 0 where
  pub done : List ℕ
  pub posted : List Posted
  pub handoffs : List HandOff
  pub order : List ℕ

-- the ops that made the blocks of the hand-offs, in the order of the claims
abbrev pub makers_of : Turns → List Place
makers_of turns = map (λ handoff. handoff.maker) turns.handoffs

-- the ops that took them
abbrev pub takers_of : Turns → List Place
takers_of turns = map (λ handoff. handoff.taker) turns.handoffs

-- the place of a log's next op
abbrev pub next_place : Turns → ℕ → Place
next_place turns log = record { log = log; op = slice_index turns.done log }

-- a log's next op, if one is left
abbrev pub next_step : Turns → ℕ → List Step → Option Step
next_step turns log steps = slice_get steps (slice_index turns.done log)

-- the block of an op that hands it
abbrev pub posted_by : Place → Option ℕ → List Posted
posted_by place None = []
posted_by place (Some name) = record { name = name; maker = place } ∷ []

-- the next op of a log is done: what it hands is posted
abbrev pub finish : Turns → ℕ → Option ℕ → Turns
finish turns log posts = record {
  done = slice_set turns.done log (slice_index turns.done log + 1);
  posted = turns.posted ++ posted_by (next_place turns log) posts;
  handoffs = turns.handoffs;
  order = turns.order ++ log ∷ [];
}

-- the earliest posted block of a name
abbrev pub earliest : ℕ → List Posted → Option Posted
earliest name blocks = find (λ block. block.name == name) blocks

-- the posted blocks without the earliest of a name
abbrev pub without : ℕ → List Posted → List Posted
without name [] = []
without name (block ∷ blocks) = if block.name == name then blocks else block ∷ without name blocks

-- the next op of a log takes this block
abbrev pub hand_off : Turns → ℕ → Posted → Turns
hand_off turns log block = record turns {
  posted = without block.name turns.posted;
  handoffs = turns.handoffs ++ record { maker = block.maker; taker = next_place turns log } ∷ [];
}

-- a claim that found a block takes it and is done, and another one is passed over
abbrev pub take_block : Turns → ℕ → Step → Option Posted → Turns
take_block turns log step None = turns
take_block turns log step (Some block) = finish (hand_off turns log block) log step.posts

-- an op with this claim, or without one, in its log's place in a round
abbrev pub try_claim : Turns → ℕ → Step → Option ℕ → Turns
try_claim turns log step None = finish turns log step.posts
try_claim turns log step (Some name) = take_block turns log step (earliest name turns.posted)

abbrev pub turn_with : Turns → ℕ → Option Step → Turns
turn_with turns log None = turns
turn_with turns log (Some step) = try_claim turns log step step.claims

-- a log's place in a round
abbrev pub turn : Turns → ℕ → List Step → Turns
turn turns log steps = turn_with turns log (next_step turns log steps)

-- the places of the logs from this one on
abbrev pub round_from : ℕ → List (List Step) → Turns → Turns
round_from log [] turns = turns
round_from log (steps ∷ logs) turns = round_from (log + 1) logs (turn turns log steps)

-- a round goes through the logs from the first to the last
abbrev pub round : List (List Step) → Turns → Turns
round logs turns = round_from 0 logs turns

-- an op is done without a block for its claim, or where there is none the later logs come
abbrev pub skip_with : Turns → ℕ → Option Step → Turns → Turns
skip_with turns log None later = later
skip_with turns log (Some step) later = finish turns log step.posts

abbrev pub skip_from : ℕ → List (List Step) → Turns → Turns
skip_from log [] turns = turns
skip_from log (steps ∷ logs) turns = skip_with turns log (next_step turns log steps) (skip_from (log + 1) logs turns)

-- the first log with ops left does its op, and its claim takes no block
abbrev pub skip : List (List Step) → Turns → Turns
skip logs turns = skip_from 0 logs turns

-- a round, and a skip where it does nothing
abbrev pub go_on : List (List Step) → Turns → Turns
go_on logs turns =
    let next = round logs turns in
    if length next.order == length turns.order then skip logs next else next

-- this many times on; once all ops are done nothing changes
abbrev pub rounds : ℕ → List (List Step) → Turns → Turns
rounds zero logs turns = turns
rounds (suc n) logs turns = rounds n logs (go_on logs turns)

-- no op is done
abbrev pub start : List (List Step) → Turns
start logs = record { done = replicate (length logs) 0; posted = []; handoffs = []; order = [] }

-- all turns of these logs: each time on does an op while any is left
unfoldable pub turns_of : List (List Step) → Turns
turns_of logs = rounds (sum_by length logs) logs (start logs)
