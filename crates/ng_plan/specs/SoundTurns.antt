-- What holds of all turns: who made and took each block, and in which order.
use Rattle.std.specs.Prelude.{ℕ, ◌≡◌, ◌<◌, ◌≤◌, List, [], ◌==◌, All, count_by, length, take, Some, None, slice_index, slice_index_or, ◌≢◌, ◌∷◌}
use Rattle.ng_plan.specs.declared.step.Place.{Place}
use Rattle.ng_plan.specs.declared.step.Step.{Step}
use Rattle.ng_plan.specs.Turns.{HandOff, Posted, Turns}

-- the step of a place
abbrev pub step_at : List (List Step) → Place → Step
step_at logs place = slice_index_or (slice_index_or logs place.log []) place.op (record { claims = None; posts = None })

-- how many turns a log had
abbrev pub turns_had : ℕ → List ℕ → ℕ
turns_had log order = count_by (λ other. other == log) order

-- the op of the place is done
pub record IsDone (done : List ℕ) (place : Place) : Type 0 where
  pub within : place.log < length done
  pub before : place.op < slice_index done place.log

-- a block was posted by an op that is done, under the name that its step posts
pub record IsPost (logs : List (List Step)) (done : List ℕ) (block : Posted) : Type 0 where
  pub maker : IsDone done block.maker
  pub posts : (step_at logs block.maker).posts ≡ Some block.name

-- a hand-off is from an op that posts a name to one that claims it; after this many turns only the first of them was done
pub record IsHandOff (logs : List (List Step)) (done order : List ℕ) (handoff : HandOff) : Type 0 where
  pub name : ℕ
  pub posts : (step_at logs handoff.maker).posts ≡ Some name
  pub claims : (step_at logs handoff.taker).claims ≡ Some name
  pub maker : IsDone done handoff.maker
  pub taker : IsDone done handoff.taker
  pub turns : ℕ
  pub within : turns ≤ length order
  pub made : handoff.maker.op < turns_had handoff.maker.log (take turns order)
  pub untaken : turns_had handoff.taker.log (take turns order) ≤ handoff.taker.op

-- no two of these have one place
abbrev pub Apart : {A : Type 0} → (A → Place) → List A → Type 0
Apart {A} place [] = Unit {0}
Apart {A} place (x ∷ xs) = All (λ y. place x ≢ place y) xs × Apart place xs

-- no block is handed off twice, or still posted, and no op takes two
pub record AreApart (posted : List Posted) (handoffs : List HandOff) : Type 0 where
  pub blocks : Apart (λ block. block.maker) posted
  pub makers : Apart (λ handoff. handoff.maker) handoffs
  pub takers : Apart (λ handoff. handoff.taker) handoffs
  pub gone : All (λ handoff. All (λ block. handoff.maker ≢ block.maker) posted) handoffs

-- the turns so far keep to the steps
pub record AreSound (logs : List (List Step)) (turns : Turns) : Type 0 where
  pub long : length turns.done ≡ length logs
  pub few : (log : ℕ) → log < length logs → slice_index turns.done log ≤ length (slice_index_or logs log [])
  pub counted : (log : ℕ) → log < length logs → turns_had log turns.order ≡ slice_index turns.done log
  pub order : All (λ log. log < length logs) turns.order
  pub posted : All (IsPost logs turns.done) turns.posted
  pub handed : All (IsHandOff logs turns.done turns.order) turns.handoffs
  pub apart : AreApart turns.posted turns.handoffs
