-- What a replay needs of a plan: each block has one maker and at most one taker, and is made first.
use Rattle.std.specs.Prelude.{ℕ, ◌≡◌, ◌-◌, ◌<◌, ◌≤◌, List, [], All, length, take, Option, Some, None, slice_index, slice_index_or}
use Rattle.ng_terms.specs.declared.plan.Op.{Op}
use Rattle.ng_terms.specs.declared.plan.Op.TheVariants.{Make, Free, Move}
use Rattle.ng_terms.specs.declared.plan.Origin.TheVariants.{Own, Claim}
use Rattle.ng_terms.specs.declared.plan.Plan.{Plan}
use Rattle.ng_terms.specs.Calls.{handed_as, origin_of}
use Rattle.ng_plan.specs.declared.step.Place.{Place}
use Rattle.ng_plan.specs.SoundTurns.{turns_had}

-- the name of the block that an op ends
abbrev pub ended_name : Op → Option ℕ
ended_name (Make name size to) = None
ended_name (Free name origin) = Some name
ended_name (Move old name origin size to) = Some old

-- the name of the block that an op makes
abbrev pub made_name : Op → Option ℕ
made_name (Make name size to) = Some name
made_name (Free name origin) = None
made_name (Move old name origin size to) = Some name

-- the op of a log at a place
abbrev pub op_of_log : List Op → ℕ → Op
op_of_log ops i = slice_index_or ops i (Make 0 0 None)

-- each own block of a log comes from an earlier op of the log that made it under its name, and no other op has it as own
pub record TakesOwnOps (ops : List Op) : Type 0 where
  pub earlier : (i op : ℕ) → i < length ops → origin_of (op_of_log ops i) ≡ Own op → op < i
  pub makes : (i op : ℕ) → i < length ops → origin_of (op_of_log ops i) ≡ Own op → made_name (op_of_log ops op) ≡ ended_name (op_of_log ops i)
  pub once : (i other op : ℕ) → i < length ops → other < length ops → origin_of (op_of_log ops i) ≡ Own op → origin_of (op_of_log ops other) ≡ Own op → i ≡ other

-- the op of a place
abbrev pub op_in : Plan → Place → Op
op_in plan place = op_of_log (slice_index_or plan.logs place.log []) place.op

-- the place is one of the plan
pub record IsIn (plan : Plan) (place : Place) : Type 0 where
  pub log : place.log < length plan.logs
  pub op : place.op < length (slice_index_or plan.logs place.log [])

-- the number is that of a hand-off
pub record IsNumbered (plan : Plan) (number : ℕ) : Type 0 where
  pub least : 1 ≤ number
  pub most : number ≤ length plan.receivers

-- the hand-off of this number is from one op to another, under one name; after this many turns only the first was done
pub record IsHandedOff (plan : Plan) (number : ℕ) : Type 0 where
  pub maker : Place
  pub taker : Place
  pub maker_in : IsIn plan maker
  pub taker_in : IsIn plan taker
  pub given : handed_as (op_in plan maker) ≡ Some number
  pub taken : origin_of (op_in plan taker) ≡ Claim number
  pub receiver : slice_index plan.receivers (number - 1) ≡ taker.log
  pub name : made_name (op_in plan maker) ≡ ended_name (op_in plan taker)
  pub only_maker : (place : Place) → IsIn plan place → handed_as (op_in plan place) ≡ Some number → place ≡ maker
  pub only_taker : (place : Place) → IsIn plan place → origin_of (op_in plan place) ≡ Claim number → place ≡ taker
  pub turns : ℕ
  pub within : turns ≤ length plan.order
  pub done : maker.op < turns_had maker.log (take turns plan.order)
  pub waiting : turns_had taker.log (take turns plan.order) ≤ taker.op

-- each block has one maker and at most one taker; each log has as many turns as ops, and there is no other turn
pub record IsSound (plan : Plan) : Type 0 where
  pub own : All TakesOwnOps plan.logs
  pub kept : (place : Place) (op : ℕ) → IsIn plan place → origin_of (op_in plan place) ≡ Own op → handed_as (op_in plan (record { log = place.log; op = op })) ≡ None
  pub turns : (log : ℕ) → log < length plan.logs → turns_had log plan.order ≡ length (slice_index_or plan.logs log [])
  pub order : All (λ log. log < length plan.logs) plan.order
  pub given : (place : Place) (number : ℕ) → IsIn plan place → handed_as (op_in plan place) ≡ Some number → IsNumbered plan number
  pub taken : (place : Place) (number : ℕ) → IsIn plan place → origin_of (op_in plan place) ≡ Claim number → IsNumbered plan number
  pub handed : (number : ℕ) → IsNumbered plan number → IsHandedOff plan number
