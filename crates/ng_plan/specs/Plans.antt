-- The plan of logs.
use Rattle.std.specs.Prelude.{ℕ, ◌+◌, Bool, List, [], ◌∷◌, ◌++◌, ◌==◌, ◌&&◌, length, map, Option, Some, None}
use Rattle.std.specs.List.{position_from}
use Rattle.ng_mtrace.specs.declared.log.Line.{Line}
use Rattle.ng_mtrace.specs.declared.log.Log.{Log}
use Rattle.ng_mtrace.specs.declared.log.Line.TheVariants as line
use Rattle.ng_terms.specs.declared.plan.Op.{Op}
use Rattle.ng_terms.specs.declared.plan.Op.TheVariants.{Make, Free, Move}
use Rattle.ng_terms.specs.declared.plan.Origin.{Origin}
use Rattle.ng_terms.specs.declared.plan.Origin.TheVariants.{Own, Claim, Skip}
use Rattle.ng_terms.specs.declared.plan.Plan.{Plan}
use Rattle.ng_plan.specs.declared.step.Place.{Place}
use Rattle.ng_plan.specs.Mentions.{own}
use Rattle.ng_plan.specs.Steps.{steps_of}
use Rattle.ng_plan.specs.Turns.{Turns, makers_of, takers_of, turns_of}

abbrev pub is_place : Place → Place → Bool
is_place place other = (other.log == place.log) && (other.op == place.op)

-- the number of a place among these, from 1
abbrev pub number_of : List Place → Place → Option ℕ
number_of places place = position_from (is_place place) 1 places

-- where the block comes from, by the log's own op and the number of the hand-off taken
abbrev pub origin : Option ℕ → Option ℕ → Origin
origin (Some op) taken = Own op
origin None (Some number) = Claim number
origin None None = Skip

-- the op of a line, by its own op and the numbers of the hand-offs taken and given
abbrev pub op_of : Line → Option ℕ → Option ℕ → Option ℕ → Op
op_of (line.Make name size) own taken given = Make name size given
op_of (line.End name) own taken given = Free name (origin own taken)
op_of (line.Move old name size) own taken given = Move old name (origin own taken) size given

-- the ops of a log's lines behind these lines
abbrev pub ops_behind : Turns → ℕ → List Line → List Line → List Op
ops_behind turns log before [] = []
ops_behind turns log before (line ∷ lines) =
    let place : Place = record { log = log; op = length before } in
    op_of line (own before line) (number_of (takers_of turns) place) (number_of (makers_of turns) place)
    ∷ ops_behind turns log (before ++ line ∷ []) lines

-- the ops of a log
abbrev pub ops_of : Turns → ℕ → List Line → List Op
ops_of turns log lines = ops_behind turns log [] lines

-- the ops of the logs from this one on
abbrev pub ops_from : Turns → ℕ → List (List Line) → List (List Op)
ops_from turns log [] = []
ops_from turns log (lines ∷ logs) = ops_of turns log lines ∷ ops_from turns (log + 1) logs

-- the plan with these turns
abbrev pub plan_with : Turns → List (List Line) → Plan
plan_with turns logs = record {
  logs = ops_from turns 0 logs;
  order = turns.order;
  receivers = map (λ handoff. handoff.taker.log) turns.handoffs;
}

-- the lines of each log
abbrev pub lines_of : List Log → List (List Line)
lines_of logs = map (λ log. log.lines) logs

-- the plan of logs, by the lines of each
abbrev pub plan_of : List (List Line) → Plan
plan_of logs = plan_with (turns_of (map steps_of logs)) logs
