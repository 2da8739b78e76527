-- The hands of a plan's logs: log k, from 0, calls by the hand of the number k + 1.
use Rattle.std.specs.Prelude.{◌≡◌, ℕ, ◌+◌, ◌*◌, ◌<◌, List, [], All, length, map, slice_index_or}
use Rattle.ng_space.specs.Leaving.{AreFramed}
use Rattle.ng_space.specs.Callers.{Caller, fresh_caller}
use Rattle.ng_terms.specs.declared.plan.Plan.{Plan}
use Rattle.ng_terms.specs.declared.reply.Mode.{Mode}
use Rattle.ng_terms.specs.declared.reply.Reply.{Reply}
use Rattle.ng_terms.specs.Calls.{calls_of_log}

-- the rooms of the logs' books: an op has two entries at most
abbrev pub rooms_for : Plan → List ℕ
rooms_for plan = map (λ ops. 2 * length ops) plan.logs

-- the hand of a log
abbrev pub hand_at : List Caller → ℕ → Caller
hand_at hands log = slice_index_or hands log (fresh_caller 0 0)

-- each log has its hand, whose book is the calls of the log's ops so far, under the mode
pub record AreBooks (plan : Plan) (mode : Mode) (replies : List (List Reply)) (hands : List Caller) : Type 0 where
  pub count : length hands ≡ length plan.logs
  pub numbers : (log : ℕ) → log < length plan.logs → (hand_at hands log).number ≡ log + 1
  pub each : (log : ℕ) → log < length plan.logs
      → (hand_at hands log).entries ≡ calls_of_log mode (slice_index_or plan.logs log []) (slice_index_or replies log [])

-- each block of the hands is framed
abbrev pub AreAllFramed : List Caller → Type 0
AreAllFramed hands = All (λ (hand : Caller). AreFramed hand.view) hands
