-- What a report needs: a reply for each op, and room.
use Rattle.std.specs.Prelude.{◌≡◌, ℕ, ◌+◌, ◌*◌, Bool, if◌then◌else◌, List, length, sum_by}
use Rattle.std.specs.List.{AllZip}
use Rattle.ng_terms.specs.declared.plan.Op.{Op}
use Rattle.ng_terms.specs.declared.plan.Plan.{Plan}
use Rattle.ng_terms.specs.declared.reply.Reply.{Reply}
use Rattle.ng_terms.specs.Calls.{op_count}
use Rattle.ng_report.specs.declared.room.TheConstants.{OP, SUMMARY}

-- the replies of all logs
abbrev pub reply_count : List (List Reply) → ℕ
reply_count replies = sum_by (λ log. length log) replies

-- one reply for each op of each log
abbrev pub HasReplies : List (List Op) → List (List Reply) → Type 0
HasReplies logs replies = AllZip (λ ops log. length log ≡ length ops) logs replies

-- the bytes that a report takes at most: for each op where calls are shown, and for the twelve counts
abbrev pub room_of : Plan → Bool → ℕ
room_of plan calls_shown = (if calls_shown then OP * op_count plan.logs else 0) + SUMMARY
