-- What callers need: that fitting replies are one for each op, and how large a report is at most.
use Rattle.std.proofs.Common.{◌≡◌, ℕ, ◌+◌, ◌*◌, suc, ◌<◌, ◌≤◌, Bool, true, false, List, [], ◌∷◌, length, slice_index_or, arith}
use Rattle.std.proofs.lemmas.Slice.Zip.{AllZip-long}
use Rattle.ng_terms.specs.declared.plan.Op.{Op}
use Rattle.ng_terms.specs.declared.plan.Plan.{Plan}
use Rattle.ng_terms.specs.declared.reply.Mode.{Mode}
use Rattle.ng_terms.specs.declared.reply.Reply.{Reply}
use Rattle.ng_terms.specs.Calls.{Fits, FitsOp, source_of, origin_of, op_count}
use Rattle.ng_report.specs.Room.{HasReplies, room_of}

-- one reply for each op, told log by log
pub HasReplies-from_each : (logs : List (List Op)) (replies : List (List Reply)) → length replies ≡ length logs
    → ((log : ℕ) → log < length logs → length (slice_index_or replies log []) ≡ length (slice_index_or logs log []))
    → HasReplies logs replies
HasReplies-from_each [] [] count each = tt
HasReplies-from_each [] (log ∷ replies) count each = absurd (omega arith)
HasReplies-from_each (ops ∷ logs) [] count each = absurd (omega arith)
HasReplies-from_each (ops ∷ logs) (log ∷ replies) count each =
    (each 0 (omega arith), HasReplies-from_each logs replies (omega arith) (λ k below. each (suc k) (omega arith)))

-- replies that fit a plan can be rendered
pub HasReplies-from_Fits : (plan : Plan) (mode : Mode) (replies : List (List Reply)) → Fits plan mode replies → HasReplies plan.logs replies
HasReplies-from_Fits plan mode replies fits =
    HasReplies-from_each plan.logs replies fits.logs
    (λ log below. AllZip-long (λ op reply. FitsOp mode (source_of plan.logs replies log (origin_of op)) op reply) (slice_index_or plan.logs log []) (slice_index_or replies log []) (fits.ops log below))

-- a report takes at most 142 bytes for each op and 360 for its counts
pub room_of-le : (plan : Plan) (calls_shown : Bool) → room_of plan calls_shown ≤ 142 * op_count plan.logs + 360
room_of-le plan true = omega arith
room_of-le plan false = omega arith
