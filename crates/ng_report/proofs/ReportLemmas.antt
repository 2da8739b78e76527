-- A report is its call lines and the summary of its counts.
use Rattle.std.proofs.Common.{◌≡◌, ℕ, ◌+◌, ◌-◌, Bool, true, false, if◌then◌else◌, List, [], ◌∷◌, ◌++◌, length, refl, sym, ◌∙◌, arith, ap, subst, codes}
use Rattle.std.proofs.lemmas.List.{append_assoc, append-nil}
use Rattle.std.proofs.lemmas.List.Sums.{sum_by-cons}
use Rattle.ng_terms.specs.declared.plan.Op.{Op}
use Rattle.ng_terms.specs.declared.plan.Plan.{Plan}
use Rattle.ng_terms.specs.declared.reply.Mode.{Mode}
use Rattle.ng_terms.specs.declared.reply.Reply.{Reply}
use Rattle.ng_terms.specs.Reports.{report, summary, call_lines, count_line}
use Rattle.ng_report.specs.declared.counts.Counts.{Counts}
use Rattle.ng_report.specs.Counts.{IsCount}
use Rattle.ng_report.specs.Room.{HasReplies, reply_count}
use Rattle.ng_terms.specs.Calls.{op_count}
use Rattle.ng_report.specs.Summary.{summary_of}
use Rattle.ng_report.proofs.SummaryLemmas.{count-give, count-take, count-resize, count-no_memory, count-too_large, count-bad_align}

-- there are as many replies as ops
pub reply_count-is : (logs : List (List Op)) (replies : List (List Reply)) → HasReplies logs replies → reply_count replies ≡ op_count logs
reply_count-is [] [] answered = refl
reply_count-is [] (log ∷ replies) answered = absurd answered
reply_count-is (ops ∷ logs) [] answered = absurd answered
reply_count-is (ops ∷ logs) (log ∷ replies) answered =
    let rest : reply_count replies ≡ op_count logs = reply_count-is logs replies answered.1 in
    let here : length log ≡ length ops = answered.0 in
    let left : reply_count (log ∷ replies) ≡ length log + reply_count replies = sum_by-cons (λ l. length l) log replies in
    let right : op_count (ops ∷ logs) ≡ length ops + op_count logs = sum_by-cons (λ l. length l) ops logs in
    omega arith

-- a function of nine numbers at equal numbers
at_same : (f : ℕ → ℕ → ℕ → ℕ → ℕ → ℕ → ℕ → ℕ → ℕ → List ℕ) (a b c d e g h i j a' b' c' d' e' g' h' i' j' : ℕ)
    → a ≡ a' → b ≡ b' → c ≡ c' → d ≡ d' → e ≡ e' → g ≡ g' → h ≡ h' → i ≡ i' → j ≡ j' → f a b c d e g h i j ≡ f a' b' c' d' e' g' h' i' j'
at_same f a b c d e g h i j a' b' c' d' e' g' h' i' j' p q r s t u v w x = cc

-- the twelve lines of these numbers
abbrev lines_of : ℕ → ℕ → ℕ → ℕ → ℕ → ℕ → ℕ → ℕ → ℕ → ℕ → ℕ → List ℕ
lines_of logs pages calls given taken resized no_memory too_large bad_align skipped absent =
    count_line (codes "logs") logs
    ++ count_line (codes "calls") calls
    ++ count_line (codes "given") given
    ++ count_line (codes "taken") taken
    ++ count_line (codes "resized") resized
    ++ count_line (codes "nomemory") no_memory
    ++ count_line (codes "toolarge") too_large
    ++ count_line (codes "badalign") bad_align
    ++ count_line (codes "skipped") skipped
    ++ count_line (codes "absent") absent
    ++ count_line (codes "left") (given - taken)
    ++ count_line (codes "pages") pages

-- the summary of counts is that of the replies
pub summary_of-is : (mode : Mode) (logs : List (List Op)) (replies : List (List Reply)) (counts : Counts) (pages : ℕ)
    → HasReplies logs replies → IsCount counts replies → summary_of (length logs) counts pages ≡ summary mode logs replies pages
summary_of-is mode logs replies counts pages answered count =
    at_same (lines_of (length logs) pages) _ _ _ _ _ _ _ _ _ _ _ _ _ _ _ _ _ _
    count.calls
    (count.given ∙ sym (count-give mode logs replies answered))
    (count.taken ∙ sym (count-take mode logs replies answered))
    (count.resized ∙ sym (count-resize mode logs replies answered))
    (count.no_memory ∙ sym (count-no_memory mode logs replies answered))
    (count.too_large ∙ sym (count-too_large mode logs replies answered))
    (count.bad_align ∙ sym (count-bad_align mode logs replies answered))
    count.skipped
    count.absent

-- the text with its call lines, where they are shown
pub calls-shown : (old lines middle : List ℕ) (shown : Bool) → shown ≡ true → middle ≡ old ++ lines → middle ≡ old ++ (if shown then lines else [])
calls-shown old lines middle shown chosen more = rw chosen more

pub calls-hidden : (old lines middle : List ℕ) (shown : Bool) → shown ≡ false → middle ≡ old → middle ≡ old ++ (if shown then lines else [])
calls-hidden old lines middle shown left_out same = rw (left_out, append-nil) same

-- the text is the report once the summary follows the call lines
pub report-is : (plan : Plan) (mode : Mode) (shown : Bool) (replies : List (List Reply)) (pages : ℕ) (counts : Counts) (logs : List (List Op)) (old middle new : List ℕ)
    → logs ≡ plan.logs → HasReplies plan.logs replies → IsCount counts replies
    → middle ≡ old ++ (if shown then call_lines mode logs replies else [])
    → new ≡ middle ++ summary_of (length logs) counts pages
    → new ≡ old ++ report plan mode shown replies pages
report-is plan mode shown replies pages counts logs old middle new same answered count calls whole =
    let lines : List ℕ = if shown then call_lines mode plan.logs replies else [] in
    let twelve : List ℕ = summary mode plan.logs replies pages in
    let begun : middle ≡ old ++ lines = subst (λ (l : List (List Op)). middle ≡ old ++ (if shown then call_lines mode l replies else [])) same calls in
    let ended : new ≡ middle ++ summary_of (length plan.logs) counts pages = subst (λ (l : List (List Op)). new ≡ middle ++ summary_of (length l) counts pages) same whole in
    let counted : middle ++ summary_of (length plan.logs) counts pages ≡ middle ++ twelve = ap (λ (t : List ℕ). middle ++ t) (summary_of-is mode plan.logs replies counts pages answered count) in
    ended ∙ (counted ∙ (ap (λ (t : List ℕ). t ++ twelve) begun ∙ append_assoc old lines twelve))
