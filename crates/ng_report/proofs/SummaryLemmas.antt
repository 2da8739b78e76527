-- The counts of replies are those of the entries that they stand for.
use Rattle.std.proofs.Common.{◌≡◌, ℕ, ◌+◌, Bool, true, false, if◌then◌else◌, cond, ◌==◌, List, [], ◌∷◌, ◌++◌, length, count_by, refl, arith}
use Rattle.std.proofs.lemmas.List.Sums.{sum_by-append, sum_by-cons}
use Rattle.ng_terms.specs.declared.entry.Entry.{Entry}
use Rattle.ng_terms.specs.declared.entry.Entry.TheVariants as entry
use Rattle.ng_terms.specs.declared.plan.Op.{Op}
use Rattle.ng_terms.specs.declared.reply.Made.TheVariants as made
use Rattle.ng_terms.specs.declared.reply.Mode.{Mode}
use Rattle.ng_terms.specs.declared.reply.Reply.{Reply}
use Rattle.ng_terms.specs.declared.reply.Reply.TheVariants.{Given, Freed, Moved, NoMemory, TooLarge, BadAlign, Skipped, Absent, Fresh}
use Rattle.ng_terms.specs.Calls.{size_of, calls_for, calls_of, calls_of_log}
use Rattle.ng_terms.specs.Reports.{entries_of, replies_with, is_give, is_take, is_resize, is_no_memory, is_too_large, is_bad_align}
use Rattle.ng_report.specs.Kinds.{gives, takes, resizes, lacks_memory, is_oversized, has_bad_align}
use Rattle.ng_report.specs.Room.{HasReplies}

-- a test of entries that holds of at most one entry of each reply, and of one where the test of replies holds
pub record CountsAlike (mode : Mode) (of_entry : Entry → Bool) (of_reply : Reply → Bool) : Type 0 where
  pub each : (size : ℕ) (reply : Reply) → count_by of_entry (calls_for mode size reply) ≡ cond (of_reply reply) 1 0

-- of one log
pub count_by-calls_of_log : (mode : Mode) (of_entry : Entry → Bool) (of_reply : Reply → Bool) → CountsAlike mode of_entry of_reply
    → (ops : List Op) (replies : List Reply) → length replies ≡ length ops
    → count_by of_entry (calls_of_log mode ops replies) ≡ count_by of_reply replies
count_by-calls_of_log mode of_entry of_reply same [] [] long = refl
count_by-calls_of_log mode of_entry of_reply same [] (reply ∷ replies) long = absurd (omega arith)
count_by-calls_of_log mode of_entry of_reply same (op ∷ ops) [] long = absurd (omega arith)
count_by-calls_of_log mode of_entry of_reply same (op ∷ ops) (reply ∷ replies) long =
    let rest : count_by of_entry (calls_of_log mode ops replies) ≡ count_by of_reply replies = count_by-calls_of_log mode of_entry of_reply same ops replies (omega arith) in
    let here : count_by of_entry (calls_of mode op reply) ≡ cond (of_reply reply) 1 0 = same.each (size_of op) reply in
    let left : count_by of_entry (calls_of mode op reply ++ calls_of_log mode ops replies) ≡ count_by of_entry (calls_of mode op reply) + count_by of_entry (calls_of_log mode ops replies) = sum_by-append (λ entry. cond (of_entry entry) 1 0) (calls_of mode op reply) (calls_of_log mode ops replies) in
    let right : count_by of_reply (reply ∷ replies) ≡ cond (of_reply reply) 1 0 + count_by of_reply replies = sum_by-cons (λ r. cond (of_reply r) 1 0) reply replies in
    cc

-- of all logs
pub count_by-entries_of : (mode : Mode) (of_entry : Entry → Bool) (of_reply : Reply → Bool) → CountsAlike mode of_entry of_reply
    → (logs : List (List Op)) (replies : List (List Reply)) → HasReplies logs replies
    → count_by of_entry (entries_of mode logs replies) ≡ replies_with of_reply replies
count_by-entries_of mode of_entry of_reply same [] [] answered = refl
count_by-entries_of mode of_entry of_reply same [] (log ∷ replies) answered = absurd answered
count_by-entries_of mode of_entry of_reply same (ops ∷ logs) [] answered = absurd answered
count_by-entries_of mode of_entry of_reply same (ops ∷ logs) (log ∷ replies) answered =
    let rest : count_by of_entry (entries_of mode logs replies) ≡ replies_with of_reply replies = count_by-entries_of mode of_entry of_reply same logs replies answered.1 in
    let here : count_by of_entry (calls_of_log mode ops log) ≡ count_by of_reply log = count_by-calls_of_log mode of_entry of_reply same ops log answered.0 in
    let left : count_by of_entry (calls_of_log mode ops log ++ entries_of mode logs replies) ≡ count_by of_entry (calls_of_log mode ops log) + count_by of_entry (entries_of mode logs replies) = sum_by-append (λ entry. cond (of_entry entry) 1 0) (calls_of_log mode ops log) (entries_of mode logs replies) in
    let right : replies_with of_reply (log ∷ replies) ≡ count_by of_reply log + replies_with of_reply replies = sum_by-cons (λ l. count_by of_reply l) log replies in
    cc

-- gives
give-each : (mode : Mode) (size : ℕ) (reply : Reply) → count_by is_give (calls_for mode size reply) ≡ cond (gives reply) 1 0
give-each mode size (Given at) = refl
give-each mode size (Freed at) = refl
give-each mode size (Moved old at) = elim (old == at) as (λ b. count_by is_give (if b then entry.Resize at size ∷ [] else entry.Give size 16 at ∷ entry.Take old ∷ []) ≡ cond (if b then false else true) 1 0) [ true ↦ refl | false ↦ refl ]
give-each mode size (NoMemory old excuse) = refl
give-each mode size (TooLarge old) = refl
give-each mode size BadAlign = refl
give-each mode size Skipped = refl
give-each mode size Absent = refl
give-each mode size (Fresh skipped (made.Given at)) = refl
give-each mode size (Fresh skipped (made.NoMemory excuse)) = refl
give-each mode size (Fresh skipped made.TooLarge) = refl
give-each mode size (Fresh skipped made.BadAlign) = refl

-- takes
take-each : (mode : Mode) (size : ℕ) (reply : Reply) → count_by is_take (calls_for mode size reply) ≡ cond (takes reply) 1 0
take-each mode size (Given at) = refl
take-each mode size (Freed at) = refl
take-each mode size (Moved old at) = elim (old == at) as (λ b. count_by is_take (if b then entry.Resize at size ∷ [] else entry.Give size 16 at ∷ entry.Take old ∷ []) ≡ cond (if b then false else true) 1 0) [ true ↦ refl | false ↦ refl ]
take-each mode size (NoMemory old excuse) = refl
take-each mode size (TooLarge old) = refl
take-each mode size BadAlign = refl
take-each mode size Skipped = refl
take-each mode size Absent = refl
take-each mode size (Fresh skipped (made.Given at)) = refl
take-each mode size (Fresh skipped (made.NoMemory excuse)) = refl
take-each mode size (Fresh skipped made.TooLarge) = refl
take-each mode size (Fresh skipped made.BadAlign) = refl

-- resizes
resize-each : (mode : Mode) (size : ℕ) (reply : Reply) → count_by is_resize (calls_for mode size reply) ≡ cond (resizes reply) 1 0
resize-each mode size (Given at) = refl
resize-each mode size (Freed at) = refl
resize-each mode size (Moved old at) = elim (old == at) as (λ b. count_by is_resize (if b then entry.Resize at size ∷ [] else entry.Give size 16 at ∷ entry.Take old ∷ []) ≡ cond (b) 1 0) [ true ↦ refl | false ↦ refl ]
resize-each mode size (NoMemory old excuse) = refl
resize-each mode size (TooLarge old) = refl
resize-each mode size BadAlign = refl
resize-each mode size Skipped = refl
resize-each mode size Absent = refl
resize-each mode size (Fresh skipped (made.Given at)) = refl
resize-each mode size (Fresh skipped (made.NoMemory excuse)) = refl
resize-each mode size (Fresh skipped made.TooLarge) = refl
resize-each mode size (Fresh skipped made.BadAlign) = refl

-- refusals of the mapper
no_memory-each : (mode : Mode) (size : ℕ) (reply : Reply) → count_by is_no_memory (calls_for mode size reply) ≡ cond (lacks_memory reply) 1 0
no_memory-each mode size (Given at) = refl
no_memory-each mode size (Freed at) = refl
no_memory-each mode size (Moved old at) = elim (old == at) as (λ b. count_by is_no_memory (if b then entry.Resize at size ∷ [] else entry.Give size 16 at ∷ entry.Take old ∷ []) ≡ cond (false) 1 0) [ true ↦ refl | false ↦ refl ]
no_memory-each mode size (NoMemory old excuse) = refl
no_memory-each mode size (TooLarge old) = refl
no_memory-each mode size BadAlign = refl
no_memory-each mode size Skipped = refl
no_memory-each mode size Absent = refl
no_memory-each mode size (Fresh skipped (made.Given at)) = refl
no_memory-each mode size (Fresh skipped (made.NoMemory excuse)) = refl
no_memory-each mode size (Fresh skipped made.TooLarge) = refl
no_memory-each mode size (Fresh skipped made.BadAlign) = refl

-- sizes that are too large
too_large-each : (mode : Mode) (size : ℕ) (reply : Reply) → count_by is_too_large (calls_for mode size reply) ≡ cond (is_oversized reply) 1 0
too_large-each mode size (Given at) = refl
too_large-each mode size (Freed at) = refl
too_large-each mode size (Moved old at) = elim (old == at) as (λ b. count_by is_too_large (if b then entry.Resize at size ∷ [] else entry.Give size 16 at ∷ entry.Take old ∷ []) ≡ cond (false) 1 0) [ true ↦ refl | false ↦ refl ]
too_large-each mode size (NoMemory old excuse) = refl
too_large-each mode size (TooLarge old) = refl
too_large-each mode size BadAlign = refl
too_large-each mode size Skipped = refl
too_large-each mode size Absent = refl
too_large-each mode size (Fresh skipped (made.Given at)) = refl
too_large-each mode size (Fresh skipped (made.NoMemory excuse)) = refl
too_large-each mode size (Fresh skipped made.TooLarge) = refl
too_large-each mode size (Fresh skipped made.BadAlign) = refl

-- refused alignments
bad_align-each : (mode : Mode) (size : ℕ) (reply : Reply) → count_by is_bad_align (calls_for mode size reply) ≡ cond (has_bad_align reply) 1 0
bad_align-each mode size (Given at) = refl
bad_align-each mode size (Freed at) = refl
bad_align-each mode size (Moved old at) = elim (old == at) as (λ b. count_by is_bad_align (if b then entry.Resize at size ∷ [] else entry.Give size 16 at ∷ entry.Take old ∷ []) ≡ cond (false) 1 0) [ true ↦ refl | false ↦ refl ]
bad_align-each mode size (NoMemory old excuse) = refl
bad_align-each mode size (TooLarge old) = refl
bad_align-each mode size BadAlign = refl
bad_align-each mode size Skipped = refl
bad_align-each mode size Absent = refl
bad_align-each mode size (Fresh skipped (made.Given at)) = refl
bad_align-each mode size (Fresh skipped (made.NoMemory excuse)) = refl
bad_align-each mode size (Fresh skipped made.TooLarge) = refl
bad_align-each mode size (Fresh skipped made.BadAlign) = refl

-- each kind of entry is counted by its test of replies
pub count-give : (mode : Mode) (logs : List (List Op)) (replies : List (List Reply)) → HasReplies logs replies
    → count_by is_give (entries_of mode logs replies) ≡ replies_with gives replies
count-give mode logs replies answered = count_by-entries_of mode is_give gives (record { each = give-each mode }) logs replies answered

pub count-take : (mode : Mode) (logs : List (List Op)) (replies : List (List Reply)) → HasReplies logs replies
    → count_by is_take (entries_of mode logs replies) ≡ replies_with takes replies
count-take mode logs replies answered = count_by-entries_of mode is_take takes (record { each = take-each mode }) logs replies answered

pub count-resize : (mode : Mode) (logs : List (List Op)) (replies : List (List Reply)) → HasReplies logs replies
    → count_by is_resize (entries_of mode logs replies) ≡ replies_with resizes replies
count-resize mode logs replies answered = count_by-entries_of mode is_resize resizes (record { each = resize-each mode }) logs replies answered

pub count-no_memory : (mode : Mode) (logs : List (List Op)) (replies : List (List Reply)) → HasReplies logs replies
    → count_by is_no_memory (entries_of mode logs replies) ≡ replies_with lacks_memory replies
count-no_memory mode logs replies answered = count_by-entries_of mode is_no_memory lacks_memory (record { each = no_memory-each mode }) logs replies answered

pub count-too_large : (mode : Mode) (logs : List (List Op)) (replies : List (List Reply)) → HasReplies logs replies
    → count_by is_too_large (entries_of mode logs replies) ≡ replies_with is_oversized replies
count-too_large mode logs replies answered = count_by-entries_of mode is_too_large is_oversized (record { each = too_large-each mode }) logs replies answered

pub count-bad_align : (mode : Mode) (logs : List (List Op)) (replies : List (List Reply)) → HasReplies logs replies
    → count_by is_bad_align (entries_of mode logs replies) ≡ replies_with has_bad_align replies
count-bad_align mode logs replies answered = count_by-entries_of mode is_bad_align has_bad_align (record { each = bad_align-each mode }) logs replies answered
