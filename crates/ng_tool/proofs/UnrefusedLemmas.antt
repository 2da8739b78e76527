-- Where the mapper refused nothing more, no reply and no answer is a refusal of it: each would stand in an entry whose excuse
-- lies between two equal counts.
use Rattle.std.proofs.Common.{◌≡◌, ℕ, ◌+◌, ◌<◌, ◌≤◌, ◌==◌, Bool, true, false, List, [], ◌∷◌, ◌++◌, length, refl, sym, ap, ◌∙◌, subst, arith}
use Rattle.std.specs.Prelude.{All, Option, Some, None, filter, map, flat_map, slice_index_or, if◌then◌else◌}
use Rattle.std.specs.List.{AllZip, zip}
use Rattle.std.proofs.lemmas.List.Elements.{All-cons, All-filter, All-from_get_or, All-head, All-map, All-nil, All-tail, AllZip-get_or, length_all_zip}
use Rattle.ng_drill.specs.States.{State, first_state}
use Rattle.ng_drill.specs.Steps as drill
use Rattle.ng_drill.specs.Transcripts.{Answers, IsTranscript}
use Rattle.ng_drill.specs.declared.answer.Answer.{Answer}
use Rattle.ng_drill.specs.declared.answer.Answer.TheVariants as answer
use Rattle.ng_drill.specs.declared.answer.Malloced.TheVariants as malloced
use Rattle.ng_report.specs.Kinds.{lacks_memory}
use Rattle.ng_script.specs.declared.command.Command.{Command}
use Rattle.ng_script.specs.declared.command.Command.TheVariants as command
use Rattle.ng_script.specs.declared.script.Script.{Script}
use Rattle.ng_terms.specs.Accounts.{Account, Counts, IsExcused, IsOneHistory}
use Rattle.ng_terms.specs.Calls.{FitsOp, calls_of, calls_of_log, origin_of, source_of}
use Rattle.ng_terms.specs.Heap.{Space}
use Rattle.ng_terms.specs.Histories.{Event, book_of}
use Rattle.ng_terms.specs.declared.entry.Entry.{Entry}
use Rattle.ng_terms.specs.declared.entry.Entry.TheVariants as entry
use Rattle.ng_terms.specs.declared.plan.Op.{Op}
use Rattle.ng_terms.specs.declared.plan.Plan.{Plan}
use Rattle.ng_terms.specs.declared.reply.Made.{Made}
use Rattle.ng_terms.specs.declared.reply.Made.TheVariants as made
use Rattle.ng_terms.specs.declared.reply.Mode.{Mode}
use Rattle.ng_terms.specs.declared.reply.Reply.{Reply}
use Rattle.ng_terms.specs.declared.reply.Reply.TheVariants.{Given, Freed, Moved, NoMemory, TooLarge, BadAlign, Skipped, Absent, Fresh}
use Rattle.ng_tool.specs.Drill.{is_refused}
use Rattle.ng_tool.specs.Tool.{AreUnrefused}

-- what holds of all of two lists in a row holds of all of each
front : {X : Type 0} (P : X → Type 0) (xs ys : List X) → All P (xs ++ ys) → All P xs
front P [] ys all = All-nil P
front P (x ∷ xs) ys all = All-cons P x xs (All-head P x (xs ++ ys) all) (front P xs ys (All-tail P x (xs ++ ys) all))

back : {X : Type 0} (P : X → Type 0) (xs ys : List X) → All P (xs ++ ys) → All P ys
back P [] ys all = all
back P (x ∷ xs) ys all = back P xs ys (All-tail P x (xs ++ ys) all)

module _ (before now : ℕ) (same : now ≡ before) where
  -- no refusal has an excuse
  no_excuse : (n excuse : ℕ) → All (IsExcused before now) (entry.NoMemory n excuse ∷ []) → ⊥
  no_excuse n excuse all =
      let is : IsExcused before now (entry.NoMemory n excuse) = All-head (IsExcused before now) (entry.NoMemory n excuse) [] all in
      omega (arith, same, is.0, is.1)

  -- each entry of a book is one of the history
  book_excused : (number : ℕ) (history : List Event) → All (λ event. IsExcused before now event.1) history → All (IsExcused before now) (book_of number history)
  book_excused number history all =
      All-map (IsExcused before now) (λ (event : Event). event.1) (filter (λ (event : Event). event.0 == number) history)
      (All-filter (λ (event : Event). event.0 == number) (λ (event : Event). IsExcused before now event.1) history all)

  -- ---- replies
  reply_unrefused : (mode : Mode) (op : Op) (reply : Reply) → All (IsExcused before now) (calls_of mode op reply) → lacks_memory reply ≡ false
  reply_unrefused mode op (Given at) all = refl
  reply_unrefused mode op (Freed at) all = refl
  reply_unrefused mode op (Moved old at) all = refl
  reply_unrefused mode op (NoMemory old excuse) all = absurd (no_excuse _ excuse all)
  reply_unrefused mode op (TooLarge old) all = refl
  reply_unrefused mode op BadAlign all = refl
  reply_unrefused mode op Skipped all = refl
  reply_unrefused mode op Absent all = refl
  reply_unrefused mode op (Fresh skipped (made.Given at)) all = refl
  reply_unrefused mode op (Fresh skipped (made.NoMemory excuse)) all = absurd (no_excuse _ excuse all)
  reply_unrefused mode op (Fresh skipped made.TooLarge) all = refl
  reply_unrefused mode op (Fresh skipped made.BadAlign) all = refl

  log_unrefused : (mode : Mode) (R : Op → Reply → Type 0) (ops : List Op) (replies : List Reply) → AllZip R ops replies
      → All (IsExcused before now) (calls_of_log mode ops replies) → All (λ reply. lacks_memory reply ≡ false) replies
  log_unrefused mode R [] [] fits all = All-nil (λ reply. lacks_memory reply ≡ false)
  log_unrefused mode R [] (reply ∷ replies) fits all = absurd fits
  log_unrefused mode R (op ∷ ops) [] fits all = absurd fits
  log_unrefused mode R (op ∷ ops) (reply ∷ replies) fits all =
      All-cons (λ reply. lacks_memory reply ≡ false) reply replies
      (reply_unrefused mode op reply (front (IsExcused before now) (calls_of mode op reply) (calls_of_log mode ops replies) all))
      (log_unrefused mode R ops replies fits.1 (back (IsExcused before now) (calls_of mode op reply) (calls_of_log mode ops replies) all))

  -- ---- answers
  answer_unrefused : (names : List (Option ℕ)) (pages : ℕ) (from to : State) (asked : Command) (answer : Answer) → drill.IsStep pages from asked answer to
      → All (IsExcused before now) (drill.entries_of names asked answer) → is_refused answer ≡ false
  answer_unrefused names pages from to (command.Malloc name n) (answer.Malloc (malloced.Given at)) step all = refl
  answer_unrefused names pages from to (command.Malloc name n) (answer.Malloc (malloced.NoMemory excuse)) step all = absurd (no_excuse n excuse all)
  answer_unrefused names pages from to (command.Malloc name n) (answer.Malloc malloced.TooLarge) step all = refl
  answer_unrefused names pages from to (command.Free place) (answer.Malloc made) step all = absurd step
  answer_unrefused names pages from to (command.Write name offset byte) (answer.Malloc made) step all = absurd step
  answer_unrefused names pages from to (command.Usable name) (answer.Malloc made) step all = absurd step
  answer_unrefused names pages from to asked (answer.Free freed) step all = refl
  answer_unrefused names pages from to asked (answer.Write written) step all = refl
  answer_unrefused names pages from to asked (answer.Usable size) step all = refl

  pub answers_unrefused : (pages : ℕ) (from : State) (commands : List Command) (answers : List Answer) (entries : List Entry) (after : State)
      → Answers pages from commands answers entries after → All (IsExcused before now) entries → All (λ answer. is_refused answer ≡ false) answers
  answers_unrefused pages from [] [] entries after are all = All-nil (λ answer. is_refused answer ≡ false)
  answers_unrefused pages from [] (answer ∷ answers) entries after are all = absurd are
  answers_unrefused pages from (asked ∷ commands) [] entries after are all = absurd are
  answers_unrefused pages from (asked ∷ commands) (answer ∷ answers) entries after are all =
      let own = drill.entries_of from.names asked answer in
      let whole : All (IsExcused before now) (own ++ are.1) = subst (All (IsExcused before now)) are.3 all in
      All-cons (λ answer. is_refused answer ≡ false) answer answers
      (answer_unrefused from.names pages from are.0 asked answer are.2 (front (IsExcused before now) own are.1 whole))
      (answers_unrefused pages are.0 commands answers are.1 after are.4 (back (IsExcused before now) own are.1 whole))

-- the replies of an account
pub replies_unrefused : (plan : Plan) (mode : Mode) (replies : List (List Reply)) (books : List (List Entry)) (pages : ℕ) (before now : Counts)
    → Account plan mode replies books pages before now → now.refusals ≡ before.refusals → AreUnrefused replies
replies_unrefused plan mode replies books pages before now account same =
    All-from_get_or (All (λ reply. lacks_memory reply ≡ false)) replies [] (λ log below.
    let there : log < length plan.logs = rw (← account.fits.logs) below in
    let in_books : log < length books = rw account.logs there in
    let calls : book_of (log + 1) account.history ≡ calls_of_log mode (slice_index_or plan.logs log []) (slice_index_or replies log []) =
    account.one.each log in_books ∙ account.calls log there in
    log_unrefused before.refusals now.refusals same mode
    (λ op reply. FitsOp mode (source_of plan.logs replies log (origin_of op)) op reply) (slice_index_or plan.logs log []) (slice_index_or replies log [])
    (account.fits.ops log there)
    (subst (All (IsExcused before.refusals now.refusals)) calls (book_excused before.refusals now.refusals same (log + 1) account.history account.excuses)))

-- the answers of a script whose entries are the one book of a legal history
pub script_unrefused : (pages : ℕ) (script : Script) (answers : List Answer) (entries : List Entry) (space : Space) (history : List Event) (before now : ℕ)
    → IsTranscript pages script answers entries → IsOneHistory space (entries ∷ []) history
    → All (λ event. IsExcused before now event.1) history → now ≡ before → All (λ answer. is_refused answer ≡ false) answers
script_unrefused pages script answers entries space history before now transcript one excused same =
    let book : book_of 1 history ≡ entries = one.each 0 (omega arith) in
    answers_unrefused before now same pages (first_state script.names) script.commands answers entries transcript.after transcript.answered
    (subst (All (IsExcused before now)) book (book_excused before now same 1 history excused))
