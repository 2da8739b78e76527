-- How a drill ends: what the close of its heap and the answers tell together.
use Rattle.std.proofs.Common.{◌≡◌, ◌⊎◌, ℕ, zero, suc, ◌+◌, ◌*◌, ◌<◌, ◌≤◌, max, List, [], ◌∷◌, ◌++◌, All, length, refl, sym, ap, ◌∙◌, subst, inl, inr, ⊎_elim, arith}
use Rattle.std.specs.Prelude.{Option}
use Rattle.std.proofs.lemmas.Bool.{cases_lt}
use Rattle.ng_drill.specs.Caps.{AskedBy, IsCapOf}
use Rattle.ng_drill.specs.Lines.{transcript}
use Rattle.ng_drill.specs.States.{State}
use Rattle.ng_drill.specs.Transcripts.{Answers, IsTranscript}
use Rattle.ng_drill.specs.declared.answer.Answer.{Answer}
use Rattle.ng_group.specs.Opening.{IsFreshMapper, IsHandedBack}
use Rattle.ng_history.specs.Book as book
use Rattle.ng_mapper.specs.Mapping.{Span}
use Rattle.ng_mapper.specs.Runs as mapper
use Rattle.ng_mapper.specs.declared.refusals.Refusals.{Refusals}
use Rattle.ng_replay.specs.Books.{hand_at}
use Rattle.ng_replay.specs.Serving.{counts_of}
use Rattle.ng_replay.proofs.ClosingLemmas.{all_excused, one_history}
use Rattle.ng_script.specs.declared.command.Command.{Command}
use Rattle.ng_script.specs.declared.script.Script.{Script}
use Rattle.ng_space.specs.Callers.{Caller}
use Rattle.ng_space.specs.Closings.{IsClosed, books_of}
use Rattle.ng_space.specs.Names.{Facts}
use Rattle.ng_terms.specs.Accounts.{Counts, IsExcused, IsOneHistory, pages_for}
use Rattle.ng_terms.specs.Heap.{space_of}
use Rattle.ng_terms.specs.declared.entry.Entry.{Entry}
use Rattle.ng_view.specs.declared.view.View.{View}
use Rattle.ng_tool.specs.Closed.{program_secret}
use Rattle.ng_tool.specs.Drill.{Drills, IsMostOf}
use Rattle.ng_tool.specs.Opened.{counts_at, span_at}
use Rattle.ng_tool.specs.Tool.{Writes}
use Rattle.ng_tool.specs.declared.closed.Closed.{Closed}
use Rattle.ng_words.specs.declared.status.Status.{Status}
use Rattle.ng_tool.proofs.EndLemmas.{counts_opened, lawful_closed, span_opened}
use Rattle.ng_tool.proofs.UnrefusedLemmas.{script_unrefused}

-- ---- the most refused pages are bounded as an account wants it
most_of_cap : (commands : List Command) (cap before now : ℕ) → IsCapOf commands cap → now ≤ max before (max 512 (pages_for cap)) → IsMostOf commands before now
most_of_cap commands cap before now is most = ⊎_elim
    (λ (none : cap ≡ 0). inl (omega (arith, none)))
    (λ (asked : AskedBy commands cap). ⊎_elim
    (λ (more : max before 512 < now). inr (cap, asked, omega arith))
    (λ (few : now ≤ max before 512). inl few)
    (cases_lt (max before 512) now))
    is.asked

-- ---- a drill whose heap was closed
module _ {X : Type 0} (runs : X → List mapper.Run) (refused : X → Refusals) (span : X → Span) (script : Script) (facts : Facts)
    (lock : View) (hand : Caller) (ended back : X) (heap : Closed) (answers : List Answer) where
  pub drills_closed : facts.start.secret ≡ program_secret → IsCapOf script.commands facts.start.cap → back ≡ ended
      → heap.image.pages ≡ facts.start.pages → hand.number ≡ 1
      → IsTranscript facts.start.pages script answers hand.entries
      → IsClosed facts.start heap.image.words lock (hand ∷ []) → IsHandedBack facts lock (span ended) (runs ended) (refused ended)
      → heap.books ≡ books_of (hand ∷ []) → heap.replies ≡ []
      → (closed_before closed : List Closed) → closed_before ≡ [] → closed ≡ closed_before ++ heap ∷ []
      → (text_before text : List ℕ) → text_before ≡ [] → text ≡ text_before ++ transcript answers
      → Drills script (span_at facts.start) (counts_at facts) (counts_of (refused back)) (runs back) closed text
  drills_closed secret cap same image_pages number transcribed ends left books_are no_replies closed_before closed none closed_is text_before text no_text text_is =
      let back_left : IsHandedBack facts lock (span back) (runs back) (refused back) =
      subst (λ (m : X). IsHandedBack facts lock (span m) (runs m) (refused m)) (sym same) left in
      let numbers : (log : ℕ) → log < 1 → (hand_at (hand ∷ []) log).number ≡ log + 1 = numbered in
      let one : IsOneHistory (space_of (4096 * facts.start.pages)) (hand.entries ∷ []) ends.history.calls =
      one_history facts.start lock (hand ∷ []) ends.history back_left.bookless ends.own numbers ends.words.lawful.range in
      let excused : All (λ event. IsExcused facts.start.refusals (refused back).count event.1) ends.history.calls =
      all_excused facts.start lock (hand ∷ []) ends.history back_left.bookless ends.own numbers ends.excuses back_left.leads
      facts.start.refusals (refused back).count refl back_left.counted in record {
        heap = heap;
        one = closed_is ∙ ap (λ (before : List Closed). before ++ heap ∷ []) none;
        pages = image_pages;
        book = record { number = hand.number; spare = hand.spare; entries = hand.entries };
        books = books_are;
        number = number;
        replies = no_replies;
        answers = answers;
        stands = transcribed;
        history = ends.history.calls;
        legal = one;
        excuses = excused;
        most = most_of_cap script.commands facts.start.cap facts.most (refused back).most cap back_left.most;
        image = lawful_closed facts lock (hand ∷ []) (span back) (runs back) (refused back) heap.image.words secret ends back_left;
        written = text_is ∙ ap (λ (t : List ℕ). t ++ transcript answers) no_text;
        unrefused = script_unrefused facts.start.pages script answers hand.entries (space_of (4096 * facts.start.pages)) ends.history.calls
            facts.start.refusals (refused back).count transcribed one excused;
      }
    where
      numbered : (log : ℕ) → log < 1 → (hand_at (hand ∷ []) log).number ≡ log + 1
      numbered zero below = number
      numbered (suc log) below = absurd (omega arith)

-- how a drill ends, told by the mapper that its heap was opened over
pub ends_drill_opened : (script : Script) (facts : Facts) (span : Span) (before live : List mapper.Run) (refused : Refusals) (now : Counts)
    (closed : List Closed) (written written' : Option (List ℕ)) (status : Status) → IsFreshMapper facts.start span before refused → refused.most ≡ facts.most
    → Writes (Drills script (span_at facts.start) (counts_at facts) now live closed) written written' status
    → Writes (Drills script span (counts_of refused) now live closed) written written' status
ends_drill_opened script facts span before live refused now closed written written' status fresh most ends =
    subst (λ (s : Span). Writes (Drills script s (counts_of refused) now live closed) written written' status) (sym (span_opened facts span before refused fresh))
    (subst (λ (c : Counts). Writes (Drills script (span_at facts.start) c now live closed) written written' status)
    (sym (counts_opened facts span before refused fresh most)) ends)

-- each command has one answer
pub count_answers : (pages : ℕ) (before : State) (commands : List Command) (answers : List Answer) (entries : List Entry) (after : State)
    → Answers pages before commands answers entries after → length answers ≡ length commands
count_answers pages before [] [] entries after are = refl
count_answers pages before (command ∷ commands) (answer ∷ answers) entries after are =
    ap suc (count_answers pages are.0 commands answers are.1 after are.4)
count_answers pages before [] (answer ∷ answers) entries after are = absurd are
count_answers pages before (command ∷ commands) [] entries after are = absurd are
