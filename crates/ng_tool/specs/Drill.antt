-- What a drill owes.
use Rattle.std.specs.Prelude.{◌≡◌, ◌⊎◌, ℕ, ◌*◌, ◌≤◌, max, Bool, true, false, List, [], ◌∷◌, All}
use Rattle.ng_drill.specs.Caps.{AskedBy}
use Rattle.ng_drill.specs.Lines.{transcript}
use Rattle.ng_drill.specs.Transcripts.{IsTranscript}
use Rattle.ng_drill.specs.declared.answer.Answer.{Answer}
use Rattle.ng_drill.specs.declared.answer.Answer.TheVariants.{Malloc}
use Rattle.ng_drill.specs.declared.answer.Malloced.TheVariants.{NoMemory}
use Rattle.ng_history.specs.Book as book
use Rattle.ng_mapper.specs.Mapping.{Span}
use Rattle.ng_mapper.specs.Runs as mapper
use Rattle.ng_script.specs.declared.command.Command.{Command}
use Rattle.ng_script.specs.declared.script.Script.{Script}
use Rattle.ng_space.specs.Callers.{Caller}
use Rattle.ng_terms.specs.Accounts.{Counts, IsExcused, IsOneHistory, pages_for}
use Rattle.ng_terms.specs.Heap.{space_of}
use Rattle.ng_terms.specs.Histories.{Event}
use Rattle.ng_tool.specs.Closed.{IsLawfulOf, program_secret}
use Rattle.ng_tool.specs.declared.closed.Closed.{Closed}

-- the most refused pages rose for no more than a group, or a block that was asked, can need
abbrev pub IsMostOf : List Command → ℕ → ℕ → Type 0
IsMostOf commands before now = (now ≤ max before 512) ⊎ ((bytes : ℕ) × AskedBy commands bytes × (now ≤ pages_for bytes))

-- the mapper refused the call behind this answer
abbrev pub is_refused : Answer → Bool
is_refused (Malloc (NoMemory excuse)) = true
is_refused answer = false

-- a script done in a mapper's space: the answers to its commands, whose entries are the one book of the heap that was closed, and
-- a legal history with excuses that were refusals; its words are a lawful image that goes with that history, whatever was written
-- in the blocks; and this text is the transcript of the answers. Where the mapper's refusals are as many as before, no answer is a
-- refusal of it
pub record Drills (script : Script) (span : Span) (before now : Counts) (live : List mapper.Run) (closed : List Closed) (text : List ℕ) : Type 0 where
  pub heap : Closed
  pub one : closed ≡ heap ∷ []
  pub pages : heap.image.pages ≡ span.size
  pub book : book.Shown
  pub books : heap.books ≡ book ∷ []
  pub number : book.number ≡ 1
  pub replies : heap.replies ≡ []
  pub answers : List Answer
  pub stands : IsTranscript span.size script answers book.entries
  pub history : List Event
  pub legal : IsOneHistory (space_of (4096 * span.size)) (book.entries ∷ []) history
  pub excuses : All (λ event. IsExcused before.refusals now.refusals event.1) history
  pub most : IsMostOf script.commands before.most now.most
  pub image : IsLawfulOf program_secret span heap.image.words live history
  pub written : text ≡ transcript answers
  pub unrefused : now.refusals ≡ before.refusals → All (λ answer. is_refused answer ≡ false) answers

-- the script was done by the one hand of a heap, which sent no parcel
pub record IsDone (pages : ℕ) (script : Script) (answers : List Answer) (hands : List Caller) : Type 0 where
  pub hand : Caller
  pub one : hands ≡ hand ∷ []
  pub number : hand.number ≡ 1
  pub transcript : IsTranscript pages script answers hand.entries
  pub even : hand.view.sent ≡ hand.view.taken
