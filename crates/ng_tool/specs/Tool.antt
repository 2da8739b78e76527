-- What the top calls owe for each status.
use Rattle.std.specs.Prelude.{◌≡◌, ℕ, ◌+◌, ◌<◌, Bool, false, List, [], ◌∷◌, All, Option, None, length, sum_by, IsTrue}
use Rattle.ng_mapper.specs.Mapping.{Span}
use Rattle.ng_mapper.specs.Runs as mapper
use Rattle.ng_mtrace.specs.Streams.{added, WritesPart}
use Rattle.ng_census.specs.Census.{census}
use Rattle.ng_report.specs.Kinds.{lacks_memory}
use Rattle.ng_script.specs.Reads.{ReadsScript}
use Rattle.ng_script.specs.declared.script.Script.{Script}
use Rattle.ng_terms.specs.declared.plan.Plan.{Plan}
use Rattle.ng_terms.specs.declared.reply.Mode.{Mode}
use Rattle.ng_terms.specs.declared.reply.Reply.{Reply}
use Rattle.ng_terms.specs.Accounts.{Account, Counts}
use Rattle.ng_terms.specs.Reports.{report}
use Rattle.ng_words.specs.Words.{IsCommand}
use Rattle.ng_words.specs.declared.asked.Command.{Command}
use Rattle.ng_words.specs.declared.status.Status.{Status}
use Rattle.ng_words.specs.declared.status.Status.TheVariants.{Done, Usage, ReadFault, BadLine, Limit, NoLog, WriteFault, Host}
use Rattle.ng_words.specs.declared.verb.Verb.{Verb}
use Rattle.ng_words.specs.declared.verb.Verb.TheVariants.{Serial, Replay, Check, Drill, Make}
use Rattle.ng_tool.specs.Causes.{serves}
use Rattle.ng_tool.specs.Closed.{IsImageOf, entries_of, number_at, program_secret}
use Rattle.ng_tool.specs.Drill.{Drills}
use Rattle.ng_tool.specs.Inputs.{PlansInput, PlansMade}
use Rattle.ng_tool.specs.declared.call.Call.{Call}
use Rattle.ng_tool.specs.declared.closed.Closed.{Closed}

-- the mapper refused none of the calls behind these replies
abbrev pub AreUnrefused : List (List Reply) → Type 0
AreUnrefused replies = All (All (λ reply. lacks_memory reply ≡ false)) replies

-- a run of a plan under a mode in a mapper's space: the heap that was closed has the pages of the space, and replies and books
-- with which its account holds, the books numbered by the logs from 1 on; its words are a lawful image that goes with the same
-- history, and this text is the report of the replies. Where the mapper's refusals are as many as before, no reply is a refusal
-- of it
pub record Runs (plan : Plan) (mode : Mode) (calls_shown : Bool) (span : Span) (before now : Counts) (live : List mapper.Run) (closed : List Closed) (text : List ℕ) : Type 0 where
  pub heap : Closed
  pub one : closed ≡ heap ∷ []
  pub pages : heap.image.pages ≡ span.size
  pub numbers : (log : ℕ) → log < length plan.logs → number_at heap.books log ≡ log + 1
  pub account : Account plan mode heap.replies (entries_of heap.books) span.size before now
  pub image : IsImageOf program_secret span heap.image.words live account.history
  pub reported : text ≡ report plan mode calls_shown heap.replies (sum_by (λ run. run.1) live)
  pub unrefused : now.refusals ≡ before.refusals → AreUnrefused heap.replies

-- blocks are made with the common alignment, and their bytes aren't set
abbrev pub plain : Mode
plain = record { align = None; zero = false }

-- the run of the plan that the input's logs have
pub record Replays (command : Command) (left left' : Option (List ℕ)) (span : Span) (before now : Counts) (live : List mapper.Run) (closed : List Closed) (text : List ℕ) : Type 0 where
  pub plan : Plan
  pub input : PlansInput left left' plan
  pub run : Runs plan command.mode command.calls_shown span before now live closed text

-- the run of the plan of made logs, without a line for each call
pub record ReplaysMade (command : Command) (left left' : Option (List ℕ)) (span : Span) (before now : Counts) (live : List mapper.Run) (closed : List Closed) (text : List ℕ) : Type 0 where
  pub plan : Plan
  pub input : PlansMade left left' command.seed plan
  pub run : Runs plan plain false span before now live closed text

-- the script of the input, done
pub record DoesScript (left left' : Option (List ℕ)) (span : Span) (before now : Counts) (live : List mapper.Run) (closed : List Closed) (text : List ℕ) : Type 0 where
  pub script : Script
  pub input : ReadsScript left left' script
  pub run : Drills script span before now live closed text

-- the census of the plan that the input's logs have, over no heap
pub record CountsPlan (left left' : Option (List ℕ)) (before now : Counts) (closed : List Closed) (text : List ℕ) : Type 0 where
  pub plan : Plan
  pub input : PlansInput left left' plan
  pub counted : text ≡ census plan
  pub unopened : closed ≡ []
  pub calm : now ≡ before

-- the text answers the command
abbrev pub Answers : Verb → Command → Option (List ℕ) → Option (List ℕ) → Span → Counts → Counts → List mapper.Run → List Closed → List ℕ → Type 0
Answers Serial command left left' span before now live closed text = Replays command left left' span before now live closed text
Answers Replay command left left' span before now live closed text = Replays command left left' span before now live closed text
Answers Check command left left' span before now live closed text = CountsPlan left left' before now closed text
Answers Drill command left left' span before now live closed text = DoesScript left left' span before now live closed text
Answers Make command left left' span before now live closed text = ReplaysMade command left left' span before now live closed text

-- the words are those of a command that the top call does, and the text answers it
pub record Serves (call : Call) (texts : List (List ℕ)) (left left' : Option (List ℕ)) (span : Span) (before now : Counts) (live : List mapper.Run) (closed : List Closed) (text : List ℕ) : Type 0 where
  pub command : Command
  pub words : IsCommand texts command
  pub served : IsTrue (serves call command.verb)
  pub answer : Answers command.verb command left left' span before now live closed text

-- the whole of such a text was written
pub record WritesAnswer (call : Call) (texts : List (List ℕ)) (left left' : Option (List ℕ)) (span : Span) (before now : Counts) (live : List mapper.Run) (closed : List Closed) (written written' : Option (List ℕ)) : Type 0 where
  pub text : List ℕ
  pub serves : Serves call texts left left' span before now live closed text
  pub whole : written' ≡ added written text

-- a beginning of such a text was written
pub record WritesBeginning (call : Call) (texts : List (List ℕ)) (left left' : Option (List ℕ)) (span : Span) (before now : Counts) (live : List mapper.Run) (closed : List Closed) (written written' : Option (List ℕ)) : Type 0 where
  pub text : List ℕ
  pub serves : Serves call texts left left' span before now live closed text
  pub part : WritesPart written written' text

-- how a text of this kind was written: wholly, or a beginning of it
abbrev pub Writes : (List ℕ → Type 0) → Option (List ℕ) → Option (List ℕ) → Status → Type 0
Writes Is written written' Done = (text : List ℕ) × Is text × (written' ≡ added written text)
Writes Is written written' WriteFault = (text : List ℕ) × Is text × WritesPart written written' text
Writes Is written written' Usage = ⊥
Writes Is written written' ReadFault = ⊥
Writes Is written written' (BadLine line) = ⊥
Writes Is written written' (Limit line) = ⊥
Writes Is written written' NoLog = ⊥
Writes Is written written' Host = ⊥
