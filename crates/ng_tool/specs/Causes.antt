-- What a status tells of the words and of the input.
use Rattle.std.specs.Prelude.{◌≡◌, ◌≢◌, ◌⊎◌, ℕ, Bool, true, false, List, Option, IsTrue}
use Rattle.ng_mtrace.specs.declared.log_fault.LogFault.TheVariants as log
use Rattle.ng_mtrace.specs.Reads as logs
use Rattle.ng_script.specs.declared.script_fault.ScriptFault.TheVariants as script
use Rattle.ng_script.specs.Reads as scripts
use Rattle.ng_terms.specs.Causes.{Rose}
use Rattle.ng_words.specs.Words.{InLanguage}
use Rattle.ng_words.specs.declared.status.Status.{Status}
use Rattle.ng_words.specs.declared.status.Status.TheVariants.{Usage, ReadFault, BadLine, Limit, NoLog, Host}
use Rattle.ng_words.specs.declared.verb.Verb.{Verb}
use Rattle.ng_words.specs.declared.verb.Verb.TheVariants.{Serial, Replay, Check, Drill, Make}
use Rattle.ng_tool.specs.Inputs.{HasNoLog, IsInForm, IsScript}
use Rattle.ng_tool.specs.Statuses.{IsInputFault}
use Rattle.ng_tool.specs.declared.call.Call.{Call}
use Rattle.ng_tool.specs.declared.call.Call.TheVariants.{Tool, Beside}

-- the commands that a top call does
abbrev pub serves : Call → Verb → Bool
serves Tool Serial = true
serves Tool Replay = false
serves Tool Check = true
serves Tool Drill = true
serves Tool Make = true
serves Beside Serial = false
serves Beside Replay = true
serves Beside Check = false
serves Beside Drill = false
serves Beside Make = false

-- the status is due to what was taken of an input of logs, of which this was left before and is left now. The first event in
-- the order of its bytes decides: no fault stands before a read that failed, and no other status comes behind one
pub record IsLogsDue (left left' : Option (List ℕ)) (status : Status) : Type 0 where
  pub undecided : status ≡ ReadFault → logs.TakesFaultless left left'
  pub bad_line : (line : ℕ) → status ≡ BadLine line → logs.MeetsFault (log.BadLine line) left left'
  pub limit : (line : ℕ) → status ≡ Limit line → logs.MeetsFault (log.Limit line) left left'
  pub no_log : status ≡ NoLog → HasNoLog left left'

-- the same of an input that is a script
pub record IsScriptDue (left left' : Option (List ℕ)) (status : Status) : Type 0 where
  pub undecided : status ≡ ReadFault → scripts.TakesFaultless left left'
  pub bad_line : (line : ℕ) → status ≡ BadLine line → scripts.MeetsFault (script.BadLine line) left left'
  pub limit : (line : ℕ) → status ≡ Limit line → scripts.MeetsFault (script.Limit line) left left'
  pub no_log : status ≢ NoLog

-- the status tells of no fault of an input
abbrev pub IsFaultless : Status → Type 0
IsFaultless status = IsInputFault status → status ≡ Host

-- the status is due to the input of this command
abbrev pub IsInputDue : Verb → Option (List ℕ) → Option (List ℕ) → Status → Type 0
IsInputDue Serial left left' status = IsLogsDue left left' status
IsInputDue Replay left left' status = IsLogsDue left left' status
IsInputDue Check left left' status = IsLogsDue left left' status
IsInputDue Drill left left' status = IsScriptDue left left' status
IsInputDue Make left left' status = IsFaultless status

-- the status of a top call is due to the words, which aren't those of a command that it does, or to the input of that command;
-- words that aren't are told, where the host has memory to read them. Nothing is read where they aren't, nor for `make`.
-- The input has the bytes that are left of it and the count of its reads that failed, exact or not
pub record IsDue {X : Type 0} (call : Call) (texts : List (List ℕ)) (left : X → Option (List ℕ)) (faults : X → ℕ) (exact : Type 0) (before now : X) (status : Status) : Type 0 where
  pub usage : status ≡ Usage → (verb : Verb) → IsTrue (serves call verb) → ¬ InLanguage verb texts
  pub outside : ((verb : Verb) → IsTrue (serves call verb) → ¬ InLanguage verb texts) → (status ≡ Usage) ⊎ (status ≡ Host)
  pub unread : ((verb : Verb) → IsTrue (serves call verb) → InLanguage verb texts → verb ≡ Make) → now ≡ before
  pub read_fault : status ≡ ReadFault → Rose (faults before) (faults now)
  pub unfailed : exact → status ≢ ReadFault → faults now ≡ faults before
  pub input : status ≢ Usage → status ≢ Host
      → (verb : Verb) × IsTrue (serves call verb) × InLanguage verb texts × IsInputDue verb (left before) (left now) status

-- the input, of which this is left, is one that the command can do
abbrev pub IsInputOf : Verb → Option (List ℕ) → Type 0
IsInputOf Serial left = IsInForm left
IsInputOf Replay left = IsInForm left
IsInputOf Check left = IsInForm left
IsInputOf Drill left = IsScript left
IsInputOf Make left = Unit {0}

-- the words are those of a command that the top call does, and the input is one that it can do
abbrev pub IsServed : Call → List (List ℕ) → Option (List ℕ) → Type 0
IsServed call texts left = (verb : Verb) × IsTrue (serves call verb) × InLanguage verb texts × IsInputOf verb left
