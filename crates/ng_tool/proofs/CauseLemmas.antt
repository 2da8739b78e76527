-- Words and an input in their languages are served: what a status is due to can't be.
use Rattle.std.proofs.Common.{◌≡◌, ◌≢◌, ◌⊎◌, ℕ, Bool, true, false, List, [], ◌++◌, Option, Some, None, refl, sym, ap, inl, inr, ⊎_elim, ◌∙◌, subst}
use Rattle.std.specs.Prelude.{IsTrue, ◌↔◌}
use Rattle.std.proofs.lemmas.List.{append-nil}
use Rattle.ng_mtrace.specs.Faults as logs
use Rattle.ng_mtrace.specs.Reads as log_reads
use Rattle.ng_mtrace.specs.Sections.{logs_of}
use Rattle.ng_mtrace.specs.declared.log_fault.LogFault.{LogFault}
use Rattle.ng_mtrace.specs.declared.log_fault.LogFault.TheVariants as log
use Rattle.ng_script.specs.Faults as scripts
use Rattle.ng_script.specs.Reads as script_reads
use Rattle.ng_script.specs.declared.script_fault.ScriptFault.{ScriptFault}
use Rattle.ng_script.specs.declared.script_fault.ScriptFault.TheVariants as script
use Rattle.ng_terms.specs.Causes.{Rose}
use Rattle.ng_words.specs.Words.{InLanguage, IsCommand}
use Rattle.ng_words.specs.declared.asked.Command.{Command}
use Rattle.ng_words.specs.declared.status.Status.{Status}
use Rattle.ng_words.specs.declared.status.Status.TheVariants.{Done, Usage, ReadFault, BadLine, Limit, NoLog, WriteFault, Host}
use Rattle.ng_words.specs.declared.verb.Verb.{Verb}
use Rattle.ng_words.specs.declared.verb.Verb.TheVariants.{Serial, Replay, Check, Drill, Make}
use Rattle.ng_words.proofs.WordLemmas.{one_verb}
use Rattle.ng_tool.specs.Causes.{IsDue, IsInputDue, IsInputOf, IsLogsDue, IsScriptDue, IsServed, serves}
use Rattle.ng_tool.specs.Inputs.{HasNoLog, IsInForm, IsScript}
use Rattle.ng_tool.specs.Statuses.{IsInputFault, IsLate}
use Rattle.ng_tool.specs.declared.call.Call.{Call}
use Rattle.ng_tool.specs.declared.call.Call.TheVariants.{Beside}

-- ---- inputs of logs
-- an input without a fault meets none
faultless_logs : (what : LogFault) (bytes : List ℕ) (now : Option (List ℕ)) → logs.first_fault bytes ≡ None → log_reads.MeetsFault what (Some bytes) now → ⊥
faultless_logs what bytes None none met = let taken : Some bytes ≡ None = met.taken in absurd (cc)
faultless_logs what bytes (Some left) none met =
    let taken : Some bytes ≡ Some (met.bytes ++ left) = met.taken in
    let whole : bytes ≡ met.bytes ++ left = cc in
    let fault : logs.first_fault bytes ≡ Some what = ap logs.first_fault whole ∙ met.first left in
    let clash : None ≡ Some what = sym none ∙ fault in
    absurd (cc)

logs_meet : (what : LogFault) (before now : Option (List ℕ)) → IsInForm before → log_reads.MeetsFault what before now → ⊥
logs_meet what before now form met = faultless_logs what form.bytes now form.faultless (rw (← form.told) met)

-- an input with a log has one
some_log : (bytes : List ℕ) (now : Option (List ℕ)) → logs_of bytes ≢ record { logs = [] } → HasNoLog (Some bytes) now → ⊥
some_log bytes None some reads = let taken : Some bytes ≡ None = reads.taken in absurd (cc)
some_log bytes (Some left) some reads =
    let taken : Some bytes ≡ Some (reads.bytes ++ left) = reads.taken in
    let ended : left ≡ [] = reads.ended in
    let whole : bytes ≡ reads.bytes ++ left = cc in
    let all : bytes ≡ reads.bytes = whole ∙ ap (λ (l : List ℕ). reads.bytes ++ l) ended ∙ append-nil reads.bytes in
    some (ap logs_of all ∙ sym reads.logs_are)

has_log : (before now : Option (List ℕ)) → IsInForm before → HasNoLog before now → ⊥
has_log before now form reads = some_log form.bytes now form.some (rw (← form.told) reads)

-- a fault of the input that is due to it, without a read that failed, can only be the host's
logs_host : (left left' : Option (List ℕ)) (status : Status) → IsInForm left → IsLogsDue left left' status → status ≢ ReadFault → IsInputFault status → status ≡ Host
logs_host left left' Done form due reads kind = absurd kind
logs_host left left' Usage form due reads kind = absurd kind
logs_host left left' ReadFault form due reads kind = absurd (reads refl)
logs_host left left' (BadLine line) form due reads kind = absurd (logs_meet (log.BadLine line) left left' form (due.bad_line line refl))
logs_host left left' (Limit line) form due reads kind = absurd (logs_meet (log.Limit line) left left' form (due.limit line refl))
logs_host left left' NoLog form due reads kind = absurd (has_log left left' form (due.no_log refl))
logs_host left left' WriteFault form due reads kind = absurd kind
logs_host left left' Host form due reads kind = refl

-- ---- scripts
faultless_script : (what : ScriptFault) (bytes : List ℕ) (now : Option (List ℕ)) → scripts.first_fault bytes ≡ None → script_reads.MeetsFault what (Some bytes) now → ⊥
faultless_script what bytes None none met = let taken : Some bytes ≡ None = met.taken in absurd (cc)
faultless_script what bytes (Some left) none met =
    let taken : Some bytes ≡ Some (met.bytes ++ left) = met.taken in
    let whole : bytes ≡ met.bytes ++ left = cc in
    let fault : scripts.first_fault bytes ≡ Some what = ap scripts.first_fault whole ∙ met.first left in
    let clash : None ≡ Some what = sym none ∙ fault in
    absurd (cc)

script_meets : (what : ScriptFault) (before now : Option (List ℕ)) → IsScript before → script_reads.MeetsFault what before now → ⊥
script_meets what before now form met = faultless_script what form.bytes now form.faultless (rw (← form.told) met)

script_host : (left left' : Option (List ℕ)) (status : Status) → IsScript left → IsScriptDue left left' status → status ≢ ReadFault → IsInputFault status → status ≡ Host
script_host left left' Done form due reads kind = absurd kind
script_host left left' Usage form due reads kind = absurd kind
script_host left left' ReadFault form due reads kind = absurd (reads refl)
script_host left left' (BadLine line) form due reads kind = absurd (script_meets (script.BadLine line) left left' form (due.bad_line line refl))
script_host left left' (Limit line) form due reads kind = absurd (script_meets (script.Limit line) left left' form (due.limit line refl))
script_host left left' NoLog form due reads kind = absurd (due.no_log refl)
script_host left left' WriteFault form due reads kind = absurd kind
script_host left left' Host form due reads kind = refl

-- ---- the input of a command
input_host : (verb : Verb) (left left' : Option (List ℕ)) (status : Status) → IsInputOf verb left → IsInputDue verb left left' status
    → status ≢ ReadFault → IsInputFault status → status ≡ Host
input_host Serial left left' status form due reads kind = logs_host left left' status form due reads kind
input_host Replay left left' status form due reads kind = logs_host left left' status form due reads kind
input_host Check left left' status form due reads kind = logs_host left left' status form due reads kind
input_host Drill left left' status form due reads kind = script_host left left' status form due reads kind
input_host Make left left' status form due reads kind = due kind

-- ---- statuses behind the last heap call, and the host's
pub record IsPast (status : Status) : Type 0 where
  pub usage : status ≢ Usage
  pub read_fault : status ≢ ReadFault
  pub bad_line : (line : ℕ) → status ≢ BadLine line
  pub limit : (line : ℕ) → status ≢ Limit line
  pub no_log : status ≢ NoLog
  pub faultless : IsInputFault status → status ≡ Host

past_done : IsPast Done
past_done = record {
  usage = λ e. absurd (cc);
  read_fault = λ e. absurd (cc);
  bad_line = λ line e. absurd (cc);
  limit = λ line e. absurd (cc);
  no_log = λ e. absurd (cc);
  faultless = λ kind. absurd kind;
}

past_write_fault : IsPast WriteFault
past_write_fault = record {
  usage = λ e. absurd (cc);
  read_fault = λ e. absurd (cc);
  bad_line = λ line e. absurd (cc);
  limit = λ line e. absurd (cc);
  no_log = λ e. absurd (cc);
  faultless = λ kind. absurd kind;
}

past_host : IsPast Host
past_host = record {
  usage = λ e. absurd (cc);
  read_fault = λ e. absurd (cc);
  bad_line = λ line e. absurd (cc);
  limit = λ line e. absurd (cc);
  no_log = λ e. absurd (cc);
  faultless = λ kind. refl;
}

pub is_past : (status : Status) → (status ≡ Host) ⊎ IsLate status → IsPast status
is_past status (inl is) = subst IsPast (sym is) past_host
is_past Done (inr late) = past_done
is_past WriteFault (inr late) = past_write_fault
is_past Usage (inr late) = absurd late
is_past ReadFault (inr late) = absurd late
is_past (BadLine line) (inr late) = absurd late
is_past (Limit line) (inr late) = absurd late
is_past NoLog (inr late) = absurd late
is_past Host (inr late) = absurd late

past_logs : (left left' : Option (List ℕ)) (status : Status) → IsPast status → IsLogsDue left left' status
past_logs left left' status past = record {
  undecided = λ is. absurd (past.read_fault is);
  bad_line = λ line is. absurd (past.bad_line line is);
  limit = λ line is. absurd (past.limit line is);
  no_log = λ is. absurd (past.no_log is);
}

pub past_due : (verb : Verb) (left left' : Option (List ℕ)) (status : Status) → IsPast status → IsInputDue verb left left' status
past_due Serial left left' status past = past_logs left left' status past
past_due Replay left left' status past = past_logs left left' status past
past_due Check left left' status past = past_logs left left' status past
past_due Drill left left' status past = record {
  undecided = λ is. absurd (past.read_fault is);
  bad_line = λ line is. absurd (past.bad_line line is);
  limit = λ line is. absurd (past.limit line is);
  no_log = past.no_log;
}
past_due Make left left' status past = past.faultless

-- a fault of the input is none of the words
pub fault_not_usage : (status : Status) → IsInputFault status → status ≢ Usage
fault_not_usage Done kind is = kind
fault_not_usage Usage kind is = kind
fault_not_usage ReadFault kind is = absurd (cc)
fault_not_usage (BadLine line) kind is = absurd (cc)
fault_not_usage (Limit line) kind is = absurd (cc)
fault_not_usage NoLog kind is = absurd (cc)
fault_not_usage WriteFault kind is = kind
fault_not_usage Host kind is = absurd (cc)

-- `replay` does that command alone, which reads logs
pub beside_due : (verb : Verb) (left left' : Option (List ℕ)) (status : Status) → IsTrue (serves Beside verb) → IsLogsDue left left' status
    → IsInputDue verb left left' status
beside_due Serial left left' status served due = absurd (cc)
beside_due Replay left left' status served due = due
beside_due Check left left' status served due = absurd (cc)
beside_due Drill left left' status served due = absurd (cc)
beside_due Make left left' status served due = absurd (cc)

pub beside_reads : (verb : Verb) → IsTrue (serves Beside verb) → verb ≡ Make → ⊥
beside_reads Serial served is = absurd (cc)
beside_reads Replay served is = absurd (cc)
beside_reads Check served is = absurd (cc)
beside_reads Drill served is = absurd (cc)
beside_reads Make served is = absurd (cc)

-- ---- the words of a top call
-- the words of a command that it doesn't do are those of none that it does
pub not_served : (call : Call) (texts : List (List ℕ)) (command : Command) → IsCommand texts command → serves call command.verb ≡ false
    → (verb : Verb) → IsTrue (serves call verb) → ¬ InLanguage verb texts
not_served call texts command words unserved verb served other =
    let same : command.verb ≡ verb = one_verb texts command other.command words other.asked ∙ other.verb_is in
    let told : serves call command.verb ≡ true = rw same served in
    let clash : true ≡ false = sym told ∙ unserved in
    absurd (cc)

module _ {X : Type 0} (call : Call) (texts : List (List ℕ)) (left : X → Option (List ℕ)) (faults : X → ℕ) (exact : Type 0) (before : X) where
  -- the words were not read, or aren't those of a command that the call does
  pub due_words : (status : Status) → (status ≡ Usage → (verb : Verb) → IsTrue (serves call verb) → ¬ InLanguage verb texts)
      → (status ≡ Usage) ⊎ (status ≡ Host) → IsDue call texts left faults exact before before status
  due_words status usage known = record {
    usage = usage;
    outside = λ none. known;
    unread = λ none. refl;
    read_fault = λ is. absurd (elim known [ inl u ↦ usage_reads status u is | inr h ↦ host_reads status h is ]);
    unfailed = λ exactly other. refl;
    input = λ not_usage not_host. absurd (elim known [ inl u ↦ not_usage u | inr h ↦ not_host h ]);
  }
    where
      usage_reads : (s : Status) → s ≡ Usage → s ≡ ReadFault → ⊥
      usage_reads s u is = let clash : Usage ≡ ReadFault = sym u ∙ is in absurd (cc)

      host_reads : (s : Status) → s ≡ Host → s ≡ ReadFault → ⊥
      host_reads s h is = let clash : Host ≡ ReadFault = sym h ∙ is in absurd (cc)

  module _ (command : Command) (words : IsCommand texts command) (served : IsTrue (serves call command.verb)) (now : X) where
    in_language : InLanguage command.verb texts
    in_language = record { command = command; asked = words; verb_is = refl }

    -- the words were read, and the status isn't one that tells of them
    pub due_input : (status : Status) → status ≢ Usage → (status ≡ ReadFault → Rose (faults before) (faults now))
        → (exact → status ≢ ReadFault → faults now ≡ faults before) → (command.verb ≡ Make → now ≡ before)
        → IsInputDue command.verb (left before) (left now) status → IsDue call texts left faults exact before now status
    due_input status not_usage reads unfailed unread due = record {
      usage = λ is. absurd (not_usage is);
      outside = λ none. absurd (none command.verb served in_language);
      unread = λ only. unread (only command.verb served in_language);
      read_fault = reads;
      unfailed = unfailed;
      input = λ other not_host. (command.verb, served, in_language, due);
    }

  -- ---- completeness
  -- the words of a command that is served are asked for
  pub words_served : (status : Status) → (status ≡ Usage → (verb : Verb) → IsTrue (serves call verb) → ¬ InLanguage verb texts)
      → (status ≡ Usage) ⊎ (status ≡ Host) → IsServed call texts (left before) → (status ≡ Done) ⊎ (status ≡ Host)
  words_served status usage (inl is) served = absurd (usage is served.0 served.1 served.2)
  words_served status usage (inr is) served = inr is

  -- an input that the command can do is none that it refuses
  pub input_served : (command : Command) → IsCommand texts command → (now : X) (status : Status) → IsServed call texts (left before)
      → IsInputFault status → (status ≡ ReadFault → Rose (faults before) (faults now)) → ¬ Rose (faults before) (faults now)
      → IsInputDue command.verb (left before) (left now) status → (status ≡ Done) ⊎ (status ≡ Host)
  input_served command words now status served kind reads unread due =
      let same : served.0 ≡ command.verb = sym served.2.verb_is ∙ one_verb texts served.2.command command served.2.asked words in
      let form : IsInputOf command.verb (left before) = subst (λ (v : Verb). IsInputOf v (left before)) same served.3 in
      inr (input_host command.verb (left before) (left now) status form due (λ is. unread (reads is)) kind)
