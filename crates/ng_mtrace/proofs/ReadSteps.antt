-- One more piece of an input, its end, and its first fault.
use Rattle.std.proofs.Common.{◌≡◌, ℕ, ◌≤◌, List, [], ◌++◌, length, take, Option, Some, None, Result, Err, sym, ap, ◌∙◌, append_assoc, arith}
use Rattle.std.proofs.lemmas.List.{append-nil, take-append-le, take-take}
use Rattle.ng_mtrace.specs.Faults.{first_fault}
use Rattle.ng_mtrace.specs.OpenSections.{count_of}
use Rattle.ng_mtrace.specs.PartRead.{faults_left, logs_left, IsReady}
use Rattle.ng_mtrace.specs.Reads.{ReadsLogs, MeetsFault, TakesFaultless}
use Rattle.ng_mtrace.specs.Sections.{logs_of}
use Rattle.ng_mtrace.specs.Streams.{put_back, AtEnd}
use Rattle.ng_mtrace.specs.declared.log.Logs.{Logs}
use Rattle.ng_mtrace.specs.declared.log_fault.LogFault.{LogFault}
use Rattle.ng_mtrace.specs.declared.log_fault.LogFault.TheVariants.{BadLine, Limit, Host}
use Rattle.ng_mtrace.specs.declared.part_read.PartRead.{PartRead}
use Rattle.ng_mtrace.proofs.LineParts.{ended_faults}
use Rattle.ng_mtrace.proofs.StreamLemmas.{put_back-nil, taken-more}

-- what a read gave, by the buffer that it was copied back to
pub read-copied : (before now : Option (List ℕ)) (buffer tail copied : List ℕ) (count len : ℕ) → before ≡ put_back (take count buffer) now
    → count ≤ length buffer → length buffer ≡ len → copied ≡ take len (buffer ++ tail) → before ≡ put_back (take count copied) now
read-copied before now buffer tail copied count len read within long is =
    let front : take count copied ≡ take count buffer = rw is (take-take count len (buffer ++ tail) (omega arith) ∙ take-append-le count buffer tail within) in
    rw front read

-- the bytes taken, with whatever comes, have the faults and the logs of what was read, with that
pub record Stands (part : PartRead) (bytes : List ℕ) : Type 0 where
  pub faults : (rest : List ℕ) → faults_left part rest ≡ first_fault (bytes ++ rest)
  pub logs : (rest : List ℕ) → logs_left part rest ≡ (logs_of (bytes ++ rest)).logs

-- what was read, where the text ends here, has no fault
pub faults_left-nil : (part : PartRead) → IsReady part → faults_left part [] ≡ None
unfolding faults_left
faults_left-nil part ready = ended_faults part.number (count_of part.sections) part.sections.active part.line.items ready.unfed ready.few ready.full (omega (arith, ready.short))

-- one more piece
pub fed_more : (part next : PartRead) (bytes fed : List ℕ) → Stands part bytes
    → ((rest : List ℕ) → faults_left next rest ≡ faults_left part (fed ++ rest))
    → ((rest : List ℕ) → logs_left next rest ≡ logs_left part (fed ++ rest)) → Stands next (bytes ++ fed)
fed_more part next bytes fed stands faults logs = record {
  faults = λ rest. faults rest ∙ stands.faults (fed ++ rest) ∙ ap first_fault (sym (append_assoc bytes fed rest));
  logs = λ rest. logs rest ∙ stands.logs (fed ++ rest) ∙ ap (λ text. (logs_of text).logs) (sym (append_assoc bytes fed rest));
}

-- the end of the input
pub reads_logs : (before during now : Option (List ℕ)) (part : PartRead) (bytes : List ℕ) (logs : Logs) → before ≡ put_back bytes during
    → during ≡ put_back [] now → AtEnd now → Stands part bytes → faults_left part [] ≡ None → logs.logs ≡ logs_left part []
    → ReadsLogs before now logs
reads_logs before during now part bytes logs taken last ended stands faultless are = record {
  bytes = bytes;
  taken = taken ∙ ap (put_back bytes) (last ∙ sym (put_back-nil now));
  ended = ended;
  faultless = ap first_fault (sym (append-nil bytes)) ∙ sym (stands.faults []) ∙ faultless;
  logs_are = ap (λ (found : List _). record { logs = found }) (are ∙ stands.logs [] ∙ ap (λ text. (logs_of text).logs) (append-nil bytes));
}

-- a read that failed behind what was taken
pub takes_faultless : (before during now : Option (List ℕ)) (part : PartRead) (bytes : List ℕ) → before ≡ put_back bytes during → now ≡ during
    → Stands part bytes → IsReady part → TakesFaultless before now
takes_faultless before during now part bytes taken kept stands ready = record {
  bytes = bytes;
  taken = taken ∙ ap (put_back bytes) (sym kept);
  faultless = ap first_fault (sym (append-nil bytes)) ∙ sym (stands.faults []) ∙ faults_left-nil part ready;
}

-- a fault in the piece
pub meets_fault : (before during now : Option (List ℕ)) (part : PartRead) (bytes fed : List ℕ) (fault this : LogFault)
    → before ≡ put_back bytes during → during ≡ put_back fed now → Stands part bytes → fault ≡ this → (this ≡ Host → ⊥)
    → ((fault ≡ Host → ⊥) → (rest : List ℕ) → faults_left part (fed ++ rest) ≡ Some fault) → MeetsFault this before now
meets_fault before during now part bytes fed fault this taken last stands same real found = record {
  bytes = bytes ++ fed;
  taken = taken-more before during now bytes fed taken last;
  first = λ rest.
      ap first_fault (append_assoc bytes fed rest) ∙ sym (stands.faults (fed ++ rest)) ∙ found (λ host. real (sym same ∙ host)) rest ∙ ap Some same;
}

pub bad_line_is_not_host : (line : ℕ) → BadLine line ≡ Host → ⊥
bad_line_is_not_host line same = cc

pub limit_is_not_host : (line : ℕ) → Limit line ≡ Host → ⊥
limit_is_not_host line same = cc

pub same_fault : (a b : LogFault) → ◌≡◌ {A = Result Logs LogFault} (Err a) (Err b) → a ≡ b
same_fault a b same = cc
