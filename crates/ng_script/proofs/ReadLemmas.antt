-- One more piece of an input, its end, and its first fault.
use Rattle.std.proofs.Common.{◌≡◌, ℕ, List, [], ◌++◌, Option, Some, None, Result, Err, sym, ap, ◌∙◌, append_assoc, arith}
use Rattle.std.proofs.lemmas.List.{append-nil}
use Rattle.ng_mtrace.specs.Streams.{put_back, AtEnd}
use Rattle.ng_mtrace.proofs.StreamLemmas.{put_back-nil, taken-more}
use Rattle.ng_script.specs.Faults.{first_fault}
use Rattle.ng_script.specs.PartScript.{faults_left, script_left, IsReady}
use Rattle.ng_script.specs.Reads.{ReadsScript, MeetsFault, TakesFaultless}
use Rattle.ng_script.specs.Scripts.{script_of}
use Rattle.ng_script.specs.declared.part_script.PartScript.{PartScript}
use Rattle.ng_script.specs.declared.script.Script.{Script}
use Rattle.ng_script.specs.declared.script_fault.ScriptFault.{ScriptFault}
use Rattle.ng_script.specs.declared.script_fault.ScriptFault.TheVariants.{BadLine, Limit, Host}
use Rattle.ng_script.proofs.PartLemmas.{ended_faults}

-- the bytes taken, with whatever comes, have the faults and the script of what was read, with that
pub record Stands (part : PartScript) (bytes : List ℕ) : Type 0 where
  pub faults : (rest : List ℕ) → faults_left part rest ≡ first_fault (bytes ++ rest)
  pub script : (rest : List ℕ) → script_left part rest ≡ script_of (bytes ++ rest)

-- what was read, where the text ends here, has no fault
pub faults_left-nil : (part : PartScript) → IsReady part → faults_left part [] ≡ None
unfolding faults_left
faults_left-nil part ready = ended_faults part.number part.names part.line.items ready.unfed ready.few ready.full (omega (arith, ready.short))

-- one more piece
pub fed_more : (part next : PartScript) (bytes fed : List ℕ) → Stands part bytes
    → ((rest : List ℕ) → faults_left next rest ≡ faults_left part (fed ++ rest))
    → ((rest : List ℕ) → script_left next rest ≡ script_left part (fed ++ rest)) → Stands next (bytes ++ fed)
fed_more part next bytes fed stands faults script = record {
  faults = λ rest. faults rest ∙ stands.faults (fed ++ rest) ∙ ap first_fault (sym (append_assoc bytes fed rest));
  script = λ rest. script rest ∙ stands.script (fed ++ rest) ∙ ap script_of (sym (append_assoc bytes fed rest));
}

-- the end of the input
pub reads_script : (before during now : Option (List ℕ)) (part : PartScript) (bytes : List ℕ) (script : Script) → before ≡ put_back bytes during
    → during ≡ put_back [] now → AtEnd now → Stands part bytes → faults_left part [] ≡ None → script ≡ script_left part []
    → ReadsScript before now script
reads_script before during now part bytes script taken last ended stands faultless is = record {
  bytes = bytes;
  taken = taken ∙ ap (put_back bytes) (last ∙ sym (put_back-nil now));
  ended = ended;
  faultless = ap first_fault (sym (append-nil bytes)) ∙ sym (stands.faults []) ∙ faultless;
  script_is = is ∙ stands.script [] ∙ ap script_of (append-nil bytes);
}

-- a read that failed behind what was taken
pub takes_faultless : (before during now : Option (List ℕ)) (part : PartScript) (bytes : List ℕ) → before ≡ put_back bytes during → now ≡ during
    → Stands part bytes → IsReady part → TakesFaultless before now
takes_faultless before during now part bytes taken kept stands ready = record {
  bytes = bytes;
  taken = taken ∙ ap (put_back bytes) (sym kept);
  faultless = ap first_fault (sym (append-nil bytes)) ∙ sym (stands.faults []) ∙ faults_left-nil part ready;
}

-- a fault in the piece
pub meets_fault : (before during now : Option (List ℕ)) (part : PartScript) (bytes fed : List ℕ) (fault this : ScriptFault)
    → before ≡ put_back bytes during → during ≡ put_back fed now → Stands part bytes → fault ≡ this → (this ≡ Host → ⊥)
    → ((fault ≡ Host → ⊥) → (rest : List ℕ) → faults_left part (fed ++ rest) ≡ Some fault) → MeetsFault this before now
meets_fault before during now part bytes fed fault this taken last stands same real found = record {
  bytes = bytes ++ fed;
  taken = taken-more before during now bytes fed taken last;
  first = λ rest.
      ap first_fault (append_assoc bytes fed rest) ∙ sym (stands.faults (fed ++ rest)) ∙ found (λ host. real (sym same ∙ host)) rest ∙ ap Some same;
}

pub bad_line_is_not_host : (line : ℕ) → BadLine line ≡ Host → ⊥
bad_line_is_not_host line same = cc

pub limit_is_not_host : (line : ℕ) → Limit line ≡ Host → ⊥
limit_is_not_host line same = cc

pub same_fault : (a b : ScriptFault) → ◌≡◌ {A = Result Script ScriptFault} (Err a) (Err b) → a ≡ b
same_fault a b same = cc
