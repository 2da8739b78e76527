-- What an answer of the reader of logs says of the input.
use Rattle.std.specs.Prelude.{◌≡◌, ◌≤◌, ◌<◌, ℕ, List, ◌++◌, length, map, sum_by, Option, Some, None}
use Rattle.ng_mtrace.specs.Streams.{put_back, AtEnd}
use Rattle.ng_mtrace.specs.Sections.{logs_of}
use Rattle.ng_mtrace.specs.Faults.{first_fault}
use Rattle.ng_mtrace.specs.declared.log.Logs.{Logs}
use Rattle.ng_mtrace.specs.declared.log_fault.LogFault.{LogFault}

-- the whole rest of an input was read, it has no fault, and these are its logs
pub record ReadsLogs (before now : Option (List ℕ)) (logs : Logs) : Type 0 where
  pub bytes : List ℕ
  pub taken : before ≡ put_back bytes now
  pub ended : AtEnd now
  pub faultless : first_fault bytes ≡ None
  pub logs_are : logs ≡ logs_of bytes

-- bytes were taken of which this is the first fault, whatever comes behind them
pub record MeetsFault (fault : LogFault) (before now : Option (List ℕ)) : Type 0 where
  pub bytes : List ℕ
  pub taken : before ≡ put_back bytes now
  pub first : (rest : List ℕ) → first_fault (bytes ++ rest) ≡ Some fault

-- bytes were taken that have no fault, so that none was certain yet
pub record TakesFaultless (before now : Option (List ℕ)) : Type 0 where
  pub bytes : List ℕ
  pub taken : before ≡ put_back bytes now
  pub faultless : first_fault bytes ≡ None

-- one log at least and sixteen at most, of at most 1,000,000 lines in all
pub record IsWithinLimits (logs : Logs) : Type 0 where
  pub some : 0 < length logs.logs
  pub few : length logs.logs ≤ 16
  pub short : sum_by length (map (λ log. log.lines) logs.logs) ≤ 1000000
