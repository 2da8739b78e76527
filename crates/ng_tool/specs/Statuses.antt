-- Which statuses come when.
use Rattle.ng_mtrace.specs.declared.log_fault.LogFault.{LogFault}
use Rattle.ng_mtrace.specs.declared.log_fault.LogFault.TheVariants as log
use Rattle.ng_script.specs.declared.script_fault.ScriptFault.{ScriptFault}
use Rattle.ng_script.specs.declared.script_fault.ScriptFault.TheVariants as script
use Rattle.ng_words.specs.declared.status.Status.{Status}
use Rattle.ng_words.specs.declared.status.Status.TheVariants.{Done, Usage, ReadFault, BadLine, Limit, NoLog, WriteFault, Host}

-- the status that tells of a fault of logs
abbrev pub told_by : LogFault → Status
told_by log.Read = ReadFault
told_by (log.BadLine line) = BadLine line
told_by (log.Limit line) = Limit line
told_by log.NoLog = NoLog
told_by log.Host = Host

-- the status that tells of a fault of a script
abbrev pub told_of : ScriptFault → Status
told_of script.Read = ReadFault
told_of (script.BadLine line) = BadLine line
told_of (script.Limit line) = Limit line
told_of script.Host = Host

-- the status comes before the first heap call
abbrev pub IsEarly : Status → Type 0
IsEarly Done = ⊥
IsEarly WriteFault = ⊥
IsEarly Usage = Unit {0}
IsEarly ReadFault = Unit {0}
IsEarly (BadLine line) = Unit {0}
IsEarly (Limit line) = Unit {0}
IsEarly NoLog = Unit {0}
IsEarly Host = Unit {0}

-- the status tells of the input
abbrev pub IsInputFault : Status → Type 0
IsInputFault Done = ⊥
IsInputFault Usage = ⊥
IsInputFault ReadFault = Unit {0}
IsInputFault (BadLine line) = Unit {0}
IsInputFault (Limit line) = Unit {0}
IsInputFault NoLog = Unit {0}
IsInputFault WriteFault = ⊥
IsInputFault Host = Unit {0}

-- the status comes behind the last heap call
abbrev pub IsLate : Status → Type 0
IsLate Done = Unit {0}
IsLate WriteFault = Unit {0}
IsLate Usage = ⊥
IsLate ReadFault = ⊥
IsLate (BadLine line) = ⊥
IsLate (Limit line) = ⊥
IsLate NoLog = ⊥
IsLate Host = ⊥
