-- What an answer of the reader of scripts says of the input.
use Rattle.std.specs.Prelude.{◌≡◌, ◌≤◌, ◌<◌, ℕ, List, ◌++◌, length, All, Option, Some, None}
use Rattle.ng_mtrace.specs.Streams.{put_back, AtEnd}
use Rattle.ng_script.specs.Scripts.{script_of}
use Rattle.ng_script.specs.Faults.{first_fault}
use Rattle.ng_script.specs.declared.command.Place.TheVariants as place
use Rattle.ng_script.specs.declared.command.Command.{Command}
use Rattle.ng_script.specs.declared.command.Command.TheVariants.{Malloc, Free, Write, Usable}
use Rattle.ng_script.specs.declared.script.Script.{Script}
use Rattle.ng_script.specs.declared.script_fault.ScriptFault.{ScriptFault}

-- the whole rest of an input was read, it has no fault, and this is its script
pub record ReadsScript (before now : Option (List ℕ)) (script : Script) : Type 0 where
  pub bytes : List ℕ
  pub taken : before ≡ put_back bytes now
  pub ended : AtEnd now
  pub faultless : first_fault bytes ≡ None
  pub script_is : script ≡ script_of bytes

-- bytes were taken of which this is the first fault, whatever comes behind them
pub record MeetsFault (fault : ScriptFault) (before now : Option (List ℕ)) : Type 0 where
  pub bytes : List ℕ
  pub taken : before ≡ put_back bytes now
  pub first : (rest : List ℕ) → first_fault (bytes ++ rest) ≡ Some fault

-- bytes were taken that have no fault, so that none was certain yet
pub record TakesFaultless (before now : Option (List ℕ)) : Type 0 where
  pub bytes : List ℕ
  pub taken : before ≡ put_back bytes now
  pub faultless : first_fault bytes ≡ None

-- a command's name has a number below this
abbrev pub IsNamedBelow : ℕ → Command → Type 0
IsNamedBelow names (Malloc name size) = name < names
IsNamedBelow names (Free (place.At address)) = Unit {0}
IsNamedBelow names (Free (place.Named name shift)) = name < names
IsNamedBelow names (Write name offset byte) = name < names
IsNamedBelow names (Usable name) = name < names

-- at most 1,000,000 commands and names, and each command's name is one of them
pub record IsWithinLimits (script : Script) : Type 0 where
  pub few : length script.commands ≤ 1000000
  pub named : All (IsNamedBelow script.names) script.commands
  pub short : script.names ≤ 1000000
