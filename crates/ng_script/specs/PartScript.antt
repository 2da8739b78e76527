-- What the code keeps of an input so far. No public clause cites this module.
use Rattle.std.specs.Prelude.{ℕ, ◌≡◌, ◌+◌, ◌-◌, ◌*◌, ◌≤◌, List, [], ◌∷◌, ◌++◌, All, length, Option, None, vec_len, vec_capacity}
use Rattle.std.specs.Option.{option_or}
use Rattle.ng_mtrace.specs.Text.{parts_of, IsWithout}
use Rattle.ng_script.specs.Forms.{Form, form_of}
use Rattle.ng_script.specs.Scripts.{names_behind, commands_in, forms_of}
use Rattle.ng_script.specs.Faults.{line_fault, cut_fault}
use Rattle.ng_script.specs.Reads.{IsNamedBelow}
use Rattle.ng_script.specs.declared.command.Command.{Command}
use Rattle.ng_script.specs.declared.line.LineFault.{LineFault}
use Rattle.ng_script.specs.declared.line.LineFault.TheVariants as why
use Rattle.ng_script.specs.declared.script.Script.{Script}
use Rattle.ng_script.specs.declared.script_fault.ScriptFault.{ScriptFault}
use Rattle.ng_script.specs.declared.script_fault.ScriptFault.TheVariants.{Read, BadLine, Limit, Host}
use Rattle.ng_script.specs.declared.part_script.PartScript.{PartScript}

-- the fault of a line of this number
abbrev pub fault_at : ℕ → LineFault → ScriptFault
fault_at line why.Bad = BadLine line
fault_at line why.Host = Host

-- the first fault of these parts, behind so many lines, which make these names known
abbrev pub faults_from : ℕ → List (List ℕ) → List (List ℕ) → Option ScriptFault
faults_from lines names [] = None
faults_from lines names (cut ∷ []) = cut_fault lines cut
faults_from lines names (line ∷ next ∷ parts) =
    option_or
    (line_fault lines names line)
    (faults_from (lines + 1) (names_behind names (form_of line ∷ [])) (next ∷ parts))

-- the script, where these names and commands were read and lines of these forms come
unfoldable pub script_with : List (List ℕ) → List Command → List Form → Script
script_with names commands forms =
    record {
      commands = commands ++ commands_in (names_behind names forms) forms;
      names = length (names_behind names forms);
    }

-- the first fault of a text of which this was read, and these bytes come
unfoldable pub faults_left : PartScript → List ℕ → Option ScriptFault
faults_left r rest = faults_from r.number r.names (parts_of (r.line.items ++ rest))

-- the script of a text of which this was read, and these bytes come
unfoldable pub script_left : PartScript → List ℕ → Script
script_left r rest = script_with r.names r.commands.items (forms_of (r.line.items ++ rest))

-- how many bytes more the limits allow
abbrev pub room_left : PartScript → ℕ
room_left r = (1000000 - r.number) * 4097 + (4096 - vec_len r.line)

-- what was read is within the limits, and there is room for the rest of a line
pub record IsReady (r : PartScript) : Type 0 where
  pub few : r.number ≤ 1000000
  pub room : 4096 ≤ vec_capacity r.line
  pub short : vec_len r.line ≤ 4096
  pub unfed : IsWithout 10 r.line.items
  pub full : r.number ≡ 1000000 → r.line.items ≡ []
  pub commands : vec_len r.commands ≤ r.number
  pub names : length r.names ≤ r.number
  pub named : All (IsNamedBelow (length r.names)) r.commands.items

-- a fault that bytes may have, or want of memory
abbrev pub IsLineFault : ScriptFault → Type 0
IsLineFault Read = ⊥
IsLineFault (BadLine line) = Unit {0}
IsLineFault (Limit line) = Unit {0}
IsLineFault Host = Unit {0}
