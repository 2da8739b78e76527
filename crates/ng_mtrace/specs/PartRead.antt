-- What the code keeps of an input so far. No public clause cites this module.
use Rattle.std.specs.Prelude.{ℕ, ◌≡◌, ◌+◌, ◌-◌, ◌*◌, ◌≤◌, Bool, List, [], ◌∷◌, ◌++◌, map, Option, None, vec_len, vec_capacity}
use Rattle.std.specs.Option.{option_or}
use Rattle.ng_mtrace.specs.Text.{parts_of, IsWithout}
use Rattle.ng_mtrace.specs.Kinds.{kind_of, is_start}
use Rattle.ng_mtrace.specs.Sections.{whole_of}
use Rattle.ng_mtrace.specs.Faults.{open_then, line_fault, cut_fault}
use Rattle.ng_mtrace.specs.OpenSections.{one_if, logs_after, count_of, total_in, IsRoomy}
use Rattle.ng_mtrace.specs.declared.log.Log.{Log}
use Rattle.ng_mtrace.specs.declared.log_fault.LogFault.{LogFault}
use Rattle.ng_mtrace.specs.declared.log_fault.LogFault.TheVariants.{Read, BadLine, Limit, NoLog, Host}
use Rattle.ng_mtrace.specs.declared.sections.KindFault.{KindFault}
use Rattle.ng_mtrace.specs.declared.sections.KindFault.TheVariants as why
use Rattle.ng_mtrace.specs.declared.part_read.PartRead.{PartRead}

-- the fault of a line of this number
abbrev pub fault_at : ℕ → KindFault → LogFault
fault_at line why.TooMany = Limit line
fault_at line why.Bad = BadLine line
fault_at line why.Host = Host

-- the first fault of these parts, behind so many lines and sections, in a section or not
abbrev pub faults_from : ℕ → ℕ → Bool → List (List ℕ) → Option LogFault
faults_from lines sections inside [] = None
faults_from lines sections inside (cut ∷ []) = cut_fault lines cut
faults_from lines sections inside (line ∷ next ∷ parts) =
    option_or
    (line_fault lines sections inside line)
    (faults_from
    (lines + 1)
    (sections + one_if (is_start (kind_of line)))
    (open_then inside (kind_of line))
    (next ∷ parts))

-- the first fault of a text of which this was read, and these bytes come
unfoldable pub faults_left : PartRead → List ℕ → Option LogFault
faults_left r rest =
    faults_from r.number (count_of r.sections) r.sections.active (parts_of (r.line.items ++ rest))

-- the logs of a text of which this was read, and these bytes come
unfoldable pub logs_left : PartRead → List ℕ → List Log
logs_left r rest = logs_after r.sections (map kind_of (whole_of (parts_of (r.line.items ++ rest))))

-- how many bytes more the limits allow
abbrev pub room_left : PartRead → ℕ
room_left r = (1000000 - r.number) * 4097 + (4096 - vec_len r.line)

-- what was read is within the limits, and there is room for the rest of a line
pub record IsReady (r : PartRead) : Type 0 where
  pub sections : IsRoomy r.sections
  pub total : total_in r.sections ≤ r.number
  pub few : r.number ≤ 1000000
  pub room : 4096 ≤ vec_capacity r.line
  pub short : vec_len r.line ≤ 4096
  pub unfed : IsWithout 10 r.line.items
  pub full : r.number ≡ 1000000 → r.line.items ≡ []

-- a fault that bytes may have, or want of memory
abbrev pub IsLineFault : LogFault → Type 0
IsLineFault Read = ⊥
IsLineFault (BadLine line) = Unit {0}
IsLineFault (Limit line) = Unit {0}
IsLineFault NoLog = ⊥
IsLineFault Host = Unit {0}
