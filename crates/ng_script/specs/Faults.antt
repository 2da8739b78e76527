-- The first fault of a text.
use Rattle.std.specs.Prelude.{ℕ, ◌+◌, Bool, true, List, [], ◌∷◌, ◌++◌, length, Option, Some, None, not, if◌then◌else◌}
use Rattle.std.specs.List.{list_all}
use Rattle.std.specs.Option.{option_or}
use Rattle.ng_mtrace.specs.Text.{parts_of}
use Rattle.ng_mtrace.specs.Faults.{is_beyond}
use Rattle.ng_script.specs.Forms.{Named, Form, Free, Write, Usable, Bad, form_of}
use Rattle.ng_script.specs.Scripts.{is_among, names_of}
use Rattle.ng_script.specs.declared.script_fault.ScriptFault.{ScriptFault}
use Rattle.ng_script.specs.declared.script_fault.ScriptFault.TheVariants.{BadLine, Limit}

-- the name that a line uses and doesn't make known itself
abbrev pub name_used : Form → List (List ℕ)
name_used (Free (Named name shift)) = name ∷ []
name_used (Write name offset byte) = name ∷ []
name_used (Usable name) = name ∷ []
name_used form = []

-- a line behind which these names are known is in no form, or uses another name
abbrev pub is_bad : List (List ℕ) → Form → Bool
is_bad names Bad = true
is_bad names form = not (list_all (is_among names) (name_used form))

-- the fault of a line behind so many lines, which make these names known: Limit before BadLine
abbrev pub line_fault : ℕ → List (List ℕ) → List ℕ → Option ScriptFault
line_fault lines names line =
    if is_beyond (lines + 1) line then Some (Limit (lines + 1))
    else if is_bad names (form_of line) then Some (BadLine (lines + 1))
    else None

-- the fault of the bytes behind the last line feed: they are no line, but the limits hold
abbrev pub cut_fault : ℕ → List ℕ → Option ScriptFault
cut_fault lines [] = None
cut_fault lines (byte ∷ bytes) =
    if is_beyond (lines + 1) (byte ∷ bytes) then Some (Limit (lines + 1)) else None

-- the first fault of these parts of a text, behind lines of these forms
abbrev pub first_fault_behind : List Form → List (List ℕ) → Option ScriptFault
first_fault_behind before [] = None
first_fault_behind before (cut ∷ []) = cut_fault (length before) cut
first_fault_behind before (line ∷ next ∷ parts) =
    option_or
    (line_fault (length before) (names_of before) line)
    (first_fault_behind (before ++ form_of line ∷ []) (next ∷ parts))

-- the first fault of a text, in the order of its bytes
unfoldable pub first_fault : List ℕ → Option ScriptFault
first_fault text = first_fault_behind [] (parts_of text)
