-- The first fault of a text.
use Rattle.std.specs.Prelude.{ℕ, ◌+◌, Bool, true, false, List, [], ◌∷◌, ◌++◌, length, Option, Some, None, ◌||◌, ◌&&◌, nat_lt, nat_le, count_by, fold, if◌then◌else◌}
use Rattle.std.specs.Option.{option_or}
use Rattle.ng_mtrace.specs.Text.{parts_of}
use Rattle.ng_mtrace.specs.Kinds.{kind_of, is_start, is_bad}
use Rattle.ng_mtrace.specs.declared.kind.Kind.{Kind}
use Rattle.ng_mtrace.specs.declared.kind.Kind.TheVariants.{Start, Stop}
use Rattle.ng_mtrace.specs.declared.log_fault.LogFault.{LogFault}
use Rattle.ng_mtrace.specs.declared.log_fault.LogFault.TheVariants.{BadLine, Limit}

-- whether a section is open behind a line of this kind, where one was open before it or not
abbrev pub open_then : Bool → Kind → Bool
open_then was Start = true
open_then was Stop = false
open_then was kind = was

-- whether a section is open behind these lines
abbrev pub is_open : List Kind → Bool
is_open kinds = fold open_then false kinds

-- a line of this number, from 1, is one more than an input may have, or has more bytes than a line
abbrev pub is_beyond : ℕ → List ℕ → Bool
is_beyond number line = nat_lt 1000000 number || nat_lt 4096 (length line)

-- the fault of a line behind so many lines and sections, in a section or not: Limit before BadLine
abbrev pub line_fault : ℕ → ℕ → Bool → List ℕ → Option LogFault
line_fault lines sections inside line =
    if is_beyond (lines + 1) line || (is_start (kind_of line) && nat_le 16 sections)
    then Some (Limit (lines + 1))
    else if inside && is_bad (kind_of line) then Some (BadLine (lines + 1))
    else None

-- the fault of the bytes behind the last line feed: they are no line, but the limits hold
abbrev pub cut_fault : ℕ → List ℕ → Option LogFault
cut_fault lines [] = None
cut_fault lines (byte ∷ bytes) =
    if is_beyond (lines + 1) (byte ∷ bytes) then Some (Limit (lines + 1)) else None

-- the first fault of these parts of a text, behind lines of these kinds
abbrev pub first_fault_behind : List Kind → List (List ℕ) → Option LogFault
first_fault_behind before [] = None
first_fault_behind before (cut ∷ []) = cut_fault (length before) cut
first_fault_behind before (line ∷ next ∷ parts) =
    option_or
    (line_fault (length before) (count_by is_start before) (is_open before) line)
    (first_fault_behind (before ++ kind_of line ∷ []) (next ∷ parts))

-- the first fault of a text, in the order of its bytes
unfoldable pub first_fault : List ℕ → Option LogFault
first_fault text = first_fault_behind [] (parts_of text)
