-- What the code keeps of the sections so far. No public clause cites this module.
use Rattle.std.specs.Prelude.{ℕ, ◌≡◌, ◌+◌, ◌≤◌, Bool, true, false, List, [], ◌∷◌, ◌++◌, length, map, sum_by, Option, Some, None, ◌&&◌, nat_le, if◌then◌else◌, vec_len, vec_capacity}
use Rattle.ng_mtrace.specs.Kinds.{is_start, is_bad}
use Rattle.ng_mtrace.specs.Sections.{alone, joined, entries_of, log_of, section_of, sections_of}
use Rattle.ng_mtrace.specs.declared.kind.Kind.{Kind}
use Rattle.ng_mtrace.specs.declared.kind.Kind.TheVariants.{Start, Stop, Old, New}
use Rattle.ng_mtrace.specs.declared.log.Line.{Line}
use Rattle.ng_mtrace.specs.declared.log.Log.{Log}
use Rattle.ng_mtrace.specs.declared.sections.KindFault.{KindFault}
use Rattle.ng_mtrace.specs.declared.sections.KindFault.TheVariants as fault
use Rattle.ng_mtrace.specs.declared.sections.Sections.{Sections}

-- a line that isn't the mark of a section
abbrev pub is_inner : Kind → Bool
is_inner Start = false
is_inner Stop = false
is_inner kind = true

-- 1 where it holds
abbrev pub one_if : Bool → ℕ
one_if true = 1
one_if false = 0

-- what a line gives its log behind a `<` line of this pointer, or behind none
abbrev pub given : Option ℕ → Kind → List Line
given (Some old) (New name size) = joined old name size
given old kind = alone kind

-- the pointer that a `<` line leaves
abbrev pub old_then : Kind → Option ℕ
old_then (Old name) = Some name
old_then kind = None

-- these lines behind a `<` line of this pointer, or behind none
abbrev pub after_old : Option ℕ → List Kind → List Kind
after_old None kinds = kinds
after_old (Some old) kinds = Old old ∷ kinds

-- the log of an open section that has these entries, where these lines come
abbrev pub open_log : Bool → List Line → Option ℕ → List Kind → List Log
open_log true entries old kinds =
    record { lines = entries ++ entries_of (after_old old (section_of kinds)) } ∷ []
open_log false entries old kinds = []

-- all logs, where these were read and lines of these kinds come
unfoldable pub logs_with : List Log → Bool → List Line → Option ℕ → List Kind → List Log
logs_with done active entries old kinds =
    done ++ open_log active entries old kinds ++ map log_of (sections_of kinds)

-- all logs, where these sections were read and lines of these kinds come
abbrev pub logs_after : Sections → List Kind → List Log
logs_after s kinds = logs_with s.done.items s.active s.entries.items s.pending kinds

-- how many sections began
abbrev pub count_of : Sections → ℕ
count_of s = vec_len s.done + one_if s.active

-- the lines of logs in all
abbrev pub total_of : List Log → ℕ
total_of logs = sum_by length (map (λ log. log.lines) logs)

-- the lines of all logs so far
abbrev pub total_in : Sections → ℕ
total_in s = total_of s.done.items + vec_len s.entries

-- at most sixteen sections, with room for the log of each
pub record IsRoomy (s : Sections) : Type 0 where
  pub few : count_of s ≤ 16
  pub room : 16 ≤ vec_capacity s.done
  pub idle : s.active ≡ false → s.entries.items ≡ []

-- why a line of this kind isn't taken, behind so many sections
abbrev pub kind_fault : ℕ → Bool → Kind → Option KindFault
kind_fault count active kind =
    if is_start kind && nat_le 16 count then Some fault.TooMany
    else if active && is_bad kind then Some fault.Bad
    else None
