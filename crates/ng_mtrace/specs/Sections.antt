-- The logs of a text: its sections, and their lines.
use Rattle.std.specs.Prelude.{ℕ, List, [], ◌∷◌, ◌++◌, ◌==◌, map, if◌then◌else◌}
use Rattle.ng_mtrace.specs.Text.{parts_of}
use Rattle.ng_mtrace.specs.Kinds.{kind_of}
use Rattle.ng_mtrace.specs.declared.kind.Kind.{Kind}
use Rattle.ng_mtrace.specs.declared.kind.Kind.TheVariants.{Start, Stop, End, Old, Make, New}
use Rattle.ng_mtrace.specs.declared.log.Log.{Log}
use Rattle.ng_mtrace.specs.declared.log.Logs.{Logs}
use Rattle.ng_mtrace.specs.declared.log.Line.{Line}
use Rattle.ng_mtrace.specs.declared.log.Line.TheVariants as line

-- the parts of a text without the last, which has no line feed
abbrev pub whole_of : List (List ℕ) → List (List ℕ)
whole_of [] = []
whole_of (cut ∷ []) = []
whole_of (line ∷ next ∷ parts) = line ∷ whole_of (next ∷ parts)

-- the lines up to the next mark
abbrev pub section_of : List Kind → List Kind
section_of [] = []
section_of (Start ∷ kinds) = []
section_of (Stop ∷ kinds) = []
section_of (kind ∷ kinds) = kind ∷ section_of kinds

-- the sections: each stands behind its `= Start`
abbrev pub sections_of : List Kind → List (List Kind)
sections_of [] = []
sections_of (Start ∷ kinds) = section_of kinds ∷ sections_of kinds
sections_of (kind ∷ kinds) = sections_of kinds

-- what a line gives a log where none joins it: `(nil)` is passed over
abbrev pub alone : Kind → List Line
alone (Make name size) = if name == 0 then [] else line.Make name size ∷ []
alone (End name) = if name == 0 then [] else line.End name ∷ []
alone kind = []

-- what a `<` line and the `>` line directly behind it give a log
abbrev pub joined : ℕ → ℕ → ℕ → List Line
joined old name size =
    if name == 0 then []
    else if old == 0 then line.Make name size ∷ []
    else line.Move old name size ∷ []

-- what the lines of a section give its log
abbrev pub entries_of : List Kind → List Line
entries_of [] = []
entries_of (Old old ∷ New name size ∷ kinds) = joined old name size ++ entries_of kinds
entries_of (kind ∷ kinds) = alone kind ++ entries_of kinds

-- the log of a section
abbrev pub log_of : List Kind → Log
log_of kinds = record { lines = entries_of kinds }

-- the logs of a text
unfoldable pub logs_of : List ℕ → Logs
logs_of text = record { logs = map log_of (sections_of (map kind_of (whole_of (parts_of text)))) }
