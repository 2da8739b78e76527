-- Which lines of a log make and end a name: own blocks, claims, and what is handed.
use Rattle.std.specs.Prelude.{ℕ, ◌+◌, Bool, true, false, List, [], ◌∷◌, ◌==◌, Option, Some, None, is_some, option_and_then, if◌then◌else◌}
use Rattle.ng_mtrace.specs.declared.log.Line.{Line}
use Rattle.ng_mtrace.specs.declared.log.Line.TheVariants.{Make, End, Move}

-- the name that a line ends
abbrev pub ended : Line → Option ℕ
ended (Make name size) = None
ended (End name) = Some name
ended (Move old name size) = Some old

-- the name that a line makes
abbrev pub made : Line → Option ℕ
made (Make name size) = Some name
made (End name) = None
made (Move old name size) = Some name

abbrev pub is_name : ℕ → Option ℕ → Bool
is_name name None = false
is_name name (Some other) = other == name

-- the op that made the name, behind one more line of this number: a line ends and then makes
abbrev pub maker_then : ℕ → ℕ → Line → Option ℕ → Option ℕ
maker_then name number line before =
    if is_name name (made line) then Some number else if is_name name (ended line) then None else before

-- the same, behind lines of the numbers from this one on
abbrev pub maker_from : ℕ → ℕ → Option ℕ → List Line → Option ℕ
maker_from name number before [] = before
maker_from name number before (line ∷ lines) = maker_from name (number + 1) (maker_then name number line before) lines

-- the op that made the name, where the last mention of it among these lines makes it
abbrev pub maker : ℕ → List Line → Option ℕ
maker name lines = maker_from name 0 None lines

-- the log's own op that made what a line ends, behind these lines
abbrev pub own : List Line → Line → Option ℕ
own before line = option_and_then (λ name. maker name before) (ended line)

-- the next mention of the name among these lines ends it
abbrev pub ends_next : ℕ → List Line → Bool
ends_next name [] = false
ends_next name (line ∷ lines) =
    if is_name name (ended line) then true else if is_name name (made line) then false else ends_next name lines

-- the name that a line claims, behind these lines: it ends a block that isn't the log's own
abbrev pub claimed : List Line → Line → Option ℕ
claimed before line = if is_some (own before line) then None else ended line

-- the name of the block that a line hands, where these lines come: the log doesn't end it next
abbrev pub handed : Line → List Line → Option ℕ
handed line after = option_and_then (λ name. if ends_next name after then None else Some name) (made line)
