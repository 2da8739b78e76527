-- The report: a line for each call, and twelve counts.
use Rattle.std.specs.Prelude.{ℕ, ◌+◌, ◌-◌, Bool, true, false, if◌then◌else◌, List, ◌∷◌, [], ◌++◌, Option, Some, None, length, slice_index_or, flat_map, map, sum_by, count_by, codes}
use Rattle.std.specs.List.{zip, enumerate_from}
use Rattle.std.specs.Fmt.{decimal, digits}
use Rattle.ng_terms.specs.declared.entry.Entry.{Entry}
use Rattle.ng_terms.specs.declared.entry.Entry.TheVariants as entry
use Rattle.ng_terms.specs.declared.plan.Op.{Op}
use Rattle.ng_terms.specs.declared.plan.Op.TheVariants.{Make, Free, Move}
use Rattle.ng_terms.specs.declared.plan.Plan.{Plan}
use Rattle.ng_terms.specs.declared.reply.Made.{Made}
use Rattle.ng_terms.specs.declared.reply.Made.TheVariants as made
use Rattle.ng_terms.specs.declared.reply.Mode.{Mode}
use Rattle.ng_terms.specs.declared.reply.Reply.{Reply}
use Rattle.ng_terms.specs.declared.reply.Reply.TheVariants.{Given, Freed, Moved, NoMemory, TooLarge, BadAlign, Skipped, Absent, Fresh}
use Rattle.ng_terms.specs.Calls.{size_of, calls_of_log}

-- `0x` and lower-case hexadecimal digits without leading zeros
abbrev pub hex : ℕ → List ℕ
hex n = codes "0x" ++ digits 16 false n

-- the name that an op ends, and for a make the one that it makes
abbrev pub name_of : Op → ℕ
name_of (Make name size to) = name
name_of (Free name origin) = name
name_of (Move old name origin size to) = old

-- the call that makes a block of a size under the mode
abbrev pub make_text : Mode → ℕ → List ℕ
make_text mode size = by_align mode.align
  where
    by_align : Option ℕ → List ℕ
    by_align (Some align) = codes "aligned " ++ hex align ++ codes " " ++ hex size
    by_align None = if mode.zero then codes "calloc " ++ hex size else codes "malloc " ++ hex size

-- a make's outcome: the address, or the name of the refusal
abbrev pub outcome_text : Made → List ℕ
outcome_text (made.Given at) = hex at
outcome_text (made.NoMemory excuse) = codes "NoMemory " ++ decimal excuse
outcome_text made.TooLarge = codes "TooLarge"
outcome_text made.BadAlign = codes "BadAlign"

-- a line of the log with this number
abbrev pub line : ℕ → List ℕ → List ℕ
line log text = decimal log ++ codes " " ++ text ++ codes "\n"

abbrev pub make_line : ℕ → Mode → ℕ → Made → List ℕ
make_line log mode size outcome = line log (make_text mode size ++ codes " " ++ outcome_text outcome)

abbrev pub move_line : ℕ → ℕ → ℕ → Made → List ℕ
move_line log old size outcome = line log (codes "realloc " ++ hex old ++ codes " " ++ hex size ++ codes " " ++ outcome_text outcome)

abbrev pub skip_line : ℕ → ℕ → List ℕ
skip_line log name = line log (codes "skip " ++ hex name)

abbrev pub none_line : ℕ → ℕ → List ℕ
none_line log name = line log (codes "none " ++ hex name)

-- the line of a refused op: of a make, or of a move whose old block stands
abbrev pub refusal_line : ℕ → Mode → ℕ → Option ℕ → Made → List ℕ
refusal_line log mode size None outcome = make_line log mode size outcome
refusal_line log mode size (Some old) outcome = move_line log old size outcome

-- the lines of one op
abbrev pub op_lines : ℕ → Mode → Op → Reply → List ℕ
op_lines log mode op (Given at) = make_line log mode (size_of op) (made.Given at)
op_lines log mode op (Freed at) = line log (codes "free " ++ hex at)
op_lines log mode op (Moved old at) = move_line log old (size_of op) (made.Given at)
op_lines log mode op (NoMemory old excuse) = refusal_line log mode (size_of op) old (made.NoMemory excuse)
op_lines log mode op (TooLarge old) = refusal_line log mode (size_of op) old made.TooLarge
op_lines log mode op BadAlign = make_line log mode (size_of op) made.BadAlign
op_lines log mode op Skipped = skip_line log (name_of op)
op_lines log mode op Absent = none_line log (name_of op)
op_lines log mode op (Fresh skipped outcome) =
    (if skipped then skip_line log (name_of op) else none_line log (name_of op)) ++ make_line log mode (size_of op) outcome

-- the lines of one log, whose number is told
abbrev pub log_lines : Mode → ℕ → List Op → List Reply → List ℕ
log_lines mode number ops replies = flat_map (λ done. op_lines number mode done.0 done.1) (zip ops replies)

-- the lines of all logs, numbered from 1
abbrev pub call_lines : Mode → List (List Op) → List (List Reply) → List ℕ
call_lines mode logs replies = flat_map (λ log. log_lines mode log.0 log.1.0 log.1.1) (enumerate_from 1 (zip logs replies))

-- the entries of all logs
abbrev pub entries_of : Mode → List (List Op) → List (List Reply) → List Entry
entries_of mode logs replies = flat_map (λ log. calls_of_log mode log.0 log.1) (zip logs replies)

-- how many replies of all logs pass a test
abbrev pub replies_with : (Reply → Bool) → List (List Reply) → ℕ
replies_with test replies = sum_by (λ log. count_by test log) replies

abbrev pub is_call : Reply → Bool
is_call (Given at) = true
is_call (Freed at) = true
is_call (Moved old at) = true
is_call (NoMemory old excuse) = true
is_call (TooLarge old) = true
is_call BadAlign = true
is_call Skipped = false
is_call Absent = false
is_call (Fresh skipped outcome) = true

abbrev pub is_skipped : Reply → Bool
is_skipped (Given at) = false
is_skipped (Freed at) = false
is_skipped (Moved old at) = false
is_skipped (NoMemory old excuse) = false
is_skipped (TooLarge old) = false
is_skipped BadAlign = false
is_skipped Skipped = true
is_skipped Absent = false
is_skipped (Fresh skipped outcome) = skipped

abbrev pub is_absent : Reply → Bool
is_absent (Given at) = false
is_absent (Freed at) = false
is_absent (Moved old at) = false
is_absent (NoMemory old excuse) = false
is_absent (TooLarge old) = false
is_absent BadAlign = false
is_absent Skipped = false
is_absent Absent = true
is_absent (Fresh skipped outcome) = if skipped then false else true

abbrev pub is_give : Entry → Bool
is_give (entry.Give n align at) = true
is_give _ = false

abbrev pub is_take : Entry → Bool
is_take (entry.Take at) = true
is_take _ = false

abbrev pub is_resize : Entry → Bool
is_resize (entry.Resize at n) = true
is_resize _ = false

abbrev pub is_no_memory : Entry → Bool
is_no_memory (entry.NoMemory n excuse) = true
is_no_memory _ = false

abbrev pub is_too_large : Entry → Bool
is_too_large (entry.TooLarge count size align) = true
is_too_large _ = false

abbrev pub is_bad_align : Entry → Bool
is_bad_align (entry.BadAlign align) = true
is_bad_align _ = false

-- a line of the summary
abbrev pub count_line : List ℕ → ℕ → List ℕ
count_line word n = word ++ codes " " ++ decimal n ++ codes "\n"

-- the twelve counts; the blocks left are those given and not taken
abbrev pub summary : Mode → List (List Op) → List (List Reply) → ℕ → List ℕ
summary mode logs replies pages =
    let entries : List Entry = entries_of mode logs replies in
    count_line (codes "logs") (length logs)
    ++ count_line (codes "calls") (replies_with is_call replies)
    ++ count_line (codes "given") (count_by is_give entries)
    ++ count_line (codes "taken") (count_by is_take entries)
    ++ count_line (codes "resized") (count_by is_resize entries)
    ++ count_line (codes "nomemory") (count_by is_no_memory entries)
    ++ count_line (codes "toolarge") (count_by is_too_large entries)
    ++ count_line (codes "badalign") (count_by is_bad_align entries)
    ++ count_line (codes "skipped") (replies_with is_skipped replies)
    ++ count_line (codes "absent") (replies_with is_absent replies)
    ++ count_line (codes "left") (count_by is_give entries - count_by is_take entries)
    ++ count_line (codes "pages") pages

-- the report of a plan's replies, with a line for each call where they are to be shown
abbrev pub report : Plan → Mode → Bool → List (List Reply) → ℕ → List ℕ
report plan mode calls_shown replies pages =
    (if calls_shown then call_lines mode plan.logs replies else []) ++ summary mode plan.logs replies pages
