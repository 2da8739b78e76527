-- The options and arguments of each command, and what the kit's reader of command lines makes of words.
use Rattle.std.specs.Prelude.{◌≡◌, true, List, [], codes, Option, Some}
use Rattle.clap.specs.Words.{App, Kinds, Row, Rule, Text, fault_of, first_of, matches_of, new_app, new_rule, with_rule}
use Rattle.clap.specs.declared.builder.action.ArgAction.TheVariants.{SetTrue}
use Rattle.ng_words.specs.Verbs.{name_of}
use Rattle.ng_words.specs.declared.verb.Verb.{Verb}
use Rattle.ng_words.specs.declared.verb.Verb.TheVariants.{Serial, Replay, Check, Drill, Make}

-- a long option with one value
abbrev pub option_rule : Text → Rule
option_rule name = record (new_rule name) { long = Some name }

-- a long flag
abbrev pub flag_rule : Text → Rule
flag_rule name = record (new_rule name) { long = Some name; action = Some SetTrue }

-- an argument without a name that must be there
abbrev pub positional_rule : Text → Rule
positional_rule name = record (new_rule name) { required = true }

-- with the options of a space
abbrev pub space_app : App → App
space_app app = with_rule (with_rule app (option_rule (codes "pages"))) (option_rule (codes "refuse"))

-- with the options of a replay
abbrev pub replay_app : App → App
replay_app app =
    with_rule
    (with_rule
    (with_rule (with_rule (space_app app) (option_rule (codes "quota"))) (flag_rule (codes "calls")))
    (option_rule (codes "align")))
    (flag_rule (codes "zero"))

-- the options and arguments of a command
abbrev pub app_for : Verb → App
app_for Serial = replay_app (new_app (name_of Serial))
app_for Replay = replay_app (new_app (name_of Replay))
app_for Check = new_app (name_of Check)
app_for Drill = space_app (new_app (name_of Drill))
app_for Make = with_rule (with_rule (new_app (name_of Make)) (option_rule (codes "pages"))) (positional_rule (codes "number"))

-- what is wrong with the words of a command: opaque, so that nobody above computes it
unfoldable pub faults_at : App → List Text → Kinds
faults_at app words = fault_of app words

-- and what they give, by the names of options and arguments
unfoldable pub rows_at : App → List Text → List Row
rows_at app words = matches_of app words

-- the words are none that the reader refuses
abbrev pub AreTaken : Verb → List Text → Type 0
AreTaken verb words = faults_at (app_for verb) words ≡ []

-- the text that they give an option or an argument
abbrev pub value_at : Verb → List Text → Text → Option Text
value_at verb words name = first_of name (rows_at (app_for verb) words)
