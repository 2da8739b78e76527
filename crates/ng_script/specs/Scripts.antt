-- The script of a text: its names and its commands.
use Rattle.std.specs.Prelude.{ℕ, Bool, List, [], ◌∷◌, ◌++◌, length, map, fold, position, Option, Some, None, if◌then◌else◌}
use Rattle.std.specs.List.{list_any, filter_map, flat_map}
use Rattle.std.specs.Option.{option_map}
use Rattle.std.specs.Str.{bytes_eq}
use Rattle.ng_mtrace.specs.Text.{parts_of}
use Rattle.ng_mtrace.specs.Sections.{whole_of}
use Rattle.ng_script.specs.Forms.{PlaceForm, At, Named, Form, Blank, Malloc, Free, Write, Usable, Bad, form_of}
use Rattle.ng_script.specs.declared.command.Place.{Place}
use Rattle.ng_script.specs.declared.command.Place.TheVariants as place
use Rattle.ng_script.specs.declared.command.Command.{Command}
use Rattle.ng_script.specs.declared.command.Command.TheVariants as command
use Rattle.ng_script.specs.declared.script.Script.{Script}

-- the name is among these
abbrev pub is_among : List (List ℕ) → List ℕ → Bool
is_among names name = list_any (λ other. bytes_eq name other) names

-- these names and this one, which goes last if it is new
abbrev pub with_name : List (List ℕ) → List ℕ → List (List ℕ)
with_name names name = if is_among names name then names else names ++ name ∷ []

-- the name that a line makes known
abbrev pub name_made : Form → List (List ℕ)
name_made (Malloc name size) = name ∷ []
name_made form = []

-- these names, and then those of the m lines among these, each once, in the order of their first
unfoldable pub names_behind : List (List ℕ) → List Form → List (List ℕ)
names_behind names forms = fold with_name names (flat_map name_made forms)

-- the names of the m lines among these, each once, in the order of their first
abbrev pub names_of : List Form → List (List ℕ)
names_of forms = names_behind [] forms

-- the number of a name: its place among the names, from 0
abbrev pub number_in : List (List ℕ) → List ℕ → Option ℕ
number_in names name = position (λ other. bytes_eq name other) names

-- a place, with its name's number
abbrev pub place_in : List (List ℕ) → PlaceForm → Option Place
place_in names (At address) = Some (place.At address)
place_in names (Named name shift) = option_map (λ number. place.Named number shift) (number_in names name)

-- the command of a line, with its name's number
abbrev pub command_in : List (List ℕ) → Form → Option Command
command_in names (Malloc name size) = option_map (λ number. command.Malloc number size) (number_in names name)
command_in names (Free at) = option_map (λ found. command.Free found) (place_in names at)
command_in names (Write name offset byte) =
    option_map (λ number. command.Write number offset byte) (number_in names name)
command_in names (Usable name) = option_map (λ number. command.Usable number) (number_in names name)
command_in names Blank = None
command_in names Bad = None

-- the commands of lines, where these are all the names
abbrev pub commands_in : List (List ℕ) → List Form → List Command
commands_in names forms = filter_map (command_in names) forms

-- the forms of the lines of a text
abbrev pub forms_of : List ℕ → List Form
forms_of text = map form_of (whole_of (parts_of text))

-- the script of a text
unfoldable pub script_of : List ℕ → Script
script_of text =
    let forms = forms_of text in
    record { commands = commands_in (names_of forms) forms; names = length (names_of forms) }
