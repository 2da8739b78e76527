-- What one line is, with its names as they are written.
use Rattle.std.specs.Prelude.{ℕ, Bool, List, [], ◌∷◌, ◌&&◌, Option, Some, None, option_and_then, length, nat_le, nat_lt, if◌then◌else◌, codes}
use Rattle.std.specs.List.{list_all}
use Rattle.std.specs.Option.{option_map, option_or, unwrap_or}
use Rattle.std.specs.Str.{bytes_eq}
use Rattle.ng_mtrace.specs.Text.{parts_at}
use Rattle.ng_mtrace.specs.Tokens.{tokens_of}
use Rattle.ng_script.specs.Numbers.{number_of}
use Rattle.ng_script.specs.declared.command.Shift.{Shift}
use Rattle.ng_script.specs.declared.command.Shift.TheVariants.{Up, Down}

-- a place as it is written: an address, or a name and how far from it
pub data PlaceForm : Type 0 where
  At : ℕ → PlaceForm
  Named : List ℕ → Shift → PlaceForm

-- a line: without tokens, of one of the four forms, or of none
pub data Form : Type 0 where
  Blank : Form
  Malloc : List ℕ → ℕ → Form
  Free : PlaceForm → Form
  Write : List ℕ → ℕ → ℕ → Form
  Usable : List ℕ → Form
  Bad : Form

-- a lower-case letter
abbrev pub is_letter : ℕ → Bool
is_letter byte = nat_le 97 byte && nat_le byte 122

-- a name: 1 to 16 lower-case letters
abbrev pub is_name : List ℕ → Bool
is_name text = nat_le 1 (length text) && nat_le (length text) 16 && list_all is_letter text

-- a name and a number, of the two parts of a token round its sign
abbrev pub shifted : (ℕ → Shift) → List (List ℕ) → Option PlaceForm
shifted shift (name ∷ number ∷ []) =
    if is_name name then option_map (λ n. Named name (shift n)) (number_of number) else None
shifted shift parts = None

-- the place with a name that a token writes: the name alone, or with `+` or `-` and a number
unfoldable pub named_of : List ℕ → Option PlaceForm
named_of text =
    if is_name text then Some (Named text (Up 0))
    else option_or (shifted (λ n. Up n) (parts_at 43 text)) (shifted (λ n. Down n) (parts_at 45 text))

-- the place that a token writes
abbrev pub place_of : List ℕ → Option PlaceForm
place_of text = option_or (named_of text) (option_map (λ address. At address) (number_of text))

-- `m`: a name, and the bytes asked for
abbrev pub malloc_form : List ℕ → List ℕ → Form
malloc_form name number =
    if is_name name then unwrap_or (option_map (λ size. Malloc name size) (number_of number)) Bad else Bad

-- `f`: a place
abbrev pub free_form : List ℕ → Form
free_form place = unwrap_or (option_map (λ at. Free at) (place_of place)) Bad

-- the number below 256 that a text writes
abbrev pub byte_of : List ℕ → Option ℕ
byte_of text = option_and_then (λ n. if nat_lt n 256 then Some n else None) (number_of text)

-- a byte's write at a place, which has a name, plain or with `+`
abbrev pub write_at : PlaceForm → ℕ → Option Form
write_at (Named name (Up offset)) byte = Some (Write name offset byte)
write_at place byte = None

-- `w`: a place, and a byte
abbrev pub write_form : List ℕ → List ℕ → Form
write_form place number =
    unwrap_or
    (option_and_then (λ at. option_and_then (λ byte. write_at at byte) (byte_of number)) (named_of place))
    Bad

-- `u`: a name
abbrev pub usable_form : List ℕ → Form
usable_form name = if is_name name then Usable name else Bad

-- the form of two tokens
abbrev pub short_form : List ℕ → List ℕ → Form
short_form word place =
    if bytes_eq word (codes "f") then free_form place
    else if bytes_eq word (codes "u") then usable_form place
    else Bad

-- the form of three tokens
abbrev pub long_form : List ℕ → List ℕ → List ℕ → Form
long_form word place number =
    if bytes_eq word (codes "m") then malloc_form place number
    else if bytes_eq word (codes "w") then write_form place number
    else Bad

-- the form of a line's tokens
abbrev pub form_from : List (List ℕ) → Form
form_from [] = Blank
form_from (word ∷ place ∷ []) = short_form word place
form_from (word ∷ place ∷ number ∷ []) = long_form word place number
form_from tokens = Bad

-- what a line is
unfoldable pub form_of : List ℕ → Form
form_of line = form_from (tokens_of line)
