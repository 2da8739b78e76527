-- What a line is, by its last tokens.
use Rattle.std.specs.Prelude.{ℕ, Bool, true, false, ◌&&◌, List, [], ◌∷◌, Option, None, option_and_then, if◌then◌else◌, codes}
use Rattle.std.specs.Option.{option_map, option_or, unwrap_or}
use Rattle.std.specs.Str.{bytes_eq}
use Rattle.ng_mtrace.specs.Numbers.{ptr_of, size_of}
use Rattle.ng_mtrace.specs.Tokens.{last_tokens}
use Rattle.ng_mtrace.specs.declared.kind.Kind.{Kind}
use Rattle.ng_mtrace.specs.declared.kind.Kind.TheVariants.{Start, Stop, Blank, End, Old, Make, New, Failed, Bad}

-- the tokens, from the last, are `=` and this word, and no more
abbrev pub is_mark : List ℕ → List (List ℕ) → Bool
is_mark word (last ∷ first ∷ []) = bytes_eq first (codes "=") && bytes_eq last word
is_mark word tokens = false

-- a sign and a pointer
abbrev pub short_form : List ℕ → List ℕ → Option Kind
short_form sign ptr =
    if bytes_eq sign (codes "-") then option_map (λ name. End name) (ptr_of ptr)
    else if bytes_eq sign (codes "<") then option_map (λ name. Old name) (ptr_of ptr)
    else None

-- a pointer and a size
abbrev pub with_both : (ℕ → ℕ → Kind) → List ℕ → List ℕ → Option Kind
with_both kind ptr size = option_and_then (λ name. option_map (kind name) (size_of size)) (ptr_of ptr)

-- a sign, a pointer and a size
abbrev pub long_form : List ℕ → List ℕ → List ℕ → Option Kind
long_form sign ptr size =
    if bytes_eq sign (codes "+") then with_both (λ name n. Make name n) ptr size
    else if bytes_eq sign (codes ">") then with_both (λ name n. New name n) ptr size
    else if bytes_eq sign (codes "!") then with_both (λ name n. Failed) ptr size
    else None

-- the form of the last tokens, whatever stands before them
abbrev pub form_of : List (List ℕ) → Kind
form_of [] = Blank
form_of (last ∷ []) = Bad
form_of (last ∷ second ∷ []) = unwrap_or (short_form second last) Bad
form_of (last ∷ second ∷ third ∷ before) =
    unwrap_or (option_or (short_form second last) (long_form third second last)) Bad

-- what tokens are, from the last: the mark of a section, or a form
abbrev pub kind_from : List (List ℕ) → Kind
kind_from tokens =
    if is_mark (codes "Start") tokens then Start
    else if is_mark (codes "End") tokens then Stop
    else form_of tokens

-- what a line is
unfoldable pub kind_of : List ℕ → Kind
kind_of line = kind_from (last_tokens line)

-- a line that begins a section
abbrev pub is_start : Kind → Bool
is_start Start = true
is_start kind = false

-- a line that isn't in the grammar
abbrev pub is_bad : Kind → Bool
is_bad Bad = true
is_bad kind = false
