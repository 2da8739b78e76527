-- What a line's form makes of the names, and its command.
use Rattle.std.proofs.Common.{◌≡◌, ℕ, ◌<◌, ◌≤◌, List, [], ◌∷◌, length, Bool, true, false, not, Option, Some, None, refl, ap, sym, ◌∙◌, arith, ◌&&◌, cond, is_some, reverse, All, subst, true≢false}
use Rattle.std.specs.Prelude.{option_and_then, option_to_list, codes}
use Rattle.std.specs.Option.{option_map, unwrap_or}
use Rattle.std.specs.Str.{bytes_eq}
use Rattle.std.proofs.lemmas.List.Quantifiers.{position-Some}
use Rattle.std.proofs.lemmas.List.{reverse-reverse, length-reverse}
use Rattle.std.proofs.lemmas.List.Elements.{All-nil, All-cons, All-weaker}
use Rattle.ng_mtrace.specs.Tokens.{tokens_of, last_tokens}
use Rattle.ng_script.specs.Faults.{is_bad}
use Rattle.ng_script.specs.Forms.{PlaceForm, At, Named, Form, Blank, Malloc, Free, Write, Usable, Bad, form_from, form_of, malloc_form, free_form, usable_form, short_form, long_form, write_form, write_at, is_name, named_of, byte_of, place_of}
use Rattle.ng_script.specs.Lines.{IsTaken}
use Rattle.ng_script.specs.Numbers.{number_of}
use Rattle.ng_script.specs.Reads.{IsNamedBelow}
use Rattle.ng_script.specs.Scripts.{is_among, with_name, number_in, names_behind, command_in}
use Rattle.ng_script.specs.declared.command.Command.{Command}
use Rattle.ng_script.specs.declared.command.Command.TheVariants as command
use Rattle.ng_script.specs.declared.command.Place.{Place}
use Rattle.ng_script.specs.declared.command.Place.TheVariants as place
use Rattle.ng_script.specs.declared.command.Shift.{Shift}
use Rattle.ng_script.specs.declared.command.Shift.TheVariants.{Up, Down}
use Rattle.ng_script.proofs.NameLemmas.{is_some-position, number-keeps, among-with}

-- the form of a line, by its tokens from the last
pub form_of-from : (line : List ℕ) (tokens : List (List ℕ)) → last_tokens line ≡ tokens → form_of line ≡ form_from (reverse tokens)
unfolding form_of last_tokens
form_of-from line tokens same = ap form_from (sym (reverse-reverse (tokens_of line)) ∙ ap reverse same)

-- four tokens are no form
long_is_bad : (tokens : List (List ℕ)) → 4 ≤ length tokens → form_from tokens ≡ Bad
long_is_bad [] long = absurd (omega arith)
long_is_bad (a ∷ []) long = absurd (omega arith)
long_is_bad (a ∷ b ∷ []) long = absurd (omega arith)
long_is_bad (a ∷ b ∷ c ∷ []) long = absurd (omega arith)
long_is_bad (a ∷ b ∷ c ∷ d ∷ tokens) long = refl

pub four_tokens : (line : List ℕ) (a b c d : List ℕ) (tokens : List (List ℕ)) → last_tokens line ≡ a ∷ b ∷ c ∷ d ∷ tokens → form_of line ≡ Bad
four_tokens line a b c d tokens same =
    form_of-from line (a ∷ b ∷ c ∷ d ∷ tokens) same ∙ long_is_bad (reverse (a ∷ b ∷ c ∷ d ∷ tokens)) (omega (arith, length-reverse (a ∷ b ∷ c ∷ d ∷ tokens)))

pub one_token : (line a : List ℕ) → last_tokens line ≡ a ∷ [] → form_of line ≡ Bad
one_token line a same = form_of-from line (a ∷ []) same

pub two_tokens : (line a b : List ℕ) → last_tokens line ≡ a ∷ b ∷ [] → form_of line ≡ short_form b a
two_tokens line a b same = form_of-from line (a ∷ b ∷ []) same

pub three_tokens : (line a b c : List ℕ) → last_tokens line ≡ a ∷ b ∷ c ∷ [] → form_of line ≡ long_form c b a
three_tokens line a b c same = form_of-from line (a ∷ b ∷ c ∷ []) same

pub bad_if : (names : List (List ℕ)) (form : Form) → form ≡ Bad → is_bad names form ≡ true
bad_if names form same = rw same refl

-- a form that is neither blank nor an m line
abbrev pub is_use : Form → Bool
is_use Blank = false
is_use (Malloc name size) = false
is_use form = true

off_if : (b : Bool) → b ≡ false → not (b && true) ≡ true
off_if b off = rw off refl

on_if : (b : Bool) → b ≡ true → not (b && true) ≡ false
on_if b on = rw on refl

pub on_of : (b : Bool) → not (b && true) ≡ false → b ≡ true
on_of true off = refl
on_of false off = sym off

is_some-map : {A B : Type 0} (f : A → B) (x : Option A) → is_some (option_map f x) ≡ is_some x
is_some-map f None = refl
is_some-map f (Some x) = refl

module _ {A : Type 0} (names : List (List ℕ)) (name : List ℕ) (f : ℕ → A) where
  -- a value by a name's number is there where the name is
  mapped : is_some (option_map f (number_in names name)) ≡ is_among names name
  mapped = is_some-map f (number_in names name) ∙ is_some-position (λ other. bytes_eq name other) names

  -- and so is a value by that value
  mapped_twice : {B : Type 0} (g : A → B) → is_some (option_map g (option_map f (number_in names name))) ≡ is_among names name
  mapped_twice g = is_some-map g (option_map f (number_in names name)) ∙ mapped

-- a line that uses a name is bad where it has no command
pub bad_use : (names : List (List ℕ)) (form : Form) → is_use form ≡ true → is_some (command_in names form) ≡ false → is_bad names form ≡ true
bad_use names Blank uses none = absurd (true≢false (sym uses))
bad_use names (Malloc name size) uses none = absurd (true≢false (sym uses))
bad_use names (Free (At address)) uses none = absurd (true≢false none)
bad_use names (Free (Named name shift)) uses none =
    off_if (is_among names name) (sym (mapped_twice names name (λ (number : ℕ). place.Named number shift) (λ (found : Place). command.Free found)) ∙ none)
bad_use names (Write name offset byte) uses none =
    off_if (is_among names name) (sym (mapped names name (λ (number : ℕ). command.Write number offset byte)) ∙ none)
bad_use names (Usable name) uses none = off_if (is_among names name) (sym (mapped names name (λ (number : ℕ). command.Usable number)) ∙ none)
bad_use names Bad uses none = refl

fine_use : (names : List (List ℕ)) (form : Form) → is_use form ≡ true → is_some (command_in names form) ≡ true → is_bad names form ≡ false
fine_use names Blank uses some = refl
fine_use names (Malloc name size) uses some = refl
fine_use names (Free (At address)) uses some = refl
fine_use names (Free (Named name shift)) uses some =
    on_if (is_among names name) (sym (mapped_twice names name (λ (number : ℕ). place.Named number shift) (λ (found : Place). command.Free found)) ∙ some)
fine_use names (Write name offset byte) uses some =
    on_if (is_among names name) (sym (mapped names name (λ (number : ℕ). command.Write number offset byte)) ∙ some)
fine_use names (Usable name) uses some = on_if (is_among names name) (sym (mapped names name (λ (number : ℕ). command.Usable number)) ∙ some)
fine_use names Bad uses some = absurd (true≢false (sym some))

-- it makes no name known
use-names : (names : List (List ℕ)) (form : Form) → is_use form ≡ true → names ≡ names_behind names (form ∷ [])
unfolding names_behind
use-names names Blank uses = refl
use-names names (Malloc name size) uses = absurd (true≢false (sym uses))
use-names names (Free place) uses = refl
use-names names (Write name offset byte) uses = refl
use-names names (Usable name) uses = refl
use-names names Bad uses = refl

-- and is taken where it has a command
pub taken_use : (names : List (List ℕ)) (form : Form) (command : Command) → is_use form ≡ true → Some command ≡ command_in names form → IsTaken names form names (Some command)
taken_use names form command uses is = record {
  fine = fine_use names form uses (sym (ap is_some is));
  names = use-names names form uses;
  command_is = is;
}

-- a line without tokens is taken
pub taken_blank : (names : List (List ℕ)) (form : Form) → form ≡ Blank → IsTaken names form names None
unfolding names_behind
taken_blank names form blank = rw blank (record { fine = refl; names = refl; command_is = refl })

-- an m line is taken
pub malloc_form-is : (name number : List ℕ) (size : ℕ) → is_name name ≡ true → number_of number ≡ Some size → malloc_form name number ≡ Malloc name size
malloc_form-is name number size named found = rw (named, found) refl

pub taken_malloc : (names now : List (List ℕ)) (form : Form) (name : List ℕ) (size number : ℕ) → form ≡ Malloc name size
    → now ≡ with_name names name → number_in now name ≡ Some number → IsTaken names form now (Some (command.Malloc number size))
unfolding names_behind
taken_malloc names now form name size number same is found = rw same (record {
  fine = refl;
  names = is;
  command_is = ap (λ (x : Option ℕ). option_map (λ n. command.Malloc n size) x) (sym found);
})

-- the forms of two tokens and of a w line use names
form_use : (b : Bool) (form other : Form) → is_use form ≡ true → is_use other ≡ true → is_use (cond b form other) ≡ true
form_use true form other a b = a
form_use false form other a b = b

free_use : (x : Option PlaceForm) → is_use (unwrap_or (option_map (λ at. Free at) x) Bad) ≡ true
free_use None = refl
free_use (Some at) = refl

pub short_use : (word place : List ℕ) → is_use (short_form word place) ≡ true
short_use word place =
    form_use (bytes_eq word (codes "f")) (free_form place) _ (free_use (place_of place))
    (form_use (bytes_eq word (codes "u")) (usable_form place) Bad (form_use (is_name place) (Usable place) Bad refl refl) refl)

write_at-use : (x : Option PlaceForm) (byte : Option ℕ)
    → is_use (unwrap_or (option_and_then (λ at. option_and_then (λ byte. write_at at byte) byte) x) Bad) ≡ true
write_at-use None byte = refl
write_at-use (Some (At address)) None = refl
write_at-use (Some (At address)) (Some byte) = refl
write_at-use (Some (Named name shift)) None = refl
write_at-use (Some (Named name (Up offset))) (Some byte) = refl
write_at-use (Some (Named name (Down offset))) (Some byte) = refl

pub write_use : (place number : List ℕ) → is_use (write_form place number) ≡ true
write_use place number = write_at-use (named_of place) (byte_of number)

malloc-names : (names : List (List ℕ)) (name : List ℕ) (size : ℕ) → names_behind names (Malloc name size ∷ []) ≡ with_name names name
unfolding names_behind
malloc-names names name size = refl

-- a bad line of two tokens, and of a w line, and one that is taken
pub bad_uses : (names : List (List ℕ)) (form whole : Form) → whole ≡ form → is_use form ≡ true → None ≡ command_in names form → is_bad names whole ≡ true
bad_uses names form whole same uses none = rw same (bad_use names form uses (sym (ap is_some none)))

pub taken_uses : (names : List (List ℕ)) (form whole : Form) (command : Command) → whole ≡ form → is_use form ≡ true → Some command ≡ command_in names form
    → IsTaken names whole names (Some command)
taken_uses names form whole command same uses is = rw same (taken_use names form command uses is)

-- a line `w`, whose first token isn't `m`
pub long_form-w : (word place number : List ℕ) → bytes_eq word (codes "m") ≡ false → bytes_eq word (codes "w") ≡ true → long_form word place number ≡ write_form place number
long_form-w word place number m w = rw (m, w) refl

-- a line's command stays the same, whatever lines come
pub command-keeps : (names : List (List ℕ)) (form : Form) (forms : List Form) → is_bad names form ≡ false
    → command_in (names_behind (names_behind names (form ∷ [])) forms) form ≡ command_in (names_behind names (form ∷ [])) form
command-keeps names Blank forms fine = refl
command-keeps names (Malloc name size) forms fine =
    rw (malloc-names names name size) (ap (option_map (λ (number : ℕ). command.Malloc number size)) (number-keeps (with_name names name) name forms (among-with names name)))
command-keeps names (Free (At address)) forms fine = refl
command-keeps names (Free (Named name shift)) forms fine =
    rw (← use-names names (Free (Named name shift)) refl)
    (ap (λ (x : Option ℕ). option_map (λ found. command.Free found) (option_map (λ number. place.Named number shift) x)) (number-keeps names name forms (on_of (is_among names name) fine)))
command-keeps names (Write name offset byte) forms fine =
    rw (← use-names names (Write name offset byte) refl)
    (ap (option_map (λ (number : ℕ). command.Write number offset byte)) (number-keeps names name forms (on_of (is_among names name) fine)))
command-keeps names (Usable name) forms fine =
    rw (← use-names names (Usable name) refl)
    (ap (option_map (λ (number : ℕ). command.Usable number)) (number-keeps names name forms (on_of (is_among names name) fine)))
command-keeps names Bad forms fine = absurd (true≢false fine)

one-weaker : (few many : ℕ) (x : Command) → few ≤ many → IsNamedBelow few x → IsNamedBelow many x
one-weaker few many (command.Malloc name size) le below = omega arith
one-weaker few many (command.Free (place.At address)) le below = tt
one-weaker few many (command.Free (place.Named name shift)) le below = omega arith
one-weaker few many (command.Write name offset byte) le below = omega arith
one-weaker few many (command.Usable name) le below = omega arith

-- a command's name is one of the names
module _ (names : List (List ℕ)) (name : List ℕ) where
  by_number : (f : ℕ → Command) → ((n : ℕ) → n < length names → IsNamedBelow (length names) (f n)) → (x : Option ℕ) → number_in names name ≡ x
      → All (IsNamedBelow (length names)) (option_to_list (option_map f x))
  by_number f below None same = All-nil (IsNamedBelow (length names))
  by_number f below (Some n) same =
      All-cons (IsNamedBelow (length names)) (f n) [] (below n (position-Some (λ other. bytes_eq name other) names n [] same).0) (All-nil (IsNamedBelow (length names)))

  below_by : (f : ℕ → Command) → ((n : ℕ) → n < length names → IsNamedBelow (length names) (f n))
      → All (IsNamedBelow (length names)) (option_to_list (option_map f (number_in names name)))
  below_by f below = by_number f below (number_in names name) refl

map_twice : (shift : Shift) (x : Option ℕ)
    → option_map (λ number. command.Free (place.Named number shift)) x ≡ option_map (λ found. command.Free found) (option_map (λ number. place.Named number shift) x)
map_twice shift None = refl
map_twice shift (Some number) = refl

pub named_in : (names : List (List ℕ)) (form : Form) → All (IsNamedBelow (length names)) (option_to_list (command_in names form))
named_in names Blank = All-nil (IsNamedBelow (length names))
named_in names (Malloc name size) = below_by names name (λ number. command.Malloc number size) (λ n below. below)
named_in names (Free (At address)) = All-cons (IsNamedBelow (length names)) (command.Free (place.At address)) [] tt (All-nil (IsNamedBelow (length names)))
named_in names (Free (Named name shift)) =
    subst (λ (x : Option Command). All (IsNamedBelow (length names)) (option_to_list x)) (map_twice shift (number_in names name))
    (below_by names name (λ number. command.Free (place.Named number shift)) (λ n below. below))
named_in names (Write name offset byte) = below_by names name (λ number. command.Write number offset byte) (λ n below. below)
named_in names (Usable name) = below_by names name (λ number. command.Usable number) (λ n below. below)
named_in names Bad = All-nil (IsNamedBelow (length names))

-- more names keep it so
pub named-weaker : (few many : ℕ) (commands : List Command) → few ≤ many → All (IsNamedBelow few) commands → All (IsNamedBelow many) commands
named-weaker few many commands le named = All-weaker (IsNamedBelow few) (IsNamedBelow many) (λ command below. one-weaker few many command le below) commands named

-- a line's last tokens, one by one
pub then_token : {line before : List (List ℕ)} {tokens : List (List ℕ)} (token : List ℕ) → line ≡ token ∷ before → before ≡ tokens → line ≡ token ∷ tokens
then_token token first next = first ∙ ap (λ (ts : List (List ℕ)). token ∷ ts) next
