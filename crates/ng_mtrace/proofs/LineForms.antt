-- The kind of a line, from its last tokens.
use Rattle.std.proofs.Common.{◌≡◌, ℕ, Bool, true, false, List, [], ◌∷◌, Option, Some, None, cond, refl, ap, sym, ◌∙◌}
use Rattle.std.specs.Prelude.{codes}
use Rattle.std.specs.Option.{option_map, option_or, unwrap_or}
use Rattle.std.specs.Str.{bytes_eq}
use Rattle.ng_mtrace.specs.Numbers.{ptr_of}
use Rattle.ng_mtrace.specs.Tokens.{last_tokens}
use Rattle.ng_mtrace.specs.Kinds.{kind_of, kind_from, long_form}
use Rattle.ng_mtrace.specs.declared.kind.Kind.{Kind}
use Rattle.ng_mtrace.specs.declared.kind.Kind.TheVariants.{End, Old, Bad}

pub kind_of-from : (line : List ℕ) (tokens : List (List ℕ)) → last_tokens line ≡ tokens → kind_of line ≡ kind_from tokens
unfolding kind_of
kind_of-from line tokens same = ap kind_from same

-- a line of one token
pub one_token : (line before last : List ℕ) → last_tokens line ≡ last ∷ last_tokens before → last_tokens before ≡ [] → kind_of line ≡ kind_from (last ∷ [])
one_token line before last first none = kind_of-from line (last ∷ []) (first ∙ ap (λ (tokens : List (List ℕ)). last ∷ tokens) none)

-- a line of two tokens or more
pub two_tokens : (line before last second : List ℕ) (rest : List (List ℕ)) → last_tokens line ≡ last ∷ last_tokens before → last_tokens before ≡ second ∷ rest → kind_of line ≡ kind_from (last ∷ second ∷ rest)
two_tokens line before last second rest first next = kind_of-from line (last ∷ second ∷ rest) (first ∙ ap (λ (tokens : List (List ℕ)). last ∷ tokens) next)

none_of_three : (a b c : Bool) → cond {A = Option Kind} a None (cond b None (cond c None None)) ≡ None
none_of_three true b c = refl
none_of_three false true c = refl
none_of_three false false true = refl
none_of_three false false false = refl

short_decides : (short long : Option Kind) → long ≡ None → unwrap_or short Bad ≡ unwrap_or (option_or short long) Bad
short_decides (Some kind) long none = refl
short_decides None long none = ap (λ (form : Option Kind). unwrap_or form Bad) (sym none)

-- no pointer is one byte, so before one of these signs no third token counts
pub kind_from-end : (last : List ℕ) (before : List (List ℕ)) → unwrap_or (option_map (λ name. End name) (ptr_of last)) Bad ≡ kind_from (last ∷ codes "-" ∷ before)
kind_from-end last [] = refl
kind_from-end last (third ∷ before) =
    short_decides (option_map (λ name. End name) (ptr_of last)) (long_form third (codes "-") last)
    (none_of_three (bytes_eq third (codes "+")) (bytes_eq third (codes ">")) (bytes_eq third (codes "!")))

pub kind_from-old : (last : List ℕ) (before : List (List ℕ)) → unwrap_or (option_map (λ name. Old name) (ptr_of last)) Bad ≡ kind_from (last ∷ codes "<" ∷ before)
kind_from-old last [] = refl
kind_from-old last (third ∷ before) =
    short_decides (option_map (λ name. Old name) (ptr_of last)) (long_form third (codes "<") last)
    (none_of_three (bytes_eq third (codes "+")) (bytes_eq third (codes ">")) (bytes_eq third (codes "!")))

-- a mark has two tokens and no more
pub kind_from-no_mark : (last third : List ℕ) (before : List (List ℕ)) → Bad ≡ kind_from (last ∷ codes "=" ∷ third ∷ before)
kind_from-no_mark last third before =
    short_decides None (long_form third (codes "=") last)
    (none_of_three (bytes_eq third (codes "+")) (bytes_eq third (codes ">")) (bytes_eq third (codes "!")))

-- where the second token is none of these signs, a line of two tokens is in no form, and one of more in a long form or none
pub kind_from-two : (last second : List ℕ) → bytes_eq second (codes "-") ≡ false → bytes_eq second (codes "<") ≡ false → bytes_eq second (codes "=") ≡ false
    → Bad ≡ kind_from (last ∷ second ∷ [])
kind_from-two last second end old mark = rw (end, old, mark) refl

pub kind_from-more : (last second third : List ℕ) (before : List (List ℕ)) → bytes_eq second (codes "-") ≡ false → bytes_eq second (codes "<") ≡ false
    → unwrap_or (long_form third second last) Bad ≡ kind_from (last ∷ second ∷ third ∷ before)
kind_from-more last second third before end old = rw (end, old) refl
