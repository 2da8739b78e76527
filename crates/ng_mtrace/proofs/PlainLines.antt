-- The kinds of lines that end in a sign and numbers.
use Rattle.std.proofs.Common.{◌≡◌, ℕ, List, [], ◌∷◌, ◌++◌, get_or, true, false, Option, Some, All, refl, sym, ap, ◌∙◌, arith, append_assoc, subst, ⊎_elim}
use Rattle.std.specs.Prelude.{codes, option_and_then}
use Rattle.std.specs.Option.{option_map, unwrap_or}
use Rattle.std.specs.List.{list_all}
use Rattle.std.specs.Char.{is_digit}
use Rattle.std.proofs.lemmas.Bool.{cases_Bool, cases_eq, ne_eqb, false≢true}
use Rattle.std.proofs.lemmas.List.Elements.{All-nil, All-cons, All-from_get_or}
use Rattle.std.proofs.lemmas.List.Folds.{list_all_at}
use Rattle.ng_mtrace.specs.Kinds.{kind_of}
use Rattle.ng_mtrace.specs.Numbers.{number_of}
use Rattle.ng_mtrace.specs.Plain.{EndsInNumber}
use Rattle.ng_mtrace.specs.Tokens.{is_blank, last_tokens}
use Rattle.ng_mtrace.specs.declared.kind.Kind.{Kind}
use Rattle.ng_mtrace.specs.declared.kind.Kind.TheVariants.{End, Old, Make, New, Bad}
use Rattle.ng_mtrace.proofs.Digits.{number_is}
use Rattle.ng_mtrace.proofs.LineForms.{kind_of-from, kind_from-end, kind_from-old, kind_from-more}
use Rattle.ng_mtrace.proofs.TokenLemmas.{last_tokens-behind}

-- a digit is no blank
digit_filled : (byte : ℕ) → is_digit byte 16 ≡ true → is_blank byte ≡ false
digit_filled byte digit =
    ⊎_elim
    (λ (space : byte ≡ 32). absurd (false≢true (subst (λ (b : ℕ). is_digit b 16 ≡ true) space digit)))
    (λ other. ⊎_elim
    (λ (tab : byte ≡ 9). absurd (false≢true (subst (λ (b : ℕ). is_digit b 16 ≡ true) tab digit)))
    (λ rest. rw (ne_eqb byte 32 other, ne_eqb byte 9 rest) refl)
    (cases_eq byte 9))
    (cases_eq byte 32)

-- so a number has no blank
number_filled : (digits : List ℕ) → list_all (λ byte. is_digit byte 16) digits ≡ true → All (λ byte. is_blank byte ≡ false) (48 ∷ 120 ∷ digits)
number_filled digits all =
    All-cons (λ byte. is_blank byte ≡ false) 48 (120 ∷ digits) refl (All-cons (λ byte. is_blank byte ≡ false) 120 digits refl
    (All-from_get_or (λ byte. is_blank byte ≡ false) digits 0 (λ k within. digit_filled (get_or digits k 0)
    (⊎_elim
    (λ yes. yes)
    (λ no. absurd (false≢true (sym (list_all_at (λ byte. is_digit byte 16) digits k 0 within no) ∙ all)))
    (cases_Bool (is_digit (get_or digits k 0) 16))))))

-- what a number's token writes
ptr_of-token : (text before : List ℕ) (value : ℕ) (ends : EndsInNumber text before value) → number_of ends.digits ≡ Some value
ptr_of-token text before value ends = sym (number_is ends.digits ends.some ends.few ends.all) ∙ ap (λ (n : ℕ). Some n) (sym ends.value_is)

-- a number behind a space is the last token
number_last : (text before front : List ℕ) (value : ℕ) (ends : EndsInNumber text before value) → before ≡ front ++ 32 ∷ []
    → last_tokens text ≡ (48 ∷ 120 ∷ ends.digits) ∷ last_tokens front
number_last text before front value ends behind =
    let token : List ℕ = 48 ∷ 120 ∷ ends.digits in
    let whole : text ≡ front ++ 32 ∷ token = ends.text_is ∙ ap (λ (bytes : List ℕ). bytes ++ token) behind ∙ append_assoc front (32 ∷ []) token in
    ap last_tokens whole ∙ last_tokens-behind front 32 token refl (omega arith) (number_filled ends.digits ends.all)

-- a sign behind a space comes before it
sign_next : (text before front : List ℕ) (value sign : ℕ) (ends : EndsInNumber text before value) → before ≡ front ++ 32 ∷ sign ∷ 32 ∷ [] → is_blank sign ≡ false
    → last_tokens text ≡ (48 ∷ 120 ∷ ends.digits) ∷ (sign ∷ []) ∷ last_tokens front
sign_next text before front value sign ends behind filled =
    let split : before ≡ (front ++ 32 ∷ sign ∷ []) ++ 32 ∷ [] = behind ∙ sym (append_assoc front (32 ∷ sign ∷ []) (32 ∷ [])) in
    let mark : All (λ byte. is_blank byte ≡ false) (sign ∷ []) = All-cons (λ byte. is_blank byte ≡ false) sign [] filled (All-nil (λ byte. is_blank byte ≡ false)) in
    number_last text before (front ++ 32 ∷ sign ∷ []) value ends split
    ∙ ap (λ (tokens : List (List ℕ)). (48 ∷ 120 ∷ ends.digits) ∷ tokens) (last_tokens-behind front 32 (sign ∷ []) refl (omega arith) mark)

-- the forms
pub plain-end : (line before front : List ℕ) (name : ℕ) → EndsInNumber line before name → before ≡ front ++ codes " - " → End name ≡ kind_of line
plain-end line before front name ends behind =
    let token : List ℕ = 48 ∷ 120 ∷ ends.digits in
    ap (λ (found : Option ℕ). unwrap_or (option_map (λ name. End name) found) Bad) (sym (ptr_of-token line before name ends))
    ∙ kind_from-end token (last_tokens front)
    ∙ sym (kind_of-from line (token ∷ codes "-" ∷ last_tokens front) (sign_next line before front name 45 ends behind refl))

pub plain-old : (line before front : List ℕ) (name : ℕ) → EndsInNumber line before name → before ≡ front ++ codes " < " → Old name ≡ kind_of line
plain-old line before front name ends behind =
    let token : List ℕ = 48 ∷ 120 ∷ ends.digits in
    ap (λ (found : Option ℕ). unwrap_or (option_map (λ name. Old name) found) Bad) (sym (ptr_of-token line before name ends))
    ∙ kind_from-old token (last_tokens front)
    ∙ sym (kind_of-from line (token ∷ codes "<" ∷ last_tokens front) (sign_next line before front name 60 ends behind refl))

both_read : (kind : ℕ → ℕ → Kind) (name size : ℕ) (p q : Option ℕ) → p ≡ Some name → q ≡ Some size
    → kind name size ≡ unwrap_or (option_and_then (λ name. option_map (kind name) q) p) Bad
both_read kind name size p q is also = rw is (rw also refl)

-- the last tokens of a line with a size
long_tokens : (line before mid start front : List ℕ) (size name sign : ℕ) (ends : EndsInNumber line before size) → before ≡ mid ++ codes " " → (first : EndsInNumber mid start name)
    → start ≡ front ++ 32 ∷ sign ∷ 32 ∷ [] → is_blank sign ≡ false → last_tokens line ≡ (48 ∷ 120 ∷ ends.digits) ∷ (48 ∷ 120 ∷ first.digits) ∷ (sign ∷ []) ∷ last_tokens front
long_tokens line before mid start front size name sign ends behind first marked filled =
    number_last line before mid size ends behind
    ∙ ap (λ (tokens : List (List ℕ)). (48 ∷ 120 ∷ ends.digits) ∷ tokens) (sign_next mid start front name sign first marked filled)

pub plain-make : (line before mid start front : List ℕ) (size name : ℕ) → EndsInNumber line before size → before ≡ mid ++ codes " " → EndsInNumber mid start name → start ≡ front ++ codes " + "
    → Make name size ≡ kind_of line
plain-make line before mid start front size name ends behind first sign =
    let last : List ℕ = 48 ∷ 120 ∷ ends.digits in
    let second : List ℕ = 48 ∷ 120 ∷ first.digits in
    both_read (λ name n. Make name n) name size (number_of first.digits) (number_of ends.digits) (ptr_of-token mid start name first) (ptr_of-token line before size ends)
    ∙ kind_from-more last second (codes "+") (last_tokens front) refl refl
    ∙ sym (kind_of-from line (last ∷ second ∷ codes "+" ∷ last_tokens front) (long_tokens line before mid start front size name 43 ends behind first sign refl))

pub plain-new : (line before mid start front : List ℕ) (size name : ℕ) → EndsInNumber line before size → before ≡ mid ++ codes " " → EndsInNumber mid start name → start ≡ front ++ codes " > "
    → New name size ≡ kind_of line
plain-new line before mid start front size name ends behind first sign =
    let last : List ℕ = 48 ∷ 120 ∷ ends.digits in
    let second : List ℕ = 48 ∷ 120 ∷ first.digits in
    both_read (λ name n. New name n) name size (number_of first.digits) (number_of ends.digits) (ptr_of-token mid start name first) (ptr_of-token line before size ends)
    ∙ kind_from-more last second (codes ">") (last_tokens front) refl refl
    ∙ sym (kind_of-from line (last ∷ second ∷ codes ">" ∷ last_tokens front) (long_tokens line before mid start front size name 62 ends behind first sign refl))
