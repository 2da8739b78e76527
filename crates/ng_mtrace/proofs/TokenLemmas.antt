-- Tokens of a line, taken from its end.
use Rattle.std.proofs.Common.{◌≡◌, ℕ, ◌+◌, ◌-◌, ◌<◌, ◌≤◌, ◌⊎◌, List, [], ◌∷◌, ◌++◌, length, take, drop, get_or, Bool, true, false, reverse, filter, refl, sym, ap, ◌∙◌, arith, append_assoc, ⊎_elim}
use Rattle.std.specs.List.{slice_split, onto_first, All}
use Rattle.std.proofs.lemmas.List.{take_more, get_or-drop, get_or-take, length-take, length-drop, reverse-append}
use Rattle.std.proofs.lemmas.List.Elements.{filter-append, All-from_get_or}
use Rattle.std.proofs.lemmas.List.Splits.{slice_split-cons_yes, slice_split-cons_no, slice_split_none, length-slice_split}
use Rattle.std.proofs.Math.Seq.{take-add}
use Rattle.std.proofs.lemmas.Bool.{cases_Bool}
use Rattle.std.proofs.lemmas.Grind.{common_steps}
use Rattle.ng_mtrace.specs.Tokens.{is_blank, is_filled, tokens_of, last_tokens}

onto_first-append : (x : ℕ) (a b : List (List ℕ)) → 0 < length a → onto_first x (a ++ b) ≡ onto_first x a ++ b
onto_first-append x [] b some = absurd (omega arith)
onto_first-append x (part ∷ parts) b some = refl

some_part : (p : ℕ → Bool) (xs : List ℕ) → 0 < length (slice_split p xs)
some_part p xs = omega (arith, length-slice_split p xs)

-- a cut at a byte parts what stands before it from what stands behind it
pub split_at_cut : (p : ℕ → Bool) (xs : List ℕ) (y : ℕ) (ys : List ℕ) → p y ≡ true → slice_split p (xs ++ y ∷ ys) ≡ slice_split p xs ++ slice_split p ys
split_at_cut p [] y ys cut = slice_split-cons_yes p y ys cut
split_at_cut p (x ∷ xs) y ys cut =
    ⊎_elim
    (λ yes. rw (slice_split-cons_yes p x (xs ++ y ∷ ys) yes) (rw (slice_split-cons_yes p x xs yes) (ap (λ (parts : List (List ℕ)). [] ∷ parts) (split_at_cut p xs y ys cut))))
    (λ no. rw (slice_split-cons_no p x (xs ++ y ∷ ys) no) (rw (slice_split-cons_no p x xs no) (rw (split_at_cut p xs y ys cut) (onto_first-append x (slice_split p xs) (slice_split p ys) (some_part p xs)))))
    (cases_Bool (p x))

-- a blank at the end adds no token
tokens_of-blank : (xs : List ℕ) (y : ℕ) → is_blank y ≡ true → tokens_of (xs ++ y ∷ []) ≡ tokens_of xs
unfolding tokens_of
tokens_of-blank xs y blank = rw (split_at_cut is_blank xs y [] blank) (rw (filter-append is_filled (slice_split is_blank xs) ([] ∷ [])) (grind (arith, common_steps)))

is_filled-some : (t : List ℕ) → 0 < length t → is_filled t ≡ true
is_filled-some [] some = absurd (omega arith)
is_filled-some (x ∷ xs) some = refl

filter-one : (t : List ℕ) → 0 < length t → filter is_filled (t ∷ []) ≡ t ∷ []
filter-one [] some = absurd (omega arith)
filter-one (x ∷ xs) some = refl

-- a token alone is the only one
tokens_of-alone : (t : List ℕ) → 0 < length t → All (λ x. is_blank x ≡ false) t → tokens_of t ≡ t ∷ []
unfolding tokens_of
tokens_of-alone t some filled = rw (slice_split_none is_blank t filled) (filter-one t some)

-- a token behind a blank is the last one
tokens_of-behind : (xs : List ℕ) (y : ℕ) (t : List ℕ) → is_blank y ≡ true → 0 < length t → All (λ x. is_blank x ≡ false) t → tokens_of (xs ++ y ∷ t) ≡ tokens_of xs ++ t ∷ []
unfolding tokens_of
tokens_of-behind xs y t blank some filled =
    rw (split_at_cut is_blank xs y t blank) (rw (filter-append is_filled (slice_split is_blank xs) (slice_split is_blank t)) (ap (λ (ts : List (List ℕ)). filter is_filled (slice_split is_blank xs) ++ ts) (tokens_of-alone t some filled)))

-- one step down over a blank
pub same_tokens : (line : List ℕ) (end : ℕ) → 0 < end → end ≤ length line → is_blank (get_or line (end - 1) 0) ≡ true → tokens_of (take (end - 1) line) ≡ tokens_of (take end line)
same_tokens line end some within blank =
    let more : take (end - 1 + 1) line ≡ take (end - 1) line ++ get_or line (end - 1) 0 ∷ [] = take_more line (end - 1) 0 (omega arith) in
    let whole : end - 1 + 1 ≡ end = omega arith in
    let cut : take end line ≡ take (end - 1) line ++ get_or line (end - 1) 0 ∷ [] = rw whole at more in
    rw cut (sym (tokens_of-blank (take (end - 1) line) (get_or line (end - 1) 0) blank))

nothing : reverse (tokens_of []) ≡ []
unfolding tokens_of
nothing = refl

at_front : (line : List ℕ) (start : ℕ) (t : List ℕ) → start ≡ 0 → 0 < length t → All (λ x. is_blank x ≡ false) t → tokens_of (take start line ++ t) ≡ tokens_of (take start line) ++ t ∷ []
unfolding tokens_of
at_front line start t none some filled = rw none (tokens_of-alone t some filled)

behind_blank : (line : List ℕ) (start : ℕ) (t : List ℕ) → 0 < start → start ≤ length line → is_blank (get_or line (start - 1) 0) ≡ true → 0 < length t → All (λ x. is_blank x ≡ false) t → tokens_of (take start line ++ t) ≡ tokens_of (take start line) ++ t ∷ []
behind_blank line start t some within blank long filled =
    let y : ℕ = get_or line (start - 1) 0 in
    let more : take (start - 1 + 1) line ≡ take (start - 1) line ++ y ∷ [] = take_more line (start - 1) 0 (omega arith) in
    let whole : start - 1 + 1 ≡ start = omega arith in
    let cut : take start line ≡ take (start - 1) line ++ y ∷ [] = rw whole at more in
    let joined : take start line ++ t ≡ take (start - 1) line ++ y ∷ t = rw cut (append_assoc (take (start - 1) line) (y ∷ []) t) in
    let before : tokens_of (take (start - 1) line) ≡ tokens_of (take start line) = same_tokens line start some within blank in
    rw joined (rw (← before) (tokens_of-behind (take (start - 1) line) y t blank long filled))

-- the bytes from start to end, one by one
read_part : (line : List ℕ) (start end k : ℕ) → k < length (take (end - start) (drop start line)) → get_or (take (end - start) (drop start line)) k 0 ≡ get_or line (start + k) 0
read_part line start end k below =
    let inside : k < end - start = omega (arith, length-take (end - start) (drop start line)) in
    get_or-take (end - start) (drop start line) k 0 inside ∙ get_or-drop start line k 0

filled_part : (line : List ℕ) (start end : ℕ) → end ≤ length line → ((k : ℕ) → start ≤ k → k < end → is_blank (get_or line k 0) ≡ false) → All (λ x. is_blank x ≡ false) (take (end - start) (drop start line))
filled_part line start end within filled =
    All-from_get_or (λ x. is_blank x ≡ false) (take (end - start) (drop start line)) 0 (λ k below.
    let inside : k < end - start = omega (arith, length-take (end - start) (drop start line)) in
    rw (read_part line start end k below) (filled (start + k) (omega arith) (omega arith)))

-- a line up to the end is a line up to the start, and the part between
parted : (line : List ℕ) (start end : ℕ) → start ≤ end → take end line ≡ take start line ++ take (end - start) (drop start line)
parted line start end order =
    let sum : start + (end - start) ≡ end = omega arith in
    rw sum at (take-add start (end - start) line)

-- the token from start to end is the last one before the end
tokens_at : (line : List ℕ) (start end : ℕ) → start < end → end ≤ length line → ((k : ℕ) → start ≤ k → k < end → is_blank (get_or line k 0) ≡ false) → (start ≡ 0) ⊎ ((0 < start) × (is_blank (get_or line (start - 1) 0) ≡ true)) → tokens_of (take end line) ≡ tokens_of (take start line) ++ take (end - start) (drop start line) ∷ []
tokens_at line start end some within filled edge =
    let t : List ℕ = take (end - start) (drop start line) in
    let long : 0 < length t = omega (arith, length-take (end - start) (drop start line), length-drop start line) in
    let all : All (λ x. is_blank x ≡ false) t = filled_part line start end within filled in
    let cut : take end line ≡ take start line ++ t = parted line start end (omega arith) in
    rw cut (⊎_elim
    (λ none. at_front line start t none long all)
    (λ blank. behind_blank line start t blank.0 (omega arith) blank.1 long all)
    edge)

pub last_token_is : (line : List ℕ) (start end : ℕ) → start < end → end ≤ length line → ((k : ℕ) → start ≤ k → k < end → is_blank (get_or line k 0) ≡ false) → (start ≡ 0) ⊎ ((0 < start) × (is_blank (get_or line (start - 1) 0) ≡ true)) → tokens_of (take end line) ≡ tokens_of line → last_tokens line ≡ take (end - start) (drop start line) ∷ last_tokens (take start line)
unfolding last_tokens
last_token_is line start end some within filled edge same =
    rw (← same) (rw (tokens_at line start end some within filled edge) (reverse-append (tokens_of (take start line)) (take (end - start) (drop start line) ∷ [])))

-- no token stands before the first byte
pub no_token : (line : List ℕ) (end : ℕ) → end ≡ 0 → tokens_of (take end line) ≡ tokens_of line → last_tokens line ≡ []
unfolding last_tokens
no_token line end none same = rw (← same) (rw none (nothing))

-- what a token at the end of a line is, behind a blank
pub last_tokens-behind : (xs : List ℕ) (y : ℕ) (t : List ℕ) → is_blank y ≡ true → 0 < length t → All (λ x. is_blank x ≡ false) t → last_tokens (xs ++ y ∷ t) ≡ t ∷ last_tokens xs
unfolding last_tokens
last_tokens-behind xs y t blank some filled = rw (tokens_of-behind xs y t blank some filled) (reverse-append (tokens_of xs) (t ∷ []))
