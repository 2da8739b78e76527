-- Parts of a text, cut off one by one.
use Rattle.std.specs.Prelude.{position}
use Rattle.std.proofs.Common.{◌≡◌, ℕ, suc, ◌+◌, ◌-◌, ◌<◌, ◌≤◌, ◌==◌, Bool, true, false, List, [], ◌∷◌, ◌++◌, length, take, drop, get_or, Option, Some, None, refl, sym, ap, ◌∙◌, arith, ltb, ⊎_elim}
use Rattle.std.specs.Str.{bytes_eq}
use Rattle.std.specs.List.{slice_split, position_or_len, join_with_byte}
use Rattle.std.proofs.lemmas.Bool.{cases_Bool, eqb-true}
use Rattle.std.proofs.lemmas.Bool.Decides.{nat_tests}
use Rattle.std.proofs.lemmas.List.{nil_from_length, take_all, take-append-drop, length-drop, length-take, get_or-take}
use Rattle.std.proofs.Math.Seq.{drop-cons}
use Rattle.std.proofs.lemmas.List.Elements.{All-from_get_or}
use Rattle.std.proofs.lemmas.List.Quantifiers.{position-Some}
use Rattle.std.proofs.lemmas.List.Splits.{slice_split_at, slice_split_none, length-slice_split, join_with_byte-slice_split}
use Rattle.std.proofs.lemmas.Slice.Eq.{bytes_eq-Decides}
use Rattle.std.proofs.lemmas.List.Sums.{fails_before_first, position_or_len_is}
use Rattle.memchr.specs.Find.{Nowhere, Passes, IsFirstByte, is_byte}
use Rattle.ng_mtrace.specs.Text.{parts_at, IsWithout}

some_is_not_none : (n : ℕ) → Some n ≡ None → ⊥
some_is_not_none n same = cc

-- where no element passes, none is the first
none_first : (p : ℕ → Bool) (xs : List ℕ) → position p xs ≡ None → length xs ≤ position_or_len p xs
none_first p xs none =
    ⊎_elim
    (λ (yes : ltb (position_or_len p xs) (length xs) ≡ true). let found : position p xs ≡ Some (position_or_len p xs) = rw yes refl in absurd (some_is_not_none (position_or_len p xs) (sym found ∙ none)))
    (λ (no : ltb (position_or_len p xs) (length xs) ≡ false). grind (arith, nat_tests))
    (cases_Bool (ltb (position_or_len p xs) (length xs)))

-- where none is the first, there is none
pub is_without-none : (cut : ℕ) (text : List ℕ) → position (λ byte. byte == cut) text ≡ None → IsWithout cut text
is_without-none cut text none =
    let last : length text ≤ position_or_len (λ byte. byte == cut) text = none_first (λ byte. byte == cut) text none in
    All-from_get_or (λ byte. (byte == cut) ≡ false) text 0 (λ k within. fails_before_first (λ byte. byte == cut) text k 0 (omega arith))

-- there is none before the first
pub is_without-before : (cut : ℕ) (text : List ℕ) (at : ℕ) → position (λ byte. byte == cut) text ≡ Some at → IsWithout cut (take at text)
is_without-before cut text at found =
    let first : (at < length text) × ((get_or text at 0 == cut) ≡ true) × ((k : ℕ) → k < at → (get_or text k 0 == cut) ≡ false) = position-Some (λ byte. byte == cut) text at 0 found in
    All-from_get_or (λ byte. (byte == cut) ≡ false) (take at text) 0 (λ k within.
    let below : k < at = omega (arith, length-take at text) in
    rw (get_or-take at text k 0 below) (first.2 k below))

-- a text round one of its places
whole_from : (text : List ℕ) (at : ℕ) → at < length text → text ≡ take at text ++ get_or text at 0 ∷ drop (at + 1) text
whole_from text at within =
    let next : at + 1 ≡ suc at = omega arith in
    rw next (sym (rw (← drop-cons text at 0 within) (take-append-drop at text)))

-- what a slice from behind the first one has
slice_behind : (text : List ℕ) (at : ℕ) → take (length text - (at + 1)) (drop (at + 1) text) ≡ drop (at + 1) text
slice_behind text at = take_all (length text - (at + 1)) (drop (at + 1) text) (omega (arith, length-drop (at + 1) text))

-- a text round the first one
pub text-round : (cut : ℕ) (text : List ℕ) (at : ℕ) → position (λ byte. byte == cut) text ≡ Some at
    → text ≡ take at text ++ cut ∷ take (length text - (at + 1)) (drop (at + 1) text)
text-round cut text at found =
    let first : (at < length text) × ((get_or text at 0 == cut) ≡ true) × ((k : ℕ) → k < at → (get_or text k 0 == cut) ≡ false) = position-Some (λ byte. byte == cut) text at 0 found in
    let same : get_or text at 0 ≡ cut = eqb-true (get_or text at 0) cut first.1 in
    rw (slice_behind text at) (whole_from text at first.0 ∙ ap (λ (byte : ℕ). take at text ++ byte ∷ drop (at + 1) text) same)

-- a text without the byte is one part
pub parts_at-none : (cut : ℕ) (text : List ℕ) → position (λ byte. byte == cut) text ≡ None → parts_at cut text ≡ text ∷ []
unfolding parts_at
parts_at-none cut text none = slice_split_none (λ byte. byte == cut) text (is_without-none cut text none)

-- a text with the byte: what stands before the first one, and the parts of what stands behind it
pub parts_at-cut : (cut : ℕ) (text : List ℕ) (at : ℕ) → position (λ byte. byte == cut) text ≡ Some at
    → parts_at cut text ≡ take at text ∷ parts_at cut (take (length text - (at + 1)) (drop (at + 1) text))
unfolding parts_at
parts_at-cut cut text at found =
    let behind : List ℕ = take (length text - (at + 1)) (drop (at + 1) text) in
    ap (λ bytes. slice_split (λ byte. byte == cut) bytes) (text-round cut text at found)
    ∙ slice_split_at (λ byte. byte == cut) (take at text) cut behind (is_without-before cut text at found) (grind (arith, nat_tests))

-- nothing but one empty part: the text is empty
pub parts_at-empty : (cut : ℕ) (text : List ℕ) → parts_at cut text ≡ [] ∷ [] → text ≡ []
unfolding parts_at
parts_at-empty cut text one = sym (join_with_byte-slice_split cut text) ∙ ap (λ parts. join_with_byte cut parts) one

-- an empty text is one empty part
pub parts_at-nil : (cut : ℕ) (text : List ℕ) → length text ≡ 0 → parts_at cut text ≡ [] ∷ []
unfolding parts_at
parts_at-nil cut text empty = rw (nil_from_length text empty) refl

-- there is at least one part
pub parts_at-some_part : (cut : ℕ) (text : List ℕ) → 0 < length (parts_at cut text)
unfolding parts_at
parts_at-some_part cut text = omega (arith, length-slice_split (λ byte. byte == cut) text)

-- a byte that fails at each place of these
misses : (cut : ℕ) (text : List ℕ) (end : ℕ) → Nowhere (Passes (is_byte cut) text) 0 end → (k : ℕ) → k < end → (get_or text k 0 == cut) ≡ false
misses cut text end nowhere k below =
    ⊎_elim
    (λ (yes : (get_or text k 0 == cut) ≡ true). absurd (nowhere k (omega arith) below yes))
    (λ (no : (get_or text k 0 == cut) ≡ false). no)
    (cases_Bool (get_or text k 0 == cut))

-- a search for the first byte gives its position
pub first_byte-position : (cut : ℕ) (text : List ℕ) (found : Option ℕ) → IsFirstByte (is_byte cut) text found → found ≡ position (λ byte. byte == cut) text
first_byte-position cut text None nowhere =
    let last : position_or_len (λ byte. byte == cut) text ≡ length text =
    position_or_len_is (λ byte. byte == cut) text (length text) 0 (omega arith) (misses cut text (length text) nowhere) (λ within. absurd (omega arith)) in
    let out : ltb (position_or_len (λ byte. byte == cut) text) (length text) ≡ false = grind (arith, nat_tests) in
    rw out refl
first_byte-position cut text (Some at) first =
    let here : position_or_len (λ byte. byte == cut) text ≡ at =
    position_or_len_is (λ byte. byte == cut) text at 0 (omega (arith, first.0.high)) (misses cut text at first.0.before) (λ within. first.1) in
    let inside : ltb (position_or_len (λ byte. byte == cut) text) (length text) ≡ true = grind (arith, nat_tests, first.0.high) in
    rw inside (ap Some (sym here))

-- a text that ends with a word
pub suffix_cut : (text word before : List ℕ) → bytes_eq (drop (length text - length word) text) word ≡ true → before ≡ take (length text - length word) text → text ≡ before ++ word
suffix_cut text word before same is =
    let at : ℕ = length text - length word in
    let tail : drop at text ≡ word = (bytes_eq-Decides (drop at text) word).0 same in
    rw is (sym (take-append-drop at text) ∙ ap (λ (end : List ℕ). take at text ++ end) tail)
