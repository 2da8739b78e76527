-- The parts of a text, as its bytes come.
use Rattle.std.proofs.Common.{◌≡◌, ℕ, ◌+◌, ◌<◌, ◌≤◌, ◌⊎◌, ◌==◌, Bool, true, false, List, [], ◌∷◌, ◌++◌, length, Some, None, All, map, refl, ap, ◌∙◌, append_assoc, arith, ⊎_elim, inl, inr, ltb}
use Rattle.std.specs.List.{slice_split, onto_first}
use Rattle.std.proofs.lemmas.Bool.{cases_Bool, cases_eq}
use Rattle.std.proofs.lemmas.Bool.Decides.{nat_tests}
use Rattle.std.proofs.lemmas.List.{length-append, append-nil}
use Rattle.std.proofs.lemmas.List.Elements.{All-append, All-head, All-tail}
use Rattle.std.proofs.lemmas.List.Splits.{slice_split-cons_no, slice_split_at, slice_split_none}
use Rattle.ng_mtrace.specs.Text.{parts_at, parts_of, IsWithout}
use Rattle.ng_mtrace.specs.Kinds.{kind_of}
use Rattle.ng_mtrace.specs.Sections.{whole_of}
use Rattle.ng_mtrace.specs.Faults.{is_beyond, cut_fault}
use Rattle.ng_mtrace.specs.PartRead.{faults_from}
use Rattle.ng_mtrace.specs.declared.log_fault.LogFault.TheVariants.{Limit}
use Rattle.ng_mtrace.proofs.Parts.{parts_at-some_part}

-- a text has a first part
pub record HasFirst (parts : List (List ℕ)) : Type 0 where
  pub first : List ℕ
  pub others : List (List ℕ)
  pub is : parts ≡ first ∷ others

first_of : (parts : List (List ℕ)) → 0 < length parts → HasFirst parts
first_of [] some = absurd (omega arith)
first_of (first ∷ others) some = record { first = first; others = others; is = refl }

pub first_part : (text : List ℕ) → HasFirst (parts_of text)
first_part text = first_of (parts_of text) (parts_at-some_part 10 text)

-- a line feed ends the first line
pub parts_of-fed : (line rest : List ℕ) → IsWithout 10 line → parts_of (line ++ 10 ∷ rest) ≡ line ∷ parts_of rest
unfolding parts_at
parts_of-fed line rest unfed = slice_split_at (λ byte. byte == 10) line 10 rest unfed refl

-- a text with no line feed is one part
pub parts_of-alone : (line : List ℕ) → IsWithout 10 line → parts_of (line ++ []) ≡ line ∷ []
unfolding parts_at
parts_of-alone line unfed = rw (append-nil line) (slice_split_none (λ byte. byte == 10) line unfed)

split_front : (p : ℕ → Bool) (xs ys first : List ℕ) (others : List (List ℕ)) → All (λ x. p x ≡ false) xs
    → slice_split p ys ≡ first ∷ others → slice_split p (xs ++ ys) ≡ (xs ++ first) ∷ others
split_front p [] ys first others none is = is
split_front p (x ∷ xs) ys first others none is =
    slice_split-cons_no p x (xs ++ ys) (All-head (λ y. p y ≡ false) x xs none)
    ∙ ap (λ (parts : List (List ℕ)). onto_first x parts) (split_front p xs ys first others (All-tail (λ y. p y ≡ false) x xs none) is)

-- bytes with no line feed come before the first part
pub parts_of-front : (line rest first : List ℕ) (others : List (List ℕ)) → IsWithout 10 line → parts_of rest ≡ first ∷ others
    → parts_of (line ++ rest) ≡ (line ++ first) ∷ others
unfolding parts_at
parts_of-front line rest first others unfed is = split_front (λ byte. byte == 10) line rest first others unfed is

-- more bytes stay beyond the limits
pub is_beyond-append : (number : ℕ) (a b : List ℕ) → is_beyond number a ≡ true → is_beyond number (a ++ b) ≡ true
is_beyond-append number a b beyond =
    ⊎_elim
    (λ many. rw many refl)
    (λ few.
    let long : ltb 4096 (length a) ≡ true = rw few at beyond in
    let longer : length (a ++ b) ≡ length a + length b = length-append a b in
    let still : ltb 4096 (length (a ++ b)) ≡ true = grind (arith, nat_tests) in
    rw few still)
    (cases_Bool (ltb 1000000 number))

-- a part beyond the limits is the first fault
beyond_first : (lines sections : ℕ) (inside : Bool) (first : List ℕ) (others : List (List ℕ)) → is_beyond (lines + 1) first ≡ true
    → (0 < length first) ⊎ (0 < length others) → faults_from lines sections inside (first ∷ others) ≡ Some (Limit (lines + 1))
beyond_first lines sections inside [] [] beyond some = absurd (⊎_elim (λ a. omega arith) (λ b. omega arith) some)
beyond_first lines sections inside (byte ∷ bytes) [] beyond some = rw beyond refl
beyond_first lines sections inside first (next ∷ parts) beyond some = rw beyond refl

-- a line of two parts
pub joined-unfed : (line part : List ℕ) → IsWithout 10 line → IsWithout 10 part → IsWithout 10 (line ++ part)
joined-unfed line part unfed fresh = All-append (λ byte. (byte == 10) ≡ false) line part unfed fresh

-- bytes beyond the limits, whatever comes
pub beyond_kept : (lines sections : ℕ) (inside : Bool) (line part rest : List ℕ) → IsWithout 10 line → IsWithout 10 part
    → 0 < length part → is_beyond (lines + 1) (line ++ part) ≡ true
    → faults_from lines sections inside (parts_of (line ++ (part ++ rest))) ≡ Some (Limit (lines + 1))
beyond_kept lines sections inside line part rest unfed fresh some beyond =
    let whole : List ℕ = line ++ part in
    let found : HasFirst (parts_of rest) = first_part rest in
    let first : List ℕ = whole ++ found.first in
    let cut : parts_of (whole ++ rest) ≡ first ∷ found.others = parts_of-front whole rest found.first found.others (joined-unfed line part unfed fresh) found.is in
    let long : 0 < length first = omega (arith, length-append whole found.first, length-append line part) in
    rw (← append_assoc line part rest) (rw cut (beyond_first lines sections inside first found.others (is_beyond-append (lines + 1) whole found.first beyond) (inl long)))

-- a line, its line feed, and what comes
pub parts_of-joined : (line part rest : List ℕ) → IsWithout 10 line → IsWithout 10 part
    → parts_of (line ++ (part ++ 10 ∷ rest)) ≡ (line ++ part) ∷ parts_of rest
parts_of-joined line part rest unfed fresh =
    rw (← append_assoc line part (10 ∷ rest)) (parts_of-fed (line ++ part) rest (joined-unfed line part unfed fresh))

-- a line beyond the limits
pub beyond_fed : (lines sections : ℕ) (inside : Bool) (line rest : List ℕ) → is_beyond (lines + 1) line ≡ true
    → faults_from lines sections inside (line ∷ parts_of rest) ≡ Some (Limit (lines + 1))
beyond_fed lines sections inside line rest beyond = beyond_first lines sections inside line (parts_of rest) beyond (inr (parts_at-some_part 10 rest))

cons-nil : (byte : ℕ) (bytes : List ℕ) → byte ∷ bytes ≡ [] → ⊥
cons-nil byte bytes same = cc

cut_fine : (lines : ℕ) (line : List ℕ) → lines ≤ 1000000 → (lines ≡ 1000000 → line ≡ []) → length line ≤ 4096 → cut_fault lines line ≡ None
cut_fine lines [] few full short = refl
cut_fine lines (byte ∷ bytes) few full short =
    let under : lines < 1000000 = ⊎_elim (λ same. absurd (cons-nil byte bytes (full same))) (λ other. omega arith) (cases_eq lines 1000000) in
    let a : ltb 1000000 (lines + 1) ≡ false = grind (arith, nat_tests) in
    let b : ltb 4096 (length (byte ∷ bytes)) ≡ false = grind (arith, nat_tests) in
    rw a (rw b refl)

-- the end of a text within the limits
pub ended_faults : (lines sections : ℕ) (inside : Bool) (line : List ℕ) → IsWithout 10 line
    → lines ≤ 1000000 → (lines ≡ 1000000 → line ≡ []) → length line ≤ 4096
    → faults_from lines sections inside (parts_of (line ++ [])) ≡ None
ended_faults lines sections inside line unfed few full short = rw (parts_of-alone line unfed) (cut_fine lines line few full short)

pub ended_kinds : (line : List ℕ) → IsWithout 10 line → map kind_of (whole_of (parts_of (line ++ []))) ≡ []
ended_kinds line unfed = rw (parts_of-alone line unfed) refl

-- the kinds behind a whole line
pub fed_kinds : (line fresh rest : List ℕ) → fresh ≡ []
    → map kind_of (whole_of (line ∷ parts_of rest)) ≡ kind_of line ∷ map kind_of (whole_of (parts_of (fresh ++ rest)))
fed_kinds line fresh rest empty =
    let found : HasFirst (parts_of rest) = first_part rest in
    rw empty (rw found.is refl)
