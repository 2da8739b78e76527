-- Tables by the numbers of names, one more line.
use Rattle.std.proofs.Common.{◌≡◌, ℕ, ◌+◌, ◌<◌, ◌≤◌, true, false, List, [], ◌∷◌, ◌++◌, length, Option, Some, None, eqb, get_or, set, sym, ap, ◌∙◌, arith, ⊎_elim, add-zero}
use Rattle.std.specs.Prelude.{Contains}
use Rattle.std.proofs.lemmas.Bool.{cases_eq, cases_lt}
use Rattle.std.proofs.lemmas.Bool.Decides.{nat_tests}
use Rattle.std.proofs.lemmas.List.{get_or_read, get_or-set_same, get_or-set_other}
use Rattle.ng_mtrace.specs.declared.log.Line.{Line}
use Rattle.ng_plan.specs.Mentions.{made, is_name, maker_then, maker_from, maker}
use Rattle.ng_plan.specs.Tables.{Rises, AreMakers, AreEnded}

-- one more line at the end
maker_from_push : (name number : ℕ) (before : Option ℕ) (lines : List Line) (line : Line) → maker_from name number before (lines ++ line ∷ []) ≡ maker_then name (number + length lines) line (maker_from name number before lines)
maker_from_push name number before [] line = ap (λ (k : ℕ). maker_then name k line before) (sym (add-zero number))
maker_from_push name number before (x ∷ lines) line =
    let count : (number + 1) + length lines ≡ number + length (x ∷ lines) = omega arith in
    maker_from_push name (number + 1) (maker_then name number x before) lines line ∙ ap (λ (k : ℕ). maker_then name k line (maker_from name number before (x ∷ lines))) count

-- the maker behind one more line
pub maker_push : (name : ℕ) (before : List Line) (line : Line) → maker name (before ++ line ∷ []) ≡ maker_then name (length before) line (maker name before)
maker_push name before line =
    let count : 0 + length before ≡ length before = omega arith in
    maker_from_push name 0 None before line ∙ ap (λ (k : ℕ). maker_then name k line (maker name before)) count

-- two places have one name only if they are one
pub apart : (names : List ℕ) (i j : ℕ) → Rises names → i < length names → j < length names → get_or names i 0 ≡ get_or names j 0 → i ≡ j
apart names i j rising within other same =
    ⊎_elim
    (λ below. let order : get_or names i 0 < get_or names j 0 = rising.order i j below other in absurd (omega arith))
    (λ above. ⊎_elim (λ equal. equal) (λ unequal. let order : get_or names j 0 < get_or names i 0 = rising.order j i (omega arith) within in absurd (omega arith)) (cases_eq i j))
    (cases_lt i j)

pub eqb-same : (a b : ℕ) → a ≡ b → eqb a b ≡ true
eqb-same a b same = grind (arith, nat_tests)

pub eqb-other : (a b : ℕ) → (a ≡ b → ⊥) → eqb a b ≡ false
eqb-other a b other = grind (arith, nat_tests)

-- the name of a place, and the names of the others
pub name_here : (names : List ℕ) (at i name : ℕ) → get_or names at 0 ≡ name → i ≡ at → is_name (get_or names i 0) (Some name) ≡ true
name_here names at i name is same = eqb-same name (get_or names i 0) (sym (ap (λ (k : ℕ). get_or names k 0) same ∙ is))

pub name_there : (names : List ℕ) (at i name : ℕ) → Rises names → at < length names → i < length names → get_or names at 0 ≡ name → (i ≡ at → ⊥) → is_name (get_or names i 0) (Some name) ≡ false
name_there names at i name rising within inside is other = eqb-other name (get_or names i 0) (λ same. other (apart names i at rising inside within (sym (is ∙ same))))

-- the table where a line made its name
pub makes_at : (names : List ℕ) (makers : List (Option ℕ)) (before : List Line) (line : Line) (at name : ℕ) → Rises names → length makers ≡ length names → at < length names → get_or names at 0 ≡ name → made line ≡ Some name → AreEnded names makers before line → AreMakers names (set makers at (Some (length before))) (before ++ line ∷ [])
makes_at names makers before line at name rising long within is makes table = record {
  each = λ i inside. rw (maker_push (get_or names i 0) before line) (rw makes (⊎_elim
      (λ same. rw (name_here names at i name is same) (rw same (get_or-set_same makers at (Some (length before)) None (omega arith))))
      (λ other. rw (name_there names at i name rising within inside is other) (get_or-set_other makers at i (Some (length before)) None other ∙ table.each i inside))
      (cases_eq i at)));
}

-- names that rise don't fall
pub flat : (names : List ℕ) → Rises names → (i j : ℕ) → i ≤ j → j < length names → get_or names i 0 ≤ get_or names j 0
flat names rising i j order within =
    ⊎_elim
    (λ same. let equal : get_or names i 0 ≡ get_or names j 0 = ap (λ (k : ℕ). get_or names k 0) same in omega arith)
    (λ other. let rise : get_or names i 0 < get_or names j 0 = rising.order i j (omega arith) within in omega arith)
    (cases_eq i j)

-- a name that is known is found
pub not_missing : (names : List ℕ) (name i : ℕ) → Contains names name → (i ≤ length names) × ((k : ℕ) → k < i → get_or names k 0 < name) × ((k : ℕ) → i ≤ k → k < length names → name < get_or names k 0) → ⊥
not_missing names name i known says =
    let at : ℕ = known.0 in
    let is : get_or names at 0 ≡ name = sym (get_or_read names at name known.1 (sym known.2) 0) in
    ⊎_elim
    (λ below. let less : get_or names at 0 < name = says.1 at below in absurd (omega arith))
    (λ above. let more : name < get_or names at 0 = says.2 at above known.1 in absurd (omega arith))
    (cases_lt at i)
