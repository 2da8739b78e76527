-- The ops of a plan by their places: what they hand, claim and own.
use Rattle.std.proofs.Common.{◌≡◌, ℕ, zero, suc, ◌+◌, ◌<◌, ◌≤◌, Bool, true, false, List, [], ◌∷◌, ◌++◌, length, take, drop, get_or, Option, Some, None, cond, refl, sym, ap, ◌∙◌, subst, arith, add-zero, append_assoc, append-nil}
use Rattle.std.specs.Prelude.{is_some}
use Rattle.std.specs.Option.{option_and_then}
use Rattle.std.proofs.lemmas.List.{drop_more}
use Rattle.ng_mtrace.specs.declared.log.Line.{Line}
use Rattle.ng_mtrace.specs.declared.log.Line.TheVariants as line
use Rattle.ng_terms.specs.declared.plan.Origin.TheVariants.{Own, Claim, Skip}
use Rattle.ng_terms.specs.Calls.{handed_as, origin_of}
use Rattle.ng_plan.specs.declared.step.Step.{Step}
use Rattle.ng_plan.specs.Mentions.{claimed, ended, ends_next, handed, is_name, made, own}
use Rattle.ng_plan.specs.Plans.{op_of, ops_from, ops_of, origin}
use Rattle.ng_plan.specs.Steps.{step_of, steps_behind}
use Rattle.ng_plan.specs.Turns.{Turns}
use Rattle.ng_plan.proofs.MakerLemmas.{line_at}
use Rattle.ng_plan.proofs.TableLemmas.{eqb-same}

pub length-from : (turns : Turns) (log : ℕ) (logs : List (List Line)) → length (ops_from turns log logs) ≡ length logs
length-from turns log [] = refl
length-from turns log (lines ∷ logs) = let rest : length (ops_from turns (log + 1) logs) ≡ length logs = length-from turns (log + 1) logs in omega arith

-- the ops of one log of the plan
pub ops_at : (turns : Turns) (first : ℕ) (logs : List (List Line)) (k : ℕ) → k < length logs → get_or (ops_from turns first logs) k [] ≡ ops_of turns (first + k) (get_or logs k [])
ops_at turns first [] k within = absurd (omega arith)
ops_at turns first (lines ∷ logs) zero within = ap (λ (n : ℕ). ops_of turns n lines) (sym (add-zero first))
ops_at turns first (lines ∷ logs) (suc k) within =
    let at : first + 1 + k ≡ first + suc k = omega arith in
    ops_at turns (first + 1) logs k (omega arith) ∙ ap (λ (n : ℕ). ops_of turns n (get_or logs k [])) at

-- the step of a place
pub steps_at : (before lines : List Line) (i : ℕ) (step : Step) → i < length lines → get_or (steps_behind before lines) i step ≡ step_of (before ++ take i lines) (line_at lines i) (drop (i + 1) lines)
steps_at before [] i step within = absurd (omega arith)
steps_at before (line ∷ lines) zero step within = ap (λ (ls : List Line). step_of ls line lines) (sym (append-nil before))
steps_at before (line ∷ lines) (suc i) step within =
    let next : suc i + 1 ≡ suc (i + 1) = omega arith in
    rw next (steps_at (before ++ line ∷ []) lines i step (omega arith) ∙ ap (λ (ls : List Line). step_of ls (line_at lines i) (drop (i + 1) lines)) (append_assoc before (line ∷ []) (take i lines)))

none_some : (number : ℕ) → None ≡ Some number → ⊥
none_some number same = cc

some_same : (a b : ℕ) → Some a ≡ Some b → a ≡ b
some_same a b same = cc

-- an op that hands has the number that was given
pub given_is : (line : Line) (own taken given : Option ℕ) (number : ℕ) → handed_as (op_of line own taken given) ≡ Some number → given ≡ Some number
given_is (line.Make name size) own taken given number is = is
given_is (line.End name) own taken given number is = absurd (none_some number is)
given_is (line.Move old name size) own taken given number is = is

pub gives : (line : Line) (own taken given : Option ℕ) (name : ℕ) → made line ≡ Some name → handed_as (op_of line own taken given) ≡ given
gives (line.Make n size) own taken given name makes = refl
gives (line.End n) own taken given name makes = absurd (none_some name makes)
gives (line.Move old n size) own taken given name makes = refl

skip_claim : (number : ℕ) → Skip ≡ Claim number → ⊥
skip_claim number same = cc

own_claim : (op number : ℕ) → Own op ≡ Claim number → ⊥
own_claim op number same = cc

claim_same : (a b : ℕ) → Claim a ≡ Claim b → Some a ≡ Some b
claim_same a b same = cc

origin_claim : (own taken : Option ℕ) (number : ℕ) → origin own taken ≡ Claim number → taken ≡ Some number
origin_claim (Some op) taken number is = absurd (own_claim op number is)
origin_claim None (Some other) number is = claim_same other number is
origin_claim None None number is = absurd (skip_claim number is)

-- an op that claims has the number that was taken
pub taken_is : (line : Line) (own taken given : Option ℕ) (number : ℕ) → origin_of (op_of line own taken given) ≡ Claim number → taken ≡ Some number
taken_is (line.Make name size) own taken given number is = absurd (skip_claim number is)
taken_is (line.End name) own taken given number is = origin_claim own taken number is
taken_is (line.Move old name size) own taken given number is = origin_claim own taken number is

pub takes : (line : Line) (own taken given : Option ℕ) (name number : ℕ) → ended line ≡ Some name → own ≡ None → taken ≡ Some number → origin_of (op_of line own taken given) ≡ Claim number
takes (line.Make n size) own taken given name number ends none is = absurd (none_some name ends)
takes (line.End n) own taken given name number ends none is = ap (λ (o : Option ℕ). origin o taken) none ∙ ap (origin None) is
takes (line.Move old n size) own taken given name number ends none is = ap (λ (o : Option ℕ). origin o taken) none ∙ ap (origin None) is

-- what a claim says of its line
pub record Claims (before : List Line) (line : Line) (name : ℕ) : Type 0 where
  pub ends : ended line ≡ Some name
  pub none : own before line ≡ None

claims_with : (before : List Line) (line : Line) (name : ℕ) (o : Option ℕ) → own before line ≡ o → cond (is_some o) None (ended line) ≡ Some name → Claims before line name
claims_with before line name None own_is is = record { ends = is; none = own_is }
claims_with before line name (Some op) own_is is = absurd (none_some name is)

pub claims_of : (before : List Line) (line : Line) (name : ℕ) → claimed before line ≡ Some name → Claims before line name
claims_of before line name is = claims_with before line name (own before line) refl is

-- what a block that is handed says of its line
pub record Hands (line : Line) (after : List Line) (name : ℕ) : Type 0 where
  pub makes : made line ≡ Some name
  pub unended : ends_next name after ≡ false

hands_then : (line : Line) (after : List Line) (other name : ℕ) (ends : Bool) → made line ≡ Some other → ends_next other after ≡ ends → cond ends None (Some other) ≡ Some name → Hands line after name
hands_then line after other name true makes ends is = absurd (none_some name is)
hands_then line after other name false makes ends is =
    let same : other ≡ name = some_same other name is in
    record { makes = makes ∙ is; unended = subst (λ (n : ℕ). ends_next n after ≡ false) same ends }

hands_with : (line : Line) (after : List Line) (name : ℕ) (o : Option ℕ) → made line ≡ o → option_and_then (λ n. cond (ends_next n after) None (Some n)) o ≡ Some name → Hands line after name
hands_with line after name None makes is = absurd (none_some name is)
hands_with line after name (Some other) makes is = hands_then line after other name (ends_next other after) makes refl is

pub hands_of : (line : Line) (after : List Line) (name : ℕ) → handed line after ≡ Some name → Hands line after name
hands_of line after name is = hands_with line after name (made line) refl is

-- a name that no line mentions up to one that ends it is ended next
pub ended_next : (lines : List Line) (name n k : ℕ) → k + n < length lines → ((i : ℕ) → k ≤ i → i < k + n → is_name name (made (line_at lines i)) ≡ false) → ((i : ℕ) → k ≤ i → i < k + n → is_name name (ended (line_at lines i)) ≡ false) → ended (line_at lines (k + n)) ≡ Some name → ends_next name (drop k lines) ≡ true
ended_next lines name zero k within unmade unended ends =
    let at : k + 0 ≡ k = add-zero k in
    let here : is_name name (ended (line_at lines k)) ≡ true = ap (λ (i : ℕ). is_name name (ended (line_at lines i))) (sym at) ∙ ap (is_name name) ends ∙ eqb-same name name refl in
    rw (drop_more lines k (line.Make 0 0) (omega arith)) (rw here refl)
ended_next lines name (suc n) k within unmade unended ends =
    let at : k + suc n ≡ k + 1 + n = omega arith in
    let rest : ends_next name (drop (k + 1) lines) ≡ true = ended_next lines name n (k + 1) (omega arith) (λ i above below. unmade i (omega arith) (omega arith)) (λ i above below. unended i (omega arith) (omega arith)) (ap (λ (i : ℕ). ended (line_at lines i)) (sym at) ∙ ends) in
    rw (drop_more lines k (line.Make 0 0) (omega arith)) (rw (unended k (omega arith) (omega arith)) (rw (unmade k (omega arith) (omega arith)) rest))
