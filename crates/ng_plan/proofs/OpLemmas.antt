-- The ops of a log by the places of its lines.
use Rattle.std.proofs.Common.{◌≡◌, ℕ, zero, suc, ◌+◌, ◌<◌, List, [], ◌∷◌, ◌++◌, length, take, get_or, Option, None, refl, sym, ap, ◌∙◌, arith, add-zero, zero-add, append_assoc, append-nil, ⊎_elim, length-append}
use Rattle.std.proofs.lemmas.Bool.{cases_eq}
use Rattle.std.proofs.lemmas.List.{get_or_append_left, get_or_push, same_lists}
use Rattle.ng_mtrace.specs.declared.log.Line.{Line}
use Rattle.ng_terms.specs.declared.plan.Op.{Op}
use Rattle.ng_plan.specs.declared.step.Place.{Place}
use Rattle.ng_plan.specs.Mentions.{own}
use Rattle.ng_plan.specs.Numbers.{AreNumbers}
use Rattle.ng_plan.specs.Plans.{number_of, op_of, ops_behind, ops_of}
use Rattle.ng_plan.specs.Steps.{owns_of}
use Rattle.ng_plan.specs.Turns.{Turns, makers_of, takers_of}
use Rattle.ng_plan.proofs.MakerLemmas.{line_at}
use Rattle.ng_plan.proofs.StepLemmas.{own_at}

pub length-ops : (turns : Turns) (log : ℕ) (before lines : List Line) → length (ops_behind turns log before lines) ≡ length lines
length-ops turns log before [] = refl
length-ops turns log before (line ∷ lines) =
    let rest : length (ops_behind turns log (before ++ line ∷ []) lines) ≡ length lines = length-ops turns log (before ++ line ∷ []) lines in
    omega arith

-- the op of a line that has this place, behind these lines
abbrev pub op_with : Turns → List Line → Line → Place → Op
op_with turns before line place = op_of line (own before line) (number_of (takers_of turns) place) (number_of (makers_of turns) place)

-- the op of a place
pub op_at : (turns : Turns) (log : ℕ) (before lines : List Line) (k : ℕ) (d : Op) → k < length lines → get_or (ops_behind turns log before lines) k d ≡ op_with turns (before ++ take k lines) (line_at lines k) (record { log = log; op = length before + k })
op_at turns log before [] k d within = absurd (omega arith)
op_at turns log before (line ∷ lines) zero d within =
    ap (λ (ls : List Line). op_with turns ls line (record { log = log; op = length before })) (sym (append-nil before))
    ∙ ap (λ (n : ℕ). op_with turns (before ++ []) line (record { log = log; op = n })) (sym (add-zero (length before)))
op_at turns log before (line ∷ lines) (suc k) d within =
    let long : length (before ++ line ∷ []) + k ≡ length before + suc k = omega (arith, length-append {A = Line}) in
    op_at turns log (before ++ line ∷ []) lines k d (omega arith)
    ∙ ap (λ (ls : List Line). op_with turns ls (line_at lines k) (record { log = log; op = length (before ++ line ∷ []) + k })) (append_assoc before (line ∷ []) (take k lines))
    ∙ ap (λ (n : ℕ). op_with turns (before ++ take (suc k) (line ∷ lines)) (line_at lines k) (record { log = log; op = n })) long

-- one more op at the end
pub each_more : (ops : List Op) (o : Op) (count : ℕ) (goal : ℕ → Op) → length ops ≡ count → ((k : ℕ) (op : Op) → k < count → get_or ops k op ≡ goal k) → o ≡ goal count → (k : ℕ) (op : Op) → k < count + 1 → get_or (ops ++ o ∷ []) k op ≡ goal k
each_more ops o count goal long each last k op below = ⊎_elim
    (λ same. get_or_push ops o op k (long ∙ sym same) ∙ last ∙ ap goal (sym same))
    (λ other. get_or_append_left ops (o ∷ []) op k (omega arith) ∙ each k op (omega arith))
    (cases_eq k count)

-- the ops from the own ops and the numbers are those of the turns
pub ops_are : (turns : Turns) (log : ℕ) (lines : List Line) (owns taken given : List (Option ℕ)) (ops : List Op) → owns ≡ owns_of lines → length taken ≡ length lines → length given ≡ length lines → length ops ≡ length lines → ((k : ℕ) (op : Op) → k < length lines → get_or ops k op ≡ op_of (line_at lines k) (get_or owns k None) (get_or taken k None) (get_or given k None)) → AreNumbers (takers_of turns) 1 log taken → AreNumbers (makers_of turns) 1 log given → ops ≡ ops_of turns log lines
ops_are turns log lines owns taken given ops owns_are taken_long given_long long each takers makers =
    same_lists ops (ops_of turns log lines) (long ∙ sym (length-ops turns log [] lines))
    (λ k d within.
    let inside : k < length lines = omega arith in
    each k d inside
    ∙ ap (λ (o : Option ℕ). op_of (line_at lines k) o (get_or taken k None) (get_or given k None)) (ap (λ (os : List (Option ℕ)). get_or os k None) owns_are ∙ own_at [] lines k inside)
    ∙ ap (λ (t : Option ℕ). op_of (line_at lines k) (own (take k lines) (line_at lines k)) t (get_or given k None)) (takers.each k (omega arith))
    ∙ ap (λ (g : Option ℕ). op_of (line_at lines k) (own (take k lines) (line_at lines k)) (number_of (takers_of turns) (record { log = log; op = k })) g) (makers.each k (omega arith))
    ∙ ap (λ (n : ℕ). op_with turns (take k lines) (line_at lines k) (record { log = log; op = n })) (sym (zero-add k))
    ∙ sym (op_at turns log [] lines k d inside))

-- without hand-offs no op has a number
pub own_ops_are : (turns : Turns) (log : ℕ) (lines : List Line) (owns : List (Option ℕ)) (ops : List Op) → owns ≡ owns_of lines → length ops ≡ length lines → ((k : ℕ) (op : Op) → k < length lines → get_or ops k op ≡ op_of (line_at lines k) (get_or owns k None) None None) → takers_of turns ≡ [] → makers_of turns ≡ [] → ops ≡ ops_of turns log lines
own_ops_are turns log lines owns ops owns_are long each takers makers =
    same_lists ops (ops_of turns log lines) (long ∙ sym (length-ops turns log [] lines))
    (λ k d within.
    let inside : k < length lines = omega arith in
    let place : Place = record { log = log; op = k } in
    each k d inside
    ∙ ap (λ (o : Option ℕ). op_of (line_at lines k) o None None) (ap (λ (os : List (Option ℕ)). get_or os k None) owns_are ∙ own_at [] lines k inside)
    ∙ ap (λ (places : List Place). op_of (line_at lines k) (own (take k lines) (line_at lines k)) (number_of places place) None) (sym takers)
    ∙ ap (λ (places : List Place). op_of (line_at lines k) (own (take k lines) (line_at lines k)) (number_of (takers_of turns) place) (number_of places place)) (sym makers)
    ∙ ap (λ (n : ℕ). op_with turns (take k lines) (line_at lines k) (record { log = log; op = n })) (sym (zero-add k))
    ∙ sym (op_at turns log [] lines k d inside))
