-- Own ops and steps by the places of their lines.
use Rattle.std.proofs.Common.{◌≡◌, ℕ, zero, suc, ◌+◌, ◌<◌, List, [], ◌∷◌, ◌++◌, length, take, drop, get_or, map, set, None, refl, sym, ap, ◌∙◌, arith, append_assoc, append-nil}
use Rattle.std.proofs.lemmas.List.{take_more, drop_more}
use Rattle.std.proofs.lemmas.List.Sums.{sum_by-cons}
use Rattle.std.specs.Prelude.{sum_by}
use Rattle.ng_mtrace.specs.declared.log.Line.{Line}
use Rattle.ng_mtrace.specs.declared.log.Line.TheVariants.{Make}
use Rattle.ng_plan.specs.declared.step.Step.{Step}
use Rattle.ng_plan.specs.Mentions.{own}
use Rattle.ng_plan.specs.Steps.{owns_behind, step_of, steps_behind, steps_of}
use Rattle.ng_plan.specs.Tables.{named}
use Rattle.ng_plan.proofs.MakerLemmas.{line_at}

pub length-owns : (before lines : List Line) → length (owns_behind before lines) ≡ length lines
length-owns before [] = refl
length-owns before (line ∷ lines) = let rest : length (owns_behind (before ++ line ∷ []) lines) ≡ length lines = length-owns (before ++ line ∷ []) lines in omega arith

-- the own op of a place
pub own_at : (before lines : List Line) (i : ℕ) → i < length lines → get_or (owns_behind before lines) i None ≡ own (before ++ take i lines) (line_at lines i)
own_at before [] i within = absurd (omega arith)
own_at before (line ∷ lines) zero within = ap (λ (ls : List Line). own ls line) (sym (append-nil before))
own_at before (line ∷ lines) (suc i) within = own_at (before ++ line ∷ []) lines i (omega arith) ∙ ap (λ (ls : List Line). own ls (line_at lines i)) (append_assoc before (line ∷ []) (take i lines))

-- the steps from a place on
pub steps_more : (lines : List Line) (i : ℕ) → i < length lines → steps_behind (take i lines) (drop i lines) ≡ step_of (take i lines) (line_at lines i) (drop (i + 1) lines) ∷ steps_behind (take (i + 1) lines) (drop (i + 1) lines)
steps_more lines i within =
    let here : drop i lines ≡ line_at lines i ∷ drop (i + 1) lines = drop_more lines i (Make 0 0) within in
    let more : take i lines ++ line_at lines i ∷ [] ≡ take (i + 1) lines = sym (take_more lines i (Make 0 0) within) in
    ap (steps_behind (take i lines)) here ∙ ap (λ (ls : List Line). step_of (take i lines) (line_at lines i) (drop (i + 1) lines) ∷ steps_behind ls (drop (i + 1) lines)) more

drop-set_here : (steps : List Step) (i : ℕ) (step : Step) → i < length steps → drop i (set steps i step) ≡ step ∷ drop (i + 1) steps
drop-set_here [] i step within = absurd (omega arith)
drop-set_here (s ∷ steps) zero step within = refl
drop-set_here (s ∷ steps) (suc i) step within =
    let next : suc i + 1 ≡ suc (i + 1) = omega arith in
    rw next (drop-set_here steps i step (omega arith))

-- the steps from a place on, where the one of the place is written
pub told_back : (names : List ℕ) (lines : List Line) (steps : List Step) (i : ℕ) (step : Step) → i < length lines → i < length steps → named names step ≡ step_of (take i lines) (line_at lines i) (drop (i + 1) lines) → map (named names) (drop (i + 1) steps) ≡ steps_behind (take (i + 1) lines) (drop (i + 1) lines) → map (named names) (drop i (set steps i step)) ≡ steps_behind (take i lines) (drop i lines)
told_back names lines steps i step within inside is told =
    ap (map (named names)) (drop-set_here steps i step inside) ∙ ap (λ (s : Step). s ∷ map (named names) (drop (i + 1) steps)) is ∙ ap (λ (ss : List Step). step_of (take i lines) (line_at lines i) (drop (i + 1) lines) ∷ ss) told ∙ sym (steps_more lines i within)

pub length-steps : (before lines : List Line) → length (steps_behind before lines) ≡ length lines
length-steps before [] = refl
length-steps before (line ∷ lines) =
    let rest : length (steps_behind (before ++ line ∷ []) lines) ≡ length lines = length-steps (before ++ line ∷ []) lines in
    omega arith

-- there are as many steps as lines
pub sum_steps : (logs : List (List Line)) → sum_by length (map steps_of logs) ≡ sum_by length logs
sum_steps [] = refl
sum_steps (lines ∷ logs) =
    let rest : sum_by length (map steps_of logs) ≡ sum_by length logs = sum_steps logs in
    let long : length (steps_of lines) ≡ length lines = length-steps [] lines in
    let left : sum_by length (map steps_of (lines ∷ logs)) ≡ length (steps_of lines) + sum_by length (map steps_of logs) = sum_by-cons length (steps_of lines) (map steps_of logs) in
    let right : sum_by length (lines ∷ logs) ≡ length lines + sum_by length logs = sum_by-cons length lines logs in
    omega arith
