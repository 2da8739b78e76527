-- Logs and their lines, one more log.
use Rattle.std.proofs.Common.{◌≡◌, ℕ, zero, suc, ◌+◌, ◌<◌, ◌≤◌, List, [], ◌∷◌, ◌++◌, length, take, map, get_or, refl, sym, ap, ◌∙◌, subst, arith, add-zero, ⊎_elim}
use Rattle.std.specs.Prelude.{Contains, sum_by}
use Rattle.std.proofs.lemmas.Bool.{cases_eq}
use Rattle.std.proofs.lemmas.List.{get_or-map, get_or_default, length-map, map_more}
use Rattle.std.proofs.lemmas.List.Sums.{get_or-le-sum_by, sum_by_more}
use Rattle.ng_mtrace.specs.declared.log.Line.{Line}
use Rattle.ng_mtrace.specs.declared.log.Log.{Log}
use Rattle.ng_terms.specs.declared.plan.Op.{Op}
use Rattle.ng_terms.specs.declared.plan.Plan.{Plan}
use Rattle.ng_plan.specs.Plans.{lines_of, ops_from, ops_of, plan_with}
use Rattle.ng_plan.specs.Tables.{AreKnown}
use Rattle.ng_plan.specs.Turns.{HandOff, Turns, takers_of}
use Rattle.ng_plan.specs.declared.step.Place.{Place}
use Rattle.ng_plan.proofs.KnownLemmas.{still_known}

-- the lines of a log
pub lines_at : (logs : List Log) (i : ℕ) (log : Log) → i < length logs → get_or (lines_of logs) i [] ≡ (get_or logs i log).lines
lines_at logs i log within = get_or-map (λ (l : Log). l.lines) logs i log [] within

-- a log of these has at most as many lines as all
pub lines-le : (logs : List Log) (i : ℕ) (log : Log) → i < length logs → length (get_or logs i log).lines ≤ sum_by length (lines_of logs)
lines-le logs i log within =
    let long : length (lines_of logs) ≡ length logs = length-map logs (λ (l : Log). l.lines) in
    subst (λ (ls : List Line). length ls ≤ sum_by length (lines_of logs)) (lines_at logs i log within) (get_or-le-sum_by length (lines_of logs) i [] (omega arith))

-- the lines of one more log
pub lines_more : (logs : List Log) (i : ℕ) (log : Log) → i < length logs → sum_by length (take (i + 1) (lines_of logs)) ≡ sum_by length (take i (lines_of logs)) + length (get_or logs i log).lines
lines_more logs i log within =
    let long : length (lines_of logs) ≡ length logs = length-map logs (λ (l : Log). l.lines) in
    sum_by_more length (lines_of logs) i [] (omega arith) ∙ ap (λ (ls : List Line). sum_by length (take i (lines_of logs)) + length ls) (lines_at logs i log within)

-- something of the lines of one more log
pub mapped_more : {A : Type 0} (f : List Line → A) (logs : List Log) (i : ℕ) (log : Log) → i < length logs → map f (take (i + 1) (lines_of logs)) ≡ map f (take i (lines_of logs)) ++ f (get_or logs i log).lines ∷ []
mapped_more {A} f logs i log within =
    let long : length (lines_of logs) ≡ length logs = length-map logs (λ (l : Log). l.lines) in
    map_more f (lines_of logs) i [] (omega arith) ∙ ap (λ (ls : List Line). map f (take i (lines_of logs)) ++ f ls ∷ []) (lines_at logs i log within)

-- the same by its place
pub mapped_at : {A : Type 0} (f : List Line → A) (logs : List Log) (i : ℕ) (log : Log) (d : A) → i < length logs → get_or (map f (lines_of logs)) i d ≡ f (get_or logs i log).lines
mapped_at {A} f logs i log d within =
    let long : length (lines_of logs) ≡ length logs = length-map logs (λ (l : Log). l.lines) in
    get_or-map f (lines_of logs) i [] d (omega arith) ∙ ap f (lines_at logs i log within)

-- the logs up to one more are known
pub logs_known : (names more : List ℕ) (logs : List Log) (i : ℕ) (last : Log) → ((name : ℕ) → Contains names name → Contains more name) → ((k : ℕ) (log : Log) → k < i → AreKnown names (get_or logs k log)) → i < length logs → AreKnown more (get_or logs i last) → (k : ℕ) (log : Log) → k < i + 1 → AreKnown more (get_or logs k log)
logs_known names more logs i last kept known within here k log below = ⊎_elim
    (λ same. subst (λ (at : ℕ). AreKnown more (get_or logs at log)) (sym same) (subst (AreKnown more) (get_or_default logs i last log within) here))
    (λ other. λ at line inside. still_known names more (get_or (get_or logs k log).lines at line) kept (known k log (omega arith) at line inside))
    (cases_eq k i)

ops_from_more : (turns : Turns) (logs : List (List Line)) (i log : ℕ) → i < length logs → ops_from turns log (take (i + 1) logs) ≡ ops_from turns log (take i logs) ++ ops_of turns (log + i) (get_or logs i []) ∷ []
ops_from_more turns [] i log within = absurd (omega arith)
ops_from_more turns (lines ∷ logs) zero log within = ap (λ (n : ℕ). ops_of turns n lines ∷ []) (sym (add-zero log))
ops_from_more turns (lines ∷ logs) (suc i) log within =
    let next : suc i + 1 ≡ suc (i + 1) = omega arith in
    let at : log + 1 + i ≡ log + suc i = omega arith in
    rw next (ap (λ (os : List (List Op)). ops_of turns log lines ∷ os) (ops_from_more turns logs i (log + 1) (omega arith)) ∙ ap (λ (n : ℕ). ops_of turns log lines ∷ (ops_from turns (log + 1) (take i logs) ++ ops_of turns n (get_or logs i []) ∷ [])) at)

-- the ops of one more log
pub ops_more : (turns : Turns) (logs : List Log) (i : ℕ) (log : Log) → i < length logs → ops_from turns 0 (take (i + 1) (lines_of logs)) ≡ ops_from turns 0 (take i (lines_of logs)) ++ ops_of turns i (get_or logs i log).lines ∷ []
ops_more turns logs i log within =
    let long : length (lines_of logs) ≡ length logs = length-map logs (λ (l : Log). l.lines) in
    let at : 0 + i ≡ i = omega arith in
    ops_from_more turns (lines_of logs) i 0 (omega arith)
    ∙ ap (λ (n : ℕ). ops_from turns 0 (take i (lines_of logs)) ++ ops_of turns n (get_or (lines_of logs) i []) ∷ []) at
    ∙ ap (λ (ls : List Line). ops_from turns 0 (take i (lines_of logs)) ++ ops_of turns i ls ∷ []) (lines_at logs i log within)

map_twice : (handoffs : List HandOff) → map (λ (place : Place). place.log) (map (λ (h : HandOff). h.taker) handoffs) ≡ map (λ (h : HandOff). h.taker.log) handoffs
map_twice [] = refl
map_twice (h ∷ handoffs) = ap (λ (ls : List ℕ). h.taker.log ∷ ls) (map_twice handoffs)

-- the logs of the takers
pub receivers_are : (turns : Turns) (takers : List Place) → takers ≡ takers_of turns → map (λ (place : Place). place.log) takers ≡ map (λ (h : HandOff). h.taker.log) turns.handoffs
receivers_are turns takers are = ap (map (λ (place : Place). place.log)) are ∙ map_twice turns.handoffs

-- the whole plan from its parts
pub plan_is : (turns : Turns) (lines : List (List Line)) (ops : List (List Op)) (order receivers : List ℕ) → ops ≡ ops_from turns 0 lines → order ≡ turns.order → receivers ≡ map (λ (h : HandOff). h.taker.log) turns.handoffs → ◌≡◌ {A = Plan} (record { logs = ops; order = order; receivers = receivers }) (plan_with turns lines)
plan_is turns lines ops order receivers ops_are order_is receivers_are =
    let to_ops : ◌≡◌ {A = Plan} (record { logs = ops; order = order; receivers = receivers }) (record { logs = ops_from turns 0 lines; order = order; receivers = receivers }) = ap (λ (os : List (List Op)). record { logs = os; order = order; receivers = receivers }) ops_are in
    let to_order : ◌≡◌ {A = Plan} (record { logs = ops_from turns 0 lines; order = order; receivers = receivers }) (record { logs = ops_from turns 0 lines; order = turns.order; receivers = receivers }) = ap (λ (o : List ℕ). record { logs = ops_from turns 0 lines; order = o; receivers = receivers }) order_is in
    let to_all : ◌≡◌ {A = Plan} (record { logs = ops_from turns 0 lines; order = turns.order; receivers = receivers }) (plan_with turns lines) = ap (λ (r : List ℕ). record { logs = ops_from turns 0 lines; order = turns.order; receivers = r }) receivers_are in
    to_ops ∙ to_order ∙ to_all
