-- Rounds and skips, a log at a time; and nothing changes once all ops are done.
use Rattle.std.proofs.Common.{◌≡◌, ℕ, zero, suc, ◌+◌, ◌-◌, ◌<◌, ◌≤◌, true, List, [], ◌∷◌, length, take, map, get_or, Some, None, eqb, refl, sym, ap, ◌∙◌, arith, zero-add, add-zero}
use Rattle.std.specs.Prelude.{slice_get}
use Rattle.std.specs.Option.{option_map}
use Rattle.std.proofs.lemmas.Option.{slice_get-map}
use Rattle.std.proofs.lemmas.List.{length-map}
use Rattle.ng_plan.specs.declared.schedule.Schedule.{Schedule}
use Rattle.ng_plan.specs.declared.step.Step.{Step}
use Rattle.ng_plan.specs.Schedules.{AreTurns, DoneBelow, AllDone, IsFirstLeft, named_logs}
use Rattle.ng_plan.specs.Tables.{name_at, named}
use Rattle.ng_plan.proofs.TableLemmas.{eqb-same}
use Rattle.ng_plan.specs.Turns.{Turns, finish, go_on, next_step, round, round_from, rounds, skip, skip_from, turn}

-- one more log has its place in a round
pub round_more : (logs : List (List Step)) (i log : ℕ) (turns : Turns) → i < length logs → round_from log (take (i + 1) logs) turns ≡ turn (round_from log (take i logs) turns) (log + i) (get_or logs i [])
round_more [] i log turns within = absurd (omega arith)
round_more (steps ∷ logs) zero log turns within = ap (λ (at : ℕ). turn turns at steps) (sym (add-zero log))
round_more (steps ∷ logs) (suc i) log turns within =
    let next : suc i + 1 ≡ suc (i + 1) = omega arith in
    let at : log + 1 + i ≡ log + suc i = omega arith in
    let rest : round_from (log + 1) (take (i + 1) logs) (turn turns log steps) ≡ turn (round_from (log + 1) (take i logs) (turn turns log steps)) (log + 1 + i) (get_or logs i []) = round_more logs i (log + 1) (turn turns log steps) (omega arith) in
    rw next (rest ∙ ap (λ (n : ℕ). turn (round_from (log + 1) (take i logs) (turn turns log steps)) n (get_or logs i [])) at)

-- the steps of a log by names
pub named_at : (names : List ℕ) (logs : List (List Step)) (i : ℕ) → get_or (named_logs names logs) i [] ≡ map (named names) (get_or logs i [])
named_at names [] i = refl
named_at names (steps ∷ logs) zero = refl
named_at names (steps ∷ logs) (suc i) = named_at names logs i

-- no op is left from this log on
unfoldable pub NoneFrom : Turns → ℕ → List (List Step) → ℕ → Type 0
NoneFrom turns log logs upto = (i : ℕ) → i < upto → next_step turns (log + i) (get_or logs i []) ≡ None

later : (turns : Turns) (log : ℕ) (steps : List Step) (logs : List (List Step)) (upto : ℕ) → NoneFrom turns log (steps ∷ logs) (suc upto) → NoneFrom turns (log + 1) logs upto
unfolding NoneFrom
later turns log steps logs upto none = λ i below.
    let at : log + suc i ≡ log + 1 + i = omega arith in
    ap (λ (n : ℕ). next_step turns n (get_or logs i [])) (sym at) ∙ none (suc i) (omega arith)

here : (turns : Turns) (log : ℕ) (steps : List Step) (logs : List (List Step)) (upto : ℕ) → 0 < upto → NoneFrom turns log (steps ∷ logs) upto → next_step turns log steps ≡ None
unfolding NoneFrom
here turns log steps logs upto some none = ap (λ (n : ℕ). next_step turns n steps) (sym (add-zero log)) ∙ none 0 some

pub round_none : (logs : List (List Step)) (log : ℕ) (turns : Turns) → NoneFrom turns log logs (length logs) → round_from log logs turns ≡ turns
round_none [] log turns none = refl
round_none (steps ∷ logs) log turns none = rw (here turns log steps logs (suc (length logs)) (omega arith) none) (round_none logs (log + 1) turns (later turns log steps logs (length logs) none))

pub skip_none : (logs : List (List Step)) (log : ℕ) (turns : Turns) → NoneFrom turns log logs (length logs) → skip_from log logs turns ≡ turns
skip_none [] log turns none = refl
skip_none (steps ∷ logs) log turns none = rw (here turns log steps logs (suc (length logs)) (omega arith) none) (skip_none logs (log + 1) turns (later turns log steps logs (length logs) none))

skip_at : (logs : List (List Step)) (log i : ℕ) (turns : Turns) (step : Step) → i < length logs → NoneFrom turns log logs i → next_step turns (log + i) (get_or logs i []) ≡ Some step → skip_from log logs turns ≡ finish turns (log + i) step.posts
skip_at [] log i turns step within none next = absurd (omega arith)
skip_at (steps ∷ logs) log zero turns step within none next =
    let at : log + 0 ≡ log = add-zero log in
    rw at (rw (ap (λ (n : ℕ). next_step turns n steps) (sym at) ∙ next) refl)
skip_at (steps ∷ logs) log (suc i) turns step within none next =
    let at : log + suc i ≡ log + 1 + i = omega arith in
    rw at (rw (here turns log steps logs (suc i) (omega arith) none) (skip_at logs (log + 1) i turns step (omega arith) (later turns log steps logs i none) (ap (λ (n : ℕ). next_step turns n (get_or logs i [])) (sym at) ∙ next)))

-- what the schedule has left are the steps left by names
next_named : (names : List ℕ) (schedule : Schedule) (turns : Turns) (logs : List (List Step)) (log : ℕ) → AreTurns names schedule turns → next_step turns log (get_or (named_logs names logs) log []) ≡ option_map (named names) (slice_get (get_or logs log []) (get_or schedule.done.items log 0))
next_named names schedule turns logs log are =
    ap (λ (done : List ℕ). slice_get (get_or (named_logs names logs) log []) (get_or done log 0)) (sym are.done)
    ∙ ap (λ (steps : List Step). slice_get steps (get_or schedule.done.items log 0)) (named_at names logs log)
    ∙ slice_get-map (named names) (get_or logs log []) (get_or schedule.done.items log 0)

none_named : (names : List ℕ) (schedule : Schedule) (turns : Turns) (logs : List (List Step)) (upto : ℕ) → AreTurns names schedule turns → DoneBelow schedule logs upto → NoneFrom turns 0 (named_logs names logs) upto
unfolding NoneFrom
none_named names schedule turns logs upto are done = λ i below.
    rw (zero-add i) (next_named names schedule turns logs i are ∙ ap (option_map (named names)) (done.below i below))

-- the first log with ops left is the one that a skip does
pub skip_first : (names : List ℕ) (schedule : Schedule) (turns : Turns) (logs : List (List Step)) (log : ℕ) (step : Step) → AreTurns names schedule turns → IsFirstLeft schedule logs log step → skip (named_logs names logs) turns ≡ finish turns log (name_at names step.posts)
skip_first names schedule turns logs log step are first =
    let next : next_step turns log (get_or (named_logs names logs) log []) ≡ Some (named names step) = next_named names schedule turns logs log are ∙ ap (option_map (named names)) first.next in
    let long : length (named_logs names logs) ≡ length logs = length-map logs (map (named names)) in
    let within : log < length (named_logs names logs) = omega (arith, first.within) in
    let zero_at : 0 + log ≡ log = zero-add log in
    skip_at (named_logs names logs) 0 log turns (named names step) within (none_named names schedule turns logs log are first.before) (rw zero_at next) ∙ ap (λ (n : ℕ). finish turns n (name_at names step.posts)) zero_at

all_named : (names : List ℕ) (schedule : Schedule) (turns : Turns) (logs : List (List Step)) → AreTurns names schedule turns → AllDone schedule logs → NoneFrom turns 0 (named_logs names logs) (length (named_logs names logs))
all_named names schedule turns logs are done =
    let long : length (named_logs names logs) ≡ length logs = length-map logs (map (named names)) in
    rw long (none_named names schedule turns logs (length logs) are done)

-- a skip does nothing where no log has an op left
pub skip_done : (names : List ℕ) (schedule : Schedule) (turns : Turns) (logs : List (List Step)) → AreTurns names schedule turns → AllDone schedule logs → skip (named_logs names logs) turns ≡ turns
skip_done names schedule turns logs are done = skip_none (named_logs names logs) 0 turns (all_named names schedule turns logs are done)

-- nor does going on
pub go_on_done : (names : List ℕ) (schedule : Schedule) (turns : Turns) (logs : List (List Step)) → AreTurns names schedule turns → AllDone schedule logs → go_on (named_logs names logs) turns ≡ turns
go_on_done names schedule turns logs are done =
    let stays : round (named_logs names logs) turns ≡ turns = round_none (named_logs names logs) 0 turns (all_named names schedule turns logs are done) in
    let same : eqb (length turns.order) (length turns.order) ≡ true = eqb-same (length turns.order) (length turns.order) refl in
    rw stays (rw same (skip_done names schedule turns logs are done))

-- once more
pub rounds_more : (n : ℕ) (logs : List (List Step)) (turns : Turns) → rounds (n + 1) logs turns ≡ go_on logs (rounds n logs turns)
rounds_more zero logs turns = refl
rounds_more (suc n) logs turns =
    let next : suc n + 1 ≡ suc (n + 1) = omega arith in
    rw next (rounds_more n logs (go_on logs turns))

-- what stays once stays
pub rounds_stay : (n : ℕ) (logs : List (List Step)) (turns : Turns) → go_on logs turns ≡ turns → rounds n logs turns ≡ turns
rounds_stay zero logs turns stays = refl
rounds_stay (suc n) logs turns stays = ap (rounds n logs) stays ∙ rounds_stay n logs turns stays

rounds_add : (m n : ℕ) (logs : List (List Step)) (turns : Turns) → rounds (m + n) logs turns ≡ rounds n logs (rounds m logs turns)
rounds_add zero n logs turns = ap (λ (k : ℕ). rounds k logs turns) (zero-add n)
rounds_add (suc m) n logs turns =
    let next : suc m + n ≡ suc (m + n) = omega arith in
    rw next (rounds_add m n logs (go_on logs turns))

-- later times change nothing
pub rounds_end : (i total : ℕ) (logs : List (List Step)) (turns : Turns) → i ≤ total → go_on logs (rounds i logs turns) ≡ rounds i logs turns → rounds total logs turns ≡ rounds i logs turns
rounds_end i total logs turns before stays =
    let parts : total ≡ i + (total - i) = omega arith in
    ap (λ (k : ℕ). rounds k logs turns) parts ∙ rounds_add i (total - i) logs turns ∙ rounds_stay (total - i) logs (rounds i logs turns) stays

-- the place of one more log in a round, where the code has its steps
pub round_step : (names : List ℕ) (logs : List (List Step)) (i : ℕ) (turns : Turns) (steps : List Step) → i < length logs → steps ≡ get_or logs i [] → round_from 0 (take (i + 1) (named_logs names logs)) turns ≡ turn (round_from 0 (take i (named_logs names logs)) turns) i (map (named names) steps)
round_step names logs i turns steps within is =
    let long : length (named_logs names logs) ≡ length logs = length-map logs (map (named names)) in
    let so_far : Turns = round_from 0 (take i (named_logs names logs)) turns in
    round_more (named_logs names logs) i 0 turns (omega arith)
    ∙ ap (λ (n : ℕ). turn so_far n (get_or (named_logs names logs) i [])) (zero-add i)
    ∙ ap (turn so_far i) (named_at names logs i ∙ ap (map (named names)) (sym is))
