-- All turns come to an end with all ops done.
use Rattle.std.proofs.Common.{◌≡◌, ℕ, zero, suc, ◌+◌, ◌<◌, ◌≤◌, ◌⊎◌, Bool, true, false, List, [], ◌∷◌, ◌++◌, length, get_or, replicate, set, Option, Some, None, cond, eqb, refl, sym, ap, ◌∙◌, subst, arith, ⊎_elim, inl, inr, length-append, length-set, add-zero}
use Rattle.std.specs.Prelude.{slice_get, sum, sum_by}
use Rattle.std.proofs.lemmas.Bool.{cases_eq, cases_lt, false≢true}
use Rattle.std.proofs.lemmas.List.{length-replicate}
use Rattle.std.proofs.lemmas.List.Sums.{sum_by-cons, sum_by-set}
use Rattle.std.proofs.lemmas.Option.{slice_get-get_or}
use Rattle.ng_plan.specs.declared.step.Step.{Step}
use Rattle.ng_plan.specs.SoundTurns.{AreSound, turns_had}
use Rattle.ng_plan.specs.Turns.{Posted, Turns, earliest, finish, go_on, hand_off, next_step, round, round_from, rounds, skip, skip_from, skip_with, start, take_block, try_claim, turn, turn_with, turns_of}
use Rattle.ng_plan.proofs.RoundLemmas.{NoneFrom, round_none, rounds_stay, skip_none}
use Rattle.ng_plan.proofs.TableLemmas.{eqb-same}
use Rattle.ng_plan.proofs.TurnLemmas.{turns_sound}

true_false : true ≡ false → ⊥
true_false same = false≢true (sym same)

some_step : (step : Step) → Some step ≡ None → ⊥
some_step step same = cc

sum_zeros : (n : ℕ) → sum (replicate n 0) ≡ 0
sum_zeros zero = refl
sum_zeros (suc n) = sum_by-cons (λ (k : ℕ). k) 0 (replicate n 0) ∙ ap (λ (k : ℕ). 0 + k) (sum_zeros n)

-- a turn that counts as many as are done, and has this many places
record Counts (logs : ℕ) (turns : Turns) : Type 0 where
  long : length turns.done ≡ logs
  all : length turns.order ≡ sum turns.done

-- what came of the turns: they count still, and are not fewer
record Grows (logs : ℕ) (before turns : Turns) : Type 0 where
  counts : Counts logs turns
  more : length before.order ≤ length turns.order

finish_counts : (logs : ℕ) (turns : Turns) (log : ℕ) (posts : Option ℕ) → log < logs → Counts logs turns → Counts logs (finish turns log posts)
finish_counts logs turns log posts within counts =
    let longer : length (turns.order ++ log ∷ []) ≡ length turns.order + 1 = omega (arith, length-append {A = ℕ}) in
    let added : sum (set turns.done log (get_or turns.done log 0 + 1)) + get_or turns.done log 0 ≡ sum turns.done + (get_or turns.done log 0 + 1) = sum_by-set (λ (n : ℕ). n) turns.done log (get_or turns.done log 0 + 1) 0 (omega (arith, counts.long)) in
    record {
      long = omega (arith, length-set {A = ℕ}, counts.long);
      all = omega (arith, counts.all);
    }

finish_more : (turns : Turns) (log : ℕ) (posts : Option ℕ) → length (finish turns log posts).order ≡ length turns.order + 1
finish_more turns log posts = omega (arith, length-append {A = ℕ})

finish_grows : (logs : ℕ) (turns : Turns) (log : ℕ) (posts : Option ℕ) → log < logs → Counts logs turns → Grows logs turns (finish turns log posts)
finish_grows logs turns log posts within counts = record {
  counts = finish_counts logs turns log posts within counts;
  more = let one : length (finish turns log posts).order ≡ length turns.order + 1 = finish_more turns log posts in omega arith;
}

stays : (logs : ℕ) (turns : Turns) → Counts logs turns → Grows logs turns turns
stays logs turns counts = record { counts = counts; more = omega arith }

take_grows : (logs : ℕ) (turns : Turns) (log : ℕ) (step : Step) (found : Option Posted) → log < logs → Counts logs turns → Grows logs turns (take_block turns log step found)
take_grows logs turns log step None within counts = stays logs turns counts
take_grows logs turns log step (Some block) within counts =
    let grown : Grows logs (hand_off turns log block) (finish (hand_off turns log block) log step.posts) = finish_grows logs (hand_off turns log block) log step.posts within (record { long = counts.long; all = counts.all }) in
    record { counts = grown.counts; more = grown.more }

try_grows : (logs : ℕ) (turns : Turns) (log : ℕ) (step : Step) (claim : Option ℕ) → log < logs → Counts logs turns → Grows logs turns (try_claim turns log step claim)
try_grows logs turns log step None within counts = finish_grows logs turns log step.posts within counts
try_grows logs turns log step (Some name) within counts = take_grows logs turns log step (earliest name turns.posted) within counts

turn_grows : (logs : ℕ) (turns : Turns) (log : ℕ) (next : Option Step) → log < logs → Counts logs turns → Grows logs turns (turn_with turns log next)
turn_grows logs turns log None within counts = stays logs turns counts
turn_grows logs turns log (Some step) within counts = try_grows logs turns log step step.claims within counts

round_grows : (logs : ℕ) (rest : List (List Step)) (log : ℕ) (turns : Turns) → log + length rest ≡ logs → Counts logs turns → Grows logs turns (round_from log rest turns)
round_grows logs [] log turns are counts = stays logs turns counts
round_grows logs (steps ∷ rest) log turns are counts =
    let here : Grows logs turns (turn turns log steps) = turn_grows logs turns log (next_step turns log steps) (omega arith) counts in
    let after : Grows logs (turn turns log steps) (round_from (log + 1) rest (turn turns log steps)) = round_grows logs rest (log + 1) (turn turns log steps) (omega arith) here.counts in
    record { counts = after.counts; more = omega (arith, here.more, after.more) }

-- a skip does an op, or none is left
record Skips (logs : ℕ) (turns after : Turns) : Type 0 where
  counts : Counts logs after
  one : length after.order ≡ length turns.order + 1

skip_here : (logs : ℕ) (turns : Turns) (log : ℕ) (next : Option Step) (later : Turns) (Rest : Type 0) → log < logs → Counts logs turns → (next ≡ None → Rest ⊎ Skips logs turns later) → ((next ≡ None) × Rest) ⊎ Skips logs turns (skip_with turns log next later)
skip_here logs turns log (Some step) later Rest within counts rest = inr (record { counts = finish_counts logs turns log step.posts within counts; one = finish_more turns log step.posts })
skip_here logs turns log None later Rest within counts rest = ⊎_elim (λ none. inl (refl, none)) (λ skips. inr skips) (rest refl)

none_all : (turns : Turns) (log : ℕ) (steps : List Step) (rest : List (List Step)) → next_step turns log steps ≡ None → NoneFrom turns (log + 1) rest (length rest) → NoneFrom turns log (steps ∷ rest) (length (steps ∷ rest))
unfolding NoneFrom
none_all turns log steps rest here later zero below = ap (λ (n : ℕ). next_step turns n steps) (add-zero log) ∙ here
none_all turns log steps rest here later (suc i) below =
    let at : log + suc i ≡ log + 1 + i = omega arith in
    ap (λ (n : ℕ). next_step turns n (get_or rest i [])) at ∙ later i (omega arith)

none_of_none : (turns : Turns) (log : ℕ) → NoneFrom turns log [] 0
unfolding NoneFrom
none_of_none turns log = λ i below. absurd (omega arith)

skip_cases : (logs : ℕ) (rest : List (List Step)) (log : ℕ) (turns : Turns) → log + length rest ≡ logs → Counts logs turns → NoneFrom turns log rest (length rest) ⊎ Skips logs turns (skip_from log rest turns)
skip_cases logs [] log turns are counts = inl (none_of_none turns log)
skip_cases logs (steps ∷ rest) log turns are counts = ⊎_elim
    (λ none. inl (none_all turns log steps rest none.0 none.1))
    (λ skips. inr skips)
    (skip_here logs turns log (next_step turns log steps) (skip_from (log + 1) rest turns) (NoneFrom turns (log + 1) rest (length rest)) (omega arith) counts (λ none. skip_cases logs rest (log + 1) turns (omega arith) counts))

-- no op is left
NoneLeft : List (List Step) → Turns → Type 0
NoneLeft logs turns = NoneFrom turns 0 logs (length logs)

-- going on does an op, or none is left
record Goes (logs : ℕ) (turns after : Turns) : Type 0 where
  counts : Counts logs after
  more : length turns.order < length after.order

zero_long : (logs : List (List Step)) → 0 + length logs ≡ length logs
zero_long logs = omega arith

after_round : (logs : List (List Step)) (turns next : Turns) (same : Bool) → Grows (length logs) turns next → eqb (length next.order) (length turns.order) ≡ same → NoneLeft logs (cond same (skip logs next) next) ⊎ Goes (length logs) turns (cond same (skip logs next) next)
unfolding NoneLeft
after_round logs turns next false grown is = inr (record {
  counts = grown.counts;
  more = ⊎_elim
      (λ even. absurd (true_false (sym (eqb-same (length next.order) (length turns.order) even) ∙ is)))
      (λ other. omega (arith, grown.more))
      (cases_eq (length next.order) (length turns.order));
})
after_round logs turns next true grown is = ⊎_elim
    (λ none. inl (subst (λ (t : Turns). NoneFrom t 0 logs (length logs)) (sym (skip_none logs 0 next none)) none))
    (λ skips. inr (record { counts = skips.counts; more = let one : length (skip logs next).order ≡ length next.order + 1 = skips.one in omega (arith, grown.more) }))
    (skip_cases (length logs) logs 0 next (zero_long logs) grown.counts)

goes : (logs : List (List Step)) (turns : Turns) → Counts (length logs) turns → NoneLeft logs (go_on logs turns) ⊎ Goes (length logs) turns (go_on logs turns)
goes logs turns counts = after_round logs turns (round logs turns) (eqb (length (round logs turns).order) (length turns.order)) (round_grows (length logs) logs 0 turns (zero_long logs) counts) refl

none_stays : (logs : List (List Step)) (turns : Turns) → NoneLeft logs turns → go_on logs turns ≡ turns
unfolding NoneLeft
none_stays logs turns none =
    let same : eqb (length turns.order) (length turns.order) ≡ true = eqb-same (length turns.order) (length turns.order) refl in
    rw (round_none logs 0 turns none) (rw same (skip_none logs 0 turns none))

-- the rounds do an op each, or none is left
rounds_go : (n : ℕ) (logs : List (List Step)) (turns : Turns) → Counts (length logs) turns → NoneLeft logs (rounds n logs turns) ⊎ ((Counts (length logs) (rounds n logs turns)) × (length turns.order + n ≤ length (rounds n logs turns).order))
rounds_go zero logs turns counts = inr (counts, omega arith)
rounds_go (suc n) logs turns counts = ⊎_elim
    (λ none. inl (subst (NoneLeft logs) (sym (rounds_stay n logs (go_on logs turns) (none_stays logs (go_on logs turns) none))) none))
    (λ went. ⊎_elim
    (λ none. inl none)
    (λ more. inr (more.0, omega (arith, went.more, more.1)))
    (rounds_go n logs (go_on logs turns) went.counts))
    (goes logs turns counts)

sums_le : (done : List ℕ) (logs : List (List Step)) → length done ≡ length logs → ((log : ℕ) → log < length logs → get_or done log 0 ≤ length (get_or logs log [])) → sum done ≤ sum_by length logs
sums_le [] [] long few = omega arith
sums_le [] (steps ∷ logs) long few = absurd (omega arith)
sums_le (d ∷ done) [] long few = absurd (omega arith)
sums_le (d ∷ done) (steps ∷ logs) long few =
    let here : d ≤ length steps = few 0 (omega arith) in
    let rest : sum done ≤ sum_by length logs = sums_le done logs (omega arith) (λ k within. few (suc k) (omega arith)) in
    let left : sum_by length (steps ∷ logs) ≡ length steps + sum_by length logs = sum_by-cons length steps logs in
    let right : sum (d ∷ done) ≡ d + sum done = sum_by-cons (λ (n : ℕ). n) d done in
    omega arith

reached_at : (d : ℕ) (done : List ℕ) (steps : List Step) (logs : List (List Step)) → length steps ≤ d → ((log : ℕ) → log < length logs → length (get_or logs log []) ≤ get_or done log 0) → (log : ℕ) → log < length (steps ∷ logs) → length (get_or (steps ∷ logs) log []) ≤ get_or (d ∷ done) log 0
reached_at d done steps logs here rest zero below = here
reached_at d done steps logs here rest (suc log) below = rest log (omega arith)

-- what is not fewer in all is not fewer anywhere
all_reached : (done : List ℕ) (logs : List (List Step)) → length done ≡ length logs → ((log : ℕ) → log < length logs → get_or done log 0 ≤ length (get_or logs log [])) → sum_by length logs ≤ sum done → (log : ℕ) → log < length logs → length (get_or logs log []) ≤ get_or done log 0
all_reached [] [] long few total log below = absurd (omega arith)
all_reached [] (steps ∷ logs) long few total log below = absurd (omega arith)
all_reached (d ∷ done) [] long few total log below = absurd (omega arith)
all_reached (d ∷ done) (steps ∷ logs) long few total log below =
    let here : d ≤ length steps = few 0 (omega arith) in
    let rest : sum done ≤ sum_by length logs = sums_le done logs (omega arith) (λ k within. few (suc k) (omega arith)) in
    let left : sum_by length (steps ∷ logs) ≡ length steps + sum_by length logs = sum_by-cons length steps logs in
    let right : sum (d ∷ done) ≡ d + sum done = sum_by-cons (λ (n : ℕ). n) d done in
    reached_at d done steps logs (omega arith) (all_reached done logs (omega arith) (λ k within. few (suc k) (omega arith)) (omega arith)) log below

past : (steps : List Step) (op : ℕ) → slice_get steps op ≡ None → length steps ≤ op
past steps op none = ⊎_elim
    (λ below. absurd (some_step (get_or steps op (record { claims = None; posts = None })) (sym (slice_get-get_or steps op (record { claims = None; posts = None }) below) ∙ none)))
    (λ above. above)
    (cases_lt op (length steps))

none_reached : (logs : List (List Step)) (turns : Turns) → NoneLeft logs turns → (log : ℕ) → log < length logs → length (get_or logs log []) ≤ get_or turns.done log 0
unfolding NoneLeft NoneFrom
none_reached logs turns none log below =
    let at : 0 + log ≡ log = omega arith in
    past (get_or logs log []) (get_or turns.done log 0) (ap (λ (n : ℕ). next_step turns n (get_or logs log [])) (sym at) ∙ none log below)

start_counts : (logs : List (List Step)) → Counts (length logs) (start logs)
start_counts logs = record { long = length-replicate {A = ℕ} (length logs) 0; all = sym (sum_zeros (length logs)) }

reached : (logs : List (List Step)) (log : ℕ) → log < length logs → length (get_or logs log []) ≤ get_or (turns_of logs).done log 0
unfolding turns_of
reached logs log below =
    let sound : AreSound logs (turns_of logs) = turns_sound logs in
    ⊎_elim
    (λ none. none_reached logs (rounds (sum_by length logs) logs (start logs)) none log below)
    (λ more. all_reached (turns_of logs).done logs sound.long sound.few (omega (arith, more.0.all, more.1)) log below)
    (rounds_go (sum_by length logs) logs (start logs) (start_counts logs))

-- each log has as many turns as it has ops
pub all_turns_had : (logs : List (List Step)) (log : ℕ) → log < length logs → turns_had log (turns_of logs).order ≡ length (get_or logs log [])
all_turns_had logs log below =
    let sound : AreSound logs (turns_of logs) = turns_sound logs in
    let most : get_or (turns_of logs).done log 0 ≤ length (get_or logs log []) = sound.few log below in
    let least : length (get_or logs log []) ≤ get_or (turns_of logs).done log 0 = reached logs log below in
    sound.counted log below ∙ omega arith
