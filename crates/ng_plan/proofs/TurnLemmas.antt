-- All turns keep to the steps.
use Rattle.std.proofs.Common.{◌≡◌, ◌≢◌, ℕ, zero, suc, ◌+◌, ◌<◌, ◌≤◌, Bool, true, false, List, [], ◌∷◌, ◌++◌, length, take, get_or, set, replicate, Option, Some, None, cond, eqb, refl, sym, ap, ◌∙◌, subst, arith, ⊎_elim, add-zero, zero-add, length-set, length-append}
use Rattle.std.specs.Prelude.{All, sum_by}
use Rattle.std.proofs.lemmas.Bool.{cases_eq}
use Rattle.std.proofs.lemmas.List.{get_or-set_same, get_or-set_other, get_or-replicate, take-append-le, take_all, length-replicate}
use Rattle.std.proofs.lemmas.List.Elements.{All-append, All-cons, All-nil, All-push, All-weaker}
use Rattle.std.proofs.lemmas.List.Sums.{sum_by_push}
use Rattle.std.proofs.lemmas.Option.{get_or_from_slice_get, slice_get_within}
use Rattle.ng_plan.specs.declared.step.Place.{Place}
use Rattle.ng_plan.specs.declared.step.Step.{Step}
use Rattle.ng_plan.specs.SoundTurns.{step_at, turns_had, IsDone, IsPost, IsHandOff, AreApart, AreSound}
use Rattle.ng_plan.specs.Turns.{HandOff, Posted, Turns, earliest, finish, go_on, hand_off, next_place, next_step, posted_by, round, round_from, rounds, skip, skip_from, skip_with, start, take_block, try_claim, turn, turn_with, turns_of, without}
use Rattle.ng_plan.proofs.ApartLemmas.{earliest_all, handed_apart, posted_apart, without_all}
use Rattle.ng_plan.proofs.ScheduleLemmas.{earliest_named}
use Rattle.ng_plan.proofs.TableLemmas.{eqb-same, eqb-other}

-- one more turn
had_here : (log : ℕ) (order : List ℕ) → turns_had log (order ++ log ∷ []) ≡ turns_had log order + 1
had_here log order = sum_by_push (λ (other : ℕ). cond (eqb other log) 1 0) order log ∙ ap (λ (b : Bool). turns_had log order + cond b 1 0) (eqb-same log log refl)

had_there : (other log : ℕ) (order : List ℕ) → other ≢ log → turns_had other (order ++ log ∷ []) ≡ turns_had other order
had_there other log order apart = sum_by_push (λ (l : ℕ). cond (eqb l other) 1 0) order log ∙ ap (λ (b : Bool). turns_had other order + cond b 1 0) (eqb-other log other (λ same. apart (sym same))) ∙ add-zero (turns_had other order)

-- what is done stays done
still_done : (done : List ℕ) (log : ℕ) (place : Place) → IsDone done place → IsDone (set done log (get_or done log 0 + 1)) place
still_done done log place is = record {
  within = omega (arith, length-set {A = ℕ}, is.within);
  before = ⊎_elim
      (λ same. let now : get_or (set done log (get_or done log 0 + 1)) place.log 0 ≡ get_or done log 0 + 1 = rw same (get_or-set_same done log (get_or done log 0 + 1) 0 (subst (λ (n : ℕ). n < length done) same is.within)) in let was : get_or done place.log 0 ≡ get_or done log 0 = ap (λ (n : ℕ). get_or done n 0) same in omega (arith, is.before))
      (λ other. let now : get_or (set done log (get_or done log 0 + 1)) place.log 0 ≡ get_or done place.log 0 = get_or-set_other done log place.log (get_or done log 0 + 1) 0 other in omega (arith, is.before))
      (cases_eq place.log log);
}

-- the op of this turn is done
now_done : (done : List ℕ) (log : ℕ) → log < length done → IsDone (set done log (get_or done log 0 + 1)) (record { log = log; op = get_or done log 0 })
now_done done log within = record {
  within = omega (arith, length-set {A = ℕ});
  before = let now : get_or (set done log (get_or done log 0 + 1)) log 0 ≡ get_or done log 0 + 1 = get_or-set_same done log (get_or done log 0 + 1) 0 within in omega arith;
}

still_posted : (logs : List (List Step)) (done : List ℕ) (log : ℕ) (block : Posted) → IsPost logs done block → IsPost logs (set done log (get_or done log 0 + 1)) block
still_posted logs done log block is = record { maker = still_done done log block.maker is.maker; posts = is.posts }

still_handed : (logs : List (List Step)) (done order : List ℕ) (log : ℕ) (handoff : HandOff) → IsHandOff logs done order handoff → IsHandOff logs (set done log (get_or done log 0 + 1)) (order ++ log ∷ []) handoff
still_handed logs done order log handoff is =
    let front : take is.turns (order ++ log ∷ []) ≡ take is.turns order = take-append-le is.turns order (log ∷ []) is.within in
    record {
      name = is.name;
      posts = is.posts;
      claims = is.claims;
      maker = still_done done log handoff.maker is.maker;
      taker = still_done done log handoff.taker is.taker;
      turns = is.turns;
      within = let long : length (order ++ log ∷ []) ≡ length order + 1 = omega (arith, length-append {A = ℕ}) in omega (arith, is.within);
      made = subst (λ (ls : List ℕ). handoff.maker.op < turns_had handoff.maker.log ls) (sym front) is.made;
      untaken = subst (λ (ls : List ℕ). turns_had handoff.taker.log ls ≤ handoff.taker.op) (sym front) is.untaken;
    }

-- what the op of this turn posts
posts_own : (logs : List (List Step)) (done : List ℕ) (log : ℕ) (posts : Option ℕ) → log < length done → (step_at logs (record { log = log; op = get_or done log 0 })).posts ≡ posts → All (IsPost logs (set done log (get_or done log 0 + 1))) (posted_by (record { log = log; op = get_or done log 0 }) posts)
posts_own logs done log None within is = All-nil (IsPost logs (set done log (get_or done log 0 + 1)))
posts_own logs done log (Some name) within is =
    All-cons (IsPost logs (set done log (get_or done log 0 + 1))) (record { name = name; maker = record { log = log; op = get_or done log 0 } }) [] (record { maker = now_done done log within; posts = is }) (All-nil (IsPost logs (set done log (get_or done log 0 + 1))))

-- the next op of a log is done, with these blocks left and these hand-offs
finished : (logs : List (List Step)) (turns : Turns) (log : ℕ) (step : Step) → AreSound logs turns → log < length logs → next_step turns log (get_or logs log []) ≡ Some step → (posted : List Posted) (handoffs : List HandOff) → All (IsPost logs turns.done) posted → All (IsHandOff logs (set turns.done log (get_or turns.done log 0 + 1)) (turns.order ++ log ∷ [])) handoffs → AreApart posted handoffs → All (λ (h : HandOff). IsDone turns.done h.maker) handoffs → AreSound logs (finish (record turns { posted = posted; handoffs = handoffs }) log step.posts)
finished logs turns log step sound within next posted handoffs are_posted are_handed are_apart makers_done =
    let op : ℕ = get_or turns.done log 0 in
    let done : List ℕ = set turns.done log (op + 1) in
    let inside : log < length turns.done = omega (arith, sound.long) in
    let left : op < length (get_or logs log []) = slice_get_within (get_or logs log []) op step next in
    let here : step_at logs (next_place turns log) ≡ step = get_or_from_slice_get (get_or logs log []) op step (record { claims = None; posts = None }) next in
    record {
      long = omega (arith, length-set {A = ℕ}, sound.long);
      few = λ k below. ⊎_elim
          (λ same. let now : get_or done k 0 ≡ op + 1 = rw same (get_or-set_same turns.done log (op + 1) 0 inside) in let size : length (get_or logs k []) ≡ length (get_or logs log []) = ap (λ (n : ℕ). length (get_or logs n [])) same in omega arith)
          (λ other. let now : get_or done k 0 ≡ get_or turns.done k 0 = get_or-set_other turns.done log k (op + 1) 0 other in omega (arith, sound.few k below))
          (cases_eq k log);
      counted = λ k below. ⊎_elim
          (λ same. rw same (had_here log turns.order ∙ ap (λ (n : ℕ). n + 1) (sound.counted log within) ∙ sym (get_or-set_same turns.done log (op + 1) 0 inside)))
          (λ other. had_there k log turns.order other ∙ sound.counted k below ∙ sym (get_or-set_other turns.done log k (op + 1) 0 other))
          (cases_eq k log);
      order = All-push (λ (k : ℕ). k < length logs) turns.order log sound.order within;
      posted = All-append (IsPost logs done) posted (posted_by (next_place turns log) step.posts)
          (All-weaker (IsPost logs turns.done) (IsPost logs done) (still_posted logs turns.done log) posted are_posted)
          (posts_own logs turns.done log step.posts inside (ap (λ (s : Step). s.posts) here));
      handed = are_handed;
      apart = posted_apart turns.done log step.posts posted handoffs are_apart (All-weaker (IsPost logs turns.done) (λ (b : Posted). IsDone turns.done b.maker) (λ b post. post.maker) posted are_posted) makers_done;
    }

-- the next op of a log takes a block and is done
claimed_sound : (logs : List (List Step)) (turns : Turns) (log : ℕ) (step : Step) (name : ℕ) (block : Posted) → AreSound logs turns → log < length logs → next_step turns log (get_or logs log []) ≡ Some step → step.claims ≡ Some name → earliest name turns.posted ≡ Some block → AreSound logs (finish (hand_off turns log block) log step.posts)
claimed_sound logs turns log step name block sound within next claims found =
    let inside : log < length turns.done = omega (arith, sound.long) in
    let post : IsPost logs turns.done block = earliest_all (IsPost logs turns.done) name turns.posted block sound.posted found in
    let here : step_at logs (next_place turns log) ≡ step = get_or_from_slice_get (get_or logs log []) (get_or turns.done log 0) step (record { claims = None; posts = None }) next in
    let named : block.name ≡ name = earliest_named name turns.posted block found in
    let handoff : HandOff = record { maker = block.maker; taker = next_place turns log } in
    let whole : take (length turns.order) (turns.order ++ log ∷ []) ≡ turns.order = take-append-le (length turns.order) turns.order (log ∷ []) (omega arith) ∙ take_all (length turns.order) turns.order (omega arith) in
    let maker_had : turns_had block.maker.log turns.order ≡ get_or turns.done block.maker.log 0 = sound.counted block.maker.log (omega (arith, post.maker.within, sound.long)) in
    let taker_had : turns_had log turns.order ≡ get_or turns.done log 0 = sound.counted log within in
    finished logs turns log step sound within next (without block.name turns.posted) (turns.handoffs ++ handoff ∷ [])
    (without_all (IsPost logs turns.done) block.name turns.posted sound.posted)
    (All-append (IsHandOff logs (set turns.done log (get_or turns.done log 0 + 1)) (turns.order ++ log ∷ [])) turns.handoffs (handoff ∷ [])
    (All-weaker (IsHandOff logs turns.done turns.order) (IsHandOff logs (set turns.done log (get_or turns.done log 0 + 1)) (turns.order ++ log ∷ [])) (still_handed logs turns.done turns.order log) turns.handoffs sound.handed)
    (All-cons (IsHandOff logs (set turns.done log (get_or turns.done log 0 + 1)) (turns.order ++ log ∷ [])) handoff [] (record {
      name = name;
      posts = post.posts ∙ ap Some named;
      claims = ap (λ (s : Step). s.claims) here ∙ claims;
      maker = still_done turns.done log block.maker post.maker;
      taker = now_done turns.done log inside;
      turns = length turns.order;
      within = let long : length (turns.order ++ log ∷ []) ≡ length turns.order + 1 = omega (arith, length-append {A = ℕ}) in omega arith;
      made = subst (λ (ls : List ℕ). block.maker.op < turns_had block.maker.log ls) (sym whole) (subst (λ (n : ℕ). block.maker.op < n) (sym maker_had) post.maker.before);
      untaken = subst (λ (ls : List ℕ). turns_had log ls ≤ get_or turns.done log 0) (sym whole) (subst (λ (n : ℕ). n ≤ get_or turns.done log 0) (sym taker_had) (omega arith));
    }) (All-nil (IsHandOff logs (set turns.done log (get_or turns.done log 0 + 1)) (turns.order ++ log ∷ [])))))
    (handed_apart turns.done log name block turns.posted turns.handoffs named sound.apart found (All-weaker (IsHandOff logs turns.done turns.order) (λ (h : HandOff). IsDone turns.done h.taker) (λ h is. is.taker) turns.handoffs sound.handed))
    (All-append (λ (h : HandOff). IsDone turns.done h.maker) turns.handoffs (handoff ∷ []) (All-weaker (IsHandOff logs turns.done turns.order) (λ (h : HandOff). IsDone turns.done h.maker) (λ h is. is.maker) turns.handoffs sound.handed) (All-cons (λ (h : HandOff). IsDone turns.done h.maker) handoff [] post.maker (All-nil (λ (h : HandOff). IsDone turns.done h.maker))))

-- and without a block
finish_sound : (logs : List (List Step)) (turns : Turns) (log : ℕ) (step : Step) → AreSound logs turns → log < length logs → next_step turns log (get_or logs log []) ≡ Some step → AreSound logs (finish turns log step.posts)
finish_sound logs turns log step sound within next =
    finished logs turns log step sound within next turns.posted turns.handoffs sound.posted
    (All-weaker (IsHandOff logs turns.done turns.order) (IsHandOff logs (set turns.done log (get_or turns.done log 0 + 1)) (turns.order ++ log ∷ [])) (still_handed logs turns.done turns.order log) turns.handoffs sound.handed)
    sound.apart
    (All-weaker (IsHandOff logs turns.done turns.order) (λ (h : HandOff). IsDone turns.done h.maker) (λ h is. is.maker) turns.handoffs sound.handed)

take_sound : (logs : List (List Step)) (turns : Turns) (log : ℕ) (step : Step) (name : ℕ) (found : Option Posted) → AreSound logs turns → log < length logs → next_step turns log (get_or logs log []) ≡ Some step → step.claims ≡ Some name → earliest name turns.posted ≡ found → AreSound logs (take_block turns log step found)
take_sound logs turns log step name None sound within next claims found = sound
take_sound logs turns log step name (Some block) sound within next claims found = claimed_sound logs turns log step name block sound within next claims found

try_sound : (logs : List (List Step)) (turns : Turns) (log : ℕ) (step : Step) (claim : Option ℕ) → AreSound logs turns → log < length logs → next_step turns log (get_or logs log []) ≡ Some step → step.claims ≡ claim → AreSound logs (try_claim turns log step claim)
try_sound logs turns log step None sound within next claims = finish_sound logs turns log step sound within next
try_sound logs turns log step (Some name) sound within next claims = take_sound logs turns log step name (earliest name turns.posted) sound within next claims refl

turn_with_sound : (logs : List (List Step)) (turns : Turns) (log : ℕ) (next : Option Step) → AreSound logs turns → log < length logs → next_step turns log (get_or logs log []) ≡ next → AreSound logs (turn_with turns log next)
turn_with_sound logs turns log None sound within is = sound
turn_with_sound logs turns log (Some step) sound within is = try_sound logs turns log step step.claims sound within is refl

-- these are the logs from this one on
record AreFrom (logs : List (List Step)) (log : ℕ) (rest : List (List Step)) : Type 0 where
  long : log + length rest ≡ length logs
  each : (i : ℕ) → i < length rest → get_or rest i [] ≡ get_or logs (log + i) []

first_from : (logs : List (List Step)) (log : ℕ) (steps : List Step) (rest : List (List Step)) → AreFrom logs log (steps ∷ rest) → steps ≡ get_or logs log []
first_from logs log steps rest are = are.each 0 (omega arith) ∙ ap (λ (n : ℕ). get_or logs n []) (add-zero log)

rest_from : (logs : List (List Step)) (log : ℕ) (steps : List Step) (rest : List (List Step)) → AreFrom logs log (steps ∷ rest) → AreFrom logs (log + 1) rest
rest_from logs log steps rest are = record {
  long = omega (arith, are.long);
  each = λ i below. let at : log + suc i ≡ log + 1 + i = omega arith in are.each (suc i) (omega arith) ∙ ap (λ (n : ℕ). get_or logs n []) at;
}

round_sound : (logs : List (List Step)) (rest : List (List Step)) (log : ℕ) (turns : Turns) → AreFrom logs log rest → AreSound logs turns → AreSound logs (round_from log rest turns)
round_sound logs [] log turns are sound = sound
round_sound logs (steps ∷ rest) log turns are sound =
    let within : log < length logs = omega (arith, are.long) in
    let here : steps ≡ get_or logs log [] = first_from logs log steps rest are in
    round_sound logs rest (log + 1) (turn turns log steps) (rest_from logs log steps rest are)
    (subst (λ (ss : List Step). AreSound logs (turn turns log ss)) (sym here) (turn_with_sound logs turns log (next_step turns log (get_or logs log [])) sound within refl))

skip_with_sound : (logs : List (List Step)) (turns later : Turns) (log : ℕ) (next : Option Step) → AreSound logs turns → log < length logs → next_step turns log (get_or logs log []) ≡ next → AreSound logs later → AreSound logs (skip_with turns log next later)
skip_with_sound logs turns later log None sound within is other = other
skip_with_sound logs turns later log (Some step) sound within is other = finish_sound logs turns log step sound within is

skip_sound : (logs : List (List Step)) (rest : List (List Step)) (log : ℕ) (turns : Turns) → AreFrom logs log rest → AreSound logs turns → AreSound logs (skip_from log rest turns)
skip_sound logs [] log turns are sound = sound
skip_sound logs (steps ∷ rest) log turns are sound =
    let within : log < length logs = omega (arith, are.long) in
    let here : steps ≡ get_or logs log [] = first_from logs log steps rest are in
    subst (λ (ss : List Step). AreSound logs (skip_with turns log (next_step turns log ss) (skip_from (log + 1) rest turns))) (sym here)
    (skip_with_sound logs turns (skip_from (log + 1) rest turns) log (next_step turns log (get_or logs log [])) sound within refl (skip_sound logs rest (log + 1) turns (rest_from logs log steps rest are) sound))

all_from : (logs : List (List Step)) → AreFrom logs 0 logs
all_from logs = record { long = zero-add (length logs); each = λ i below. ap (λ (n : ℕ). get_or logs n []) (sym (zero-add i)) }

go_on_cases : (logs : List (List Step)) (turns : Turns) (same : Bool) → AreSound logs turns → AreSound logs (cond same (skip logs turns) turns)
go_on_cases logs turns true sound = skip_sound logs logs 0 turns (all_from logs) sound
go_on_cases logs turns false sound = sound

go_on_sound : (logs : List (List Step)) (turns : Turns) → AreSound logs turns → AreSound logs (go_on logs turns)
go_on_sound logs turns sound = go_on_cases logs (round logs turns) (eqb (length (round logs turns).order) (length turns.order)) (round_sound logs logs 0 turns (all_from logs) sound)

rounds_sound : (n : ℕ) (logs : List (List Step)) (turns : Turns) → AreSound logs turns → AreSound logs (rounds n logs turns)
rounds_sound zero logs turns sound = sound
rounds_sound (suc n) logs turns sound = rounds_sound n logs (go_on logs turns) (go_on_sound logs turns sound)

start_sound : (logs : List (List Step)) → AreSound logs (start logs)
start_sound logs = record {
  long = length-replicate {A = ℕ} (length logs) 0;
  few = λ log below. subst (λ (n : ℕ). n ≤ length (get_or logs log [])) (sym (get_or-replicate (length logs) log 0 0 below)) (omega arith);
  counted = λ log below. sym (get_or-replicate (length logs) log 0 0 below);
  order = All-nil (λ (log : ℕ). log < length logs);
  posted = All-nil (IsPost logs (replicate (length logs) 0));
  handed = All-nil (IsHandOff logs (replicate (length logs) 0) []);
  apart = record { blocks = tt; makers = tt; takers = tt; gone = All-nil (λ (h : HandOff). All (λ (b : Posted). h.maker ≢ b.maker) []) };
}

-- all turns keep to the steps
pub turns_sound : (logs : List (List Step)) → AreSound logs (turns_of logs)
unfolding turns_of
turns_sound logs = rounds_sound (sum_by length logs) logs (start logs) (start_sound logs)
