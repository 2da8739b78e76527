-- The plan of logs is sound: each block has one maker and at most one taker, and is made first.
use Rattle.std.proofs.Common.{◌≡◌, ℕ, ◌+◌, ◌-◌, ◌<◌, ◌≤◌, List, [], length, take, drop, map, get_or, true, Option, Some, None, refl, sym, ap, ◌∙◌, subst, arith, zero-add}
use Rattle.std.specs.Prelude.{All}
use Rattle.std.proofs.lemmas.Bool.{false≢true}
use Rattle.std.proofs.lemmas.List.{get_or-map, get_or_default, length-map}
use Rattle.ng_mtrace.specs.declared.log.Line.{Line}
use Rattle.ng_terms.specs.declared.plan.Op.{Op}
use Rattle.ng_terms.specs.declared.plan.Origin.TheVariants.{Own, Claim}
use Rattle.ng_terms.specs.Calls.{handed_as, origin_of}
use Rattle.ng_plan.specs.declared.step.Place.{Place}
use Rattle.ng_plan.specs.declared.step.Step.{Step}
use Rattle.ng_plan.specs.Mentions.{ended, ends_next, own}
use Rattle.ng_plan.specs.Plans.{number_of, ops_of, plan_of}
use Rattle.ng_plan.specs.Sound.{IsHandedOff, IsIn, IsNumbered, IsSound, TakesOwnOps, ended_name, made_name, op_in, op_of_log}
use Rattle.ng_plan.specs.SoundTurns.{AreSound, IsDone, IsHandOff, step_at}
use Rattle.ng_plan.specs.Steps.{step_of, steps_of}
use Rattle.ng_plan.specs.Turns.{HandOff, Turns, makers_of, takers_of, turns_of}
use Rattle.ng_plan.proofs.EndLemmas.{all_turns_had}
use Rattle.ng_plan.proofs.MakerLemmas.{IsMaker, line_at, maker_is}
use Rattle.ng_plan.proofs.NumberLemmas.{IsNumber, number_at, number_is}
use Rattle.ng_plan.proofs.OpLemmas.{length-ops, op_with}
use Rattle.ng_plan.proofs.OwnLemmas.{Owned, at_line, ended_line, made_line, owned_at, takes_own_ops}
use Rattle.ng_plan.proofs.PlaceLemmas.{Claims, Hands, claims_of, ended_next, given_is, gives, hands_of, length-from, ops_at, steps_at, taken_is, takes}
use Rattle.ng_plan.proofs.StepLemmas.{length-steps}
use Rattle.ng_plan.proofs.TurnLemmas.{turns_sound}

-- the turns of these logs
abbrev turns_in : List (List Line) → Turns
turns_in logs = turns_of (map steps_of logs)

abbrev lines_in : List (List Line) → Place → List Line
lines_in logs place = get_or logs place.log []

abbrev line_in : List (List Line) → Place → Line
line_in logs place = line_at (lines_in logs place) place.op

-- the place is that of a line
record InLines (logs : List (List Line)) (place : Place) : Type 0 where
  log : place.log < length logs
  op : place.op < length (lines_in logs place)

ops_here : (logs : List (List Line)) (log : ℕ) → log < length logs → get_or (plan_of logs).logs log [] ≡ ops_of (turns_in logs) log (get_or logs log [])
ops_here logs log within = ops_at (turns_in logs) 0 logs log within ∙ ap (λ (n : ℕ). ops_of (turns_in logs) n (get_or logs log [])) (zero-add log)

long_here : (logs : List (List Line)) (log : ℕ) → log < length logs → length (get_or (plan_of logs).logs log []) ≡ length (get_or logs log [])
long_here logs log within = ap length (ops_here logs log within) ∙ length-ops (turns_in logs) log [] (get_or logs log [])

in_lines : (logs : List (List Line)) (place : Place) → IsIn (plan_of logs) place → InLines logs place
in_lines logs place is =
    let logs_long : length (plan_of logs).logs ≡ length logs = length-from (turns_in logs) 0 logs in
    let within : place.log < length logs = omega (arith, is.log) in
    let long : length (get_or (plan_of logs).logs place.log []) ≡ length (lines_in logs place) = long_here logs place.log within in
    record { log = within; op = omega (arith, is.op) }

in_plan : (logs : List (List Line)) (place : Place) → InLines logs place → IsIn (plan_of logs) place
in_plan logs place is =
    let logs_long : length (plan_of logs).logs ≡ length logs = length-from (turns_in logs) 0 logs in
    let long : length (get_or (plan_of logs).logs place.log []) ≡ length (lines_in logs place) = long_here logs place.log is.log in
    record { log = omega (arith, is.log); op = omega (arith, is.op) }

-- the op of a place is that of its line
op_is : (logs : List (List Line)) (place : Place) → InLines logs place → op_in (plan_of logs) place ≡ op_with (turns_in logs) (take place.op (lines_in logs place)) (line_in logs place) place
op_is logs place is = ap (λ (ops : List Op). op_of_log ops place.op) (ops_here logs place.log is.log) ∙ at_line (turns_in logs) place.log (lines_in logs place) place.op is.op

steps_here : (logs : List (List Line)) (log : ℕ) → log < length logs → get_or (map steps_of logs) log [] ≡ steps_of (get_or logs log [])
steps_here logs log within = get_or-map steps_of logs log [] [] within

-- and so is its step
step_is : (logs : List (List Line)) (place : Place) → InLines logs place → step_at (map steps_of logs) place ≡ step_of (take place.op (lines_in logs place)) (line_in logs place) (drop (place.op + 1) (lines_in logs place))
step_is logs place is =
    ap (λ (steps : List Step). get_or steps place.op (record { claims = None; posts = None })) (steps_here logs place.log is.log)
    ∙ steps_at [] (lines_in logs place) place.op (record { claims = None; posts = None }) is.op

-- an op that is done has a line
done_in : (logs : List (List Line)) (place : Place) → IsDone (turns_in logs).done place → InLines logs place
done_in logs place is =
    let sound : AreSound (map steps_of logs) (turns_in logs) = turns_sound (map steps_of logs) in
    let logs_long : length (map steps_of logs) ≡ length logs = length-map logs steps_of in
    let within : place.log < length logs = omega (arith, is.within, sound.long) in
    let few : get_or (turns_in logs).done place.log 0 ≤ length (get_or (map steps_of logs) place.log []) = sound.few place.log (omega arith) in
    let long : length (get_or (map steps_of logs) place.log []) ≡ length (lines_in logs place) = ap length (steps_here logs place.log within) ∙ length-steps [] (lines_in logs place) in
    record { log = within; op = omega (arith, is.before) }

-- the number that a place hands off or takes under
given_number : (logs : List (List Line)) (place : Place) (number : ℕ) → InLines logs place → handed_as (op_in (plan_of logs) place) ≡ Some number → number_of (makers_of (turns_in logs)) place ≡ Some number
given_number logs place number within is =
    given_is (line_in logs place) (own (take place.op (lines_in logs place)) (line_in logs place)) (number_of (takers_of (turns_in logs)) place) (number_of (makers_of (turns_in logs)) place) number (sym (ap handed_as (op_is logs place within)) ∙ is)

taken_number : (logs : List (List Line)) (place : Place) (number : ℕ) → InLines logs place → origin_of (op_in (plan_of logs) place) ≡ Claim number → number_of (takers_of (turns_in logs)) place ≡ Some number
taken_number logs place number within is =
    taken_is (line_in logs place) (own (take place.op (lines_in logs place)) (line_in logs place)) (number_of (takers_of (turns_in logs)) place) (number_of (makers_of (turns_in logs)) place) number (sym (ap origin_of (op_is logs place within)) ∙ is)

no_handoff : HandOff
no_handoff = record { maker = record { log = 0; op = 0 }; taker = record { log = 0; op = 0 } }

-- the hand-off of a number
abbrev handoff_of : List (List Line) → ℕ → HandOff
handoff_of logs number = get_or (turns_in logs).handoffs (number - 1) no_handoff

numbered : (logs : List (List Line)) (number count : ℕ) → length (turns_in logs).handoffs ≡ count → 1 ≤ number → number < 1 + count → IsNumbered (plan_of logs) number
numbered logs number count long least most =
    let all : length (plan_of logs).receivers ≡ length (turns_in logs).handoffs = length-map (turns_in logs).handoffs (λ (h : HandOff). h.taker.log) in
    record { least = least; most = omega arith }

-- an op that hands off under a number is the maker of that hand-off
maker_of : (logs : List (List Line)) (place : Place) (number : ℕ) → InLines logs place → handed_as (op_in (plan_of logs) place) ≡ Some number → (IsNumbered (plan_of logs) number) × (place ≡ (handoff_of logs number).maker)
maker_of logs place number within is =
    let handoffs : List HandOff = (turns_in logs).handoffs in
    let n : IsNumber place (makers_of (turns_in logs)) 1 number = number_is place (makers_of (turns_in logs)) 1 number (given_number logs place number within is) in
    let long : length (makers_of (turns_in logs)) ≡ length handoffs = length-map handoffs (λ (h : HandOff). h.maker) in
    let inside : number - 1 < length handoffs = omega (arith, n.least, n.within) in
    (numbered logs number (length handoffs) refl n.least (omega (arith, n.within)), sym n.is ∙ get_or-map (λ (h : HandOff). h.maker) handoffs (number - 1) no_handoff place inside)

-- and one that claims it is its taker
taker_of : (logs : List (List Line)) (place : Place) (number : ℕ) → InLines logs place → origin_of (op_in (plan_of logs) place) ≡ Claim number → (IsNumbered (plan_of logs) number) × (place ≡ (handoff_of logs number).taker)
taker_of logs place number within is =
    let handoffs : List HandOff = (turns_in logs).handoffs in
    let n : IsNumber place (takers_of (turns_in logs)) 1 number = number_is place (takers_of (turns_in logs)) 1 number (taken_number logs place number within is) in
    let long : length (takers_of (turns_in logs)) ≡ length handoffs = length-map handoffs (λ (h : HandOff). h.taker) in
    let inside : number - 1 < length handoffs = omega (arith, n.least, n.within) in
    (numbered logs number (length handoffs) refl n.least (omega (arith, n.within)), sym n.is ∙ get_or-map (λ (h : HandOff). h.taker) handoffs (number - 1) no_handoff place inside)

handed_off : (logs : List (List Line)) (number : ℕ) → IsNumbered (plan_of logs) number → IsHandedOff (plan_of logs) number
handed_off logs number numbered_is =
    let turns : Turns = turns_in logs in
    let sound : AreSound (map steps_of logs) (turns_in logs) = turns_sound (map steps_of logs) in
    let all : length (plan_of logs).receivers ≡ length (turns_in logs).handoffs = length-map (turns_in logs).handoffs (λ (h : HandOff). h.taker.log) in
    let inside : number - 1 < length (turns_in logs).handoffs = omega (arith, numbered_is.least, numbered_is.most) in
    let maker : Place = (handoff_of logs number).maker in
    let taker : Place = (handoff_of logs number).taker in
    let is : IsHandOff (map steps_of logs) (turns_in logs).done (turns_in logs).order (handoff_of logs number) = sound.handed (number - 1) no_handoff inside in
    let maker_line : InLines logs maker = done_in logs maker is.maker in
    let taker_line : InLines logs taker = done_in logs taker is.taker in
    let hands : Hands (line_in logs maker) (drop (maker.op + 1) (lines_in logs maker)) is.name = hands_of (line_in logs maker) (drop (maker.op + 1) (lines_in logs maker)) is.name (sym (ap (λ (s : Step). s.posts) (step_is logs maker maker_line)) ∙ is.posts) in
    let claims : Claims (take taker.op (lines_in logs taker)) (line_in logs taker) is.name = claims_of (take taker.op (lines_in logs taker)) (line_in logs taker) is.name (sym (ap (λ (s : Step). s.claims) (step_is logs taker taker_line)) ∙ is.claims) in
    let count : 1 + (number - 1) ≡ number = omega (arith, numbered_is.least) in
    let given : number_of (makers_of (turns_in logs)) maker ≡ Some number = number_at (λ (h : HandOff). h.maker) (turns_in logs).handoffs (number - 1) 1 no_handoff sound.apart.makers inside ∙ ap Some count in
    let taken : number_of (takers_of (turns_in logs)) taker ≡ Some number = number_at (λ (h : HandOff). h.taker) (turns_in logs).handoffs (number - 1) 1 no_handoff sound.apart.takers inside ∙ ap Some count in
    record {
      maker = maker;
      taker = taker;
      maker_in = in_plan logs maker maker_line;
      taker_in = in_plan logs taker taker_line;
      given = ap handed_as (op_is logs maker maker_line) ∙ gives (line_in logs maker) _ _ _ is.name hands.makes ∙ given;
      taken = ap origin_of (op_is logs taker taker_line) ∙ takes (line_in logs taker) _ _ _ is.name number claims.ends claims.none taken;
      receiver = get_or-map (λ (h : HandOff). h.taker.log) (turns_in logs).handoffs (number - 1) no_handoff 0 inside;
      name = ap made_name (op_is logs maker maker_line) ∙ made_line (line_in logs maker) _ _ _ ∙ hands.makes ∙ sym (ap ended_name (op_is logs taker taker_line) ∙ ended_line (line_in logs taker) _ _ _ ∙ claims.ends);
      only_maker = λ place place_in gives_it. (maker_of logs place number (in_lines logs place place_in) gives_it).1;
      only_taker = λ place place_in gives_it. (taker_of logs place number (in_lines logs place place_in) gives_it).1;
      turns = is.turns;
      within = is.within;
      done = is.made;
      waiting = is.untaken;
    }

some_same : (a b : ℕ) → Some a ≡ Some b → a ≡ b
some_same a b same = cc

-- what is taken as an own block isn't handed off
own_kept : (logs : List (List Line)) (log i op : ℕ) (number : Option ℕ) → InLines logs (record { log = log; op = i }) → Owned (get_or logs log []) i op → handed_as (op_in (plan_of logs) (record { log = log; op = op })) ≡ number → number ≡ None
own_kept logs log i op None within owned is = refl
own_kept logs log i op (Some number) within owned is =
    let lines : List Line = get_or logs log [] in
    let inside : i < length lines = within.op in
    let m : IsMaker lines owned.name op i = maker_is lines owned.name op i (omega arith) owned.maker_is in
    let earlier : op < i = m.before in
    let place : Place = record { log = log; op = op } in
    let place_line : InLines logs place = record { log = within.log; op = omega arith } in
    let of : (IsNumbered (plan_of logs) number) × (place ≡ (handoff_of logs number).maker) = maker_of logs place number place_line is in
    let sound : AreSound (map steps_of logs) (turns_in logs) = turns_sound (map steps_of logs) in
    let all : length (plan_of logs).receivers ≡ length (turns_in logs).handoffs = length-map (turns_in logs).handoffs (λ (h : HandOff). h.taker.log) in
    let handoff : IsHandOff (map steps_of logs) (turns_in logs).done (turns_in logs).order (handoff_of logs number) = sound.handed (number - 1) no_handoff (omega (arith, of.0.least, of.0.most)) in
    let posts : (step_at (map steps_of logs) place).posts ≡ Some handoff.name = ap (λ (p : Place). (step_at (map steps_of logs) p).posts) of.1 ∙ handoff.posts in
    let hands : Hands (line_at lines op) (drop (op + 1) lines) handoff.name = hands_of (line_at lines op) (drop (op + 1) lines) handoff.name (sym (ap (λ (s : Step). s.posts) (step_is logs place place_line)) ∙ posts) in
    let same : owned.name ≡ handoff.name = some_same owned.name handoff.name (sym m.makes ∙ hands.makes) in
    let at : op + 1 + (i - (op + 1)) ≡ i = omega arith in
    let next : ends_next owned.name (drop (op + 1) lines) ≡ true = ended_next lines owned.name (i - (op + 1)) (op + 1) (omega arith) (λ k above below. m.unmade k (omega arith) (omega arith)) (λ k above below. m.unended k (omega arith) (omega arith)) (ap (λ (k : ℕ). ended (line_at lines k)) at ∙ owned.ends) in
    absurd (false≢true (sym hands.unended ∙ ap (λ (n : ℕ). ends_next n (drop (op + 1) lines)) (sym same) ∙ next))

-- the plan of logs is sound
pub plan_sound : (logs : List (List Line)) → IsSound (plan_of logs)
plan_sound logs =
    let logs_long : length (plan_of logs).logs ≡ length logs = length-from (turns_in logs) 0 logs in
    record {
      own = λ log ops within. subst TakesOwnOps (sym (get_or_default (plan_of logs).logs log ops [] within ∙ ops_here logs log (omega arith))) (takes_own_ops (turns_in logs) log (get_or logs log []));
      kept = λ place op place_in is.
          let line : InLines logs place = in_lines logs place place_in in
          let here : origin_of (op_of_log (ops_of (turns_in logs) place.log (lines_in logs place)) place.op) ≡ Own op = ap (λ (ops : List Op). origin_of (op_of_log ops place.op)) (sym (ops_here logs place.log line.log)) ∙ is in
          own_kept logs place.log place.op op (handed_as (op_in (plan_of logs) (record { log = place.log; op = op }))) line (owned_at (turns_in logs) place.log (lines_in logs place) place.op op line.op here) refl;
      turns = λ log within.
          let inside : log < length logs = omega arith in
          let steps_long : length (map steps_of logs) ≡ length logs = length-map logs steps_of in
          all_turns_had (map steps_of logs) log (omega arith) ∙ ap length (steps_here logs log inside) ∙ length-steps [] (get_or logs log []) ∙ sym (long_here logs log inside);
      order = subst (λ (n : ℕ). All (λ (log : ℕ). log < n) (turns_in logs).order) (length-map logs steps_of ∙ sym logs_long) (turns_sound (map steps_of logs)).order;
      given = λ place number place_in is. (maker_of logs place number (in_lines logs place place_in) is).0;
      taken = λ place number place_in is. (taker_of logs place number (in_lines logs place place_in) is).0;
      handed = λ number is. handed_off logs number is;
    }
