-- What holds between turns: at the start, one turn on, and at the end.
use Rattle.std.proofs.Common.{◌≡◌, ◌≢◌, ℕ, suc, ◌+◌, ◌-◌, ◌<◌, ◌≤◌, List, [], ◌∷◌, ◌++◌, Option, Some, None, length, get_or, take, arith, refl, ap, sym, subst, ⊎_elim, ◌∙◌}
use Rattle.std.specs.Prelude.{replicate}
use Rattle.std.specs.List.{AllZip}
use Rattle.std.proofs.Math.ListN.{set}
use Rattle.std.proofs.lemmas.Bool.{cases_eq, cases_lt}
use Rattle.std.proofs.lemmas.List.{get_or-replicate, get_or-set_other, get_or-set_same, get_or_append_left, get_or_past, get_or_push, length-replicate, length-set, length_push, take_all}
use Rattle.ng_plan.specs.declared.step.Place.{Place}
use Rattle.ng_plan.specs.Sound.{IsHandedOff, IsIn, IsNumbered, IsSound, op_in}
use Rattle.ng_plan.specs.SoundTurns.{turns_had}
use Rattle.ng_terms.specs.declared.plan.Op.{Op}
use Rattle.ng_terms.specs.declared.plan.Op.TheVariants.{Make}
use Rattle.ng_terms.specs.declared.plan.Origin.{Origin}
use Rattle.ng_terms.specs.declared.plan.Origin.TheVariants.{Own, Claim, Skip}
use Rattle.ng_terms.specs.declared.plan.Plan.{Plan}
use Rattle.ng_terms.specs.declared.reply.Mode.{Mode}
use Rattle.ng_terms.specs.declared.reply.Reply.{Reply}
use Rattle.ng_terms.specs.declared.reply.Reply.TheVariants.{Absent}
use Rattle.ng_terms.specs.Calls.{Fits, FitsOp, handed_as, origin_of, source_of, standing, standing_of_number}
use Rattle.ng_replay.specs.Serial.{AreServed, IsServed, IsVacant, Takes, TakesFrom, done_in, handed_after, handed_without, reply_at, row_after, row_without, source_at, source_with, stands_at, staying}
use Rattle.ng_replay.proofs.PassingLemmas.{handed_with-here, handed_with-other, handed_without-claimed, handed_without-none, handed_without-other, length-handed_with, length-handed_without, length-row_without, row_without-other}
use Rattle.ng_replay.proofs.PlaceLemmas.{Adds, Adds-push}
use Rattle.ng_replay.proofs.SourceLemmas.{Takes-once, place-same, source_at-same, standing_of_number-maker, stands_at-unserved}
use Rattle.ng_replay.proofs.TurnLemmas.{maker-first, turns_had-here, turns_had-next, turns_had-there, turns_had-within}

-- the place of a log's next op
abbrev pub next_place : List (List Reply) → ℕ → Place
next_place replies log = record { log = log; op = done_in replies log }

-- what lies ready of an op's own log, and under a number
pub ready-own : {plan : Plan} {mode : Mode} {turns : ℕ} {replies : List (List Reply)} {held : List (List (Option ℕ))} {handed : List (Option ℕ)}
    → AreServed plan mode turns replies held handed
    → (taker : Place) (op : ℕ) → IsIn plan taker → ¬ IsServed replies taker → origin_of (op_in plan taker) ≡ Own op
    → get_or (get_or held taker.log []) op None ≡ stands_at replies (record { log = taker.log; op = op })
ready-own {plan = plan} {replies = replies} {held = held} {handed = handed} served taker op inside not_yet is =
    subst (λ (o : Origin). source_with (get_or held taker.log []) handed o ≡ source_of plan.logs replies taker.log o) is (served.ready taker inside not_yet)

pub ready-claim : {plan : Plan} {mode : Mode} {turns : ℕ} {replies : List (List Reply)} {held : List (List (Option ℕ))} {handed : List (Option ℕ)}
    → AreServed plan mode turns replies held handed
    → (taker : Place) (number : ℕ) → IsIn plan taker → ¬ IsServed replies taker → origin_of (op_in plan taker) ≡ Claim number
    → get_or handed (number - 1) None ≡ standing_of_number plan.logs replies number
ready-claim {plan = plan} {replies = replies} {held = held} {handed = handed} served taker number inside not_yet is =
    subst (λ (o : Origin). source_with (get_or held taker.log []) handed o ≡ source_of plan.logs replies taker.log o) is (served.ready taker inside not_yet)

-- before the first turn
pub AreServed-start : (plan : Plan) (mode : Mode) → IsSound plan → (replies : List (List Reply)) (held : List (List (Option ℕ))) (handed : List (Option ℕ))
    → length replies ≡ length plan.logs → ((log : ℕ) → get_or replies log [] ≡ [])
    → length held ≡ length plan.logs → ((log : ℕ) → get_or held log [] ≡ []) → handed ≡ replicate (length plan.receivers) None
    → AreServed plan mode 0 replies held handed
AreServed-start plan mode sound replies held handed logs empty rows bare none = record {
  logs = logs;
  done = λ log below. nothing log;
  fit = λ place inside served. absurd (unserved place served);
  rows = rows;
  lined = λ log below. ap length (bare log) ∙ sym (nothing log);
  numbers = ap length none ∙ length-replicate (length plan.receivers) None;
  ready = λ taker inside not_yet. by_origin taker inside (origin_of (op_in plan taker)) refl;
  gone = λ taker number inside served is. absurd (unserved taker served);
}
  where
    nothing : (log : ℕ) → done_in replies log ≡ 0
    nothing log = ap length (empty log)

    unserved : (place : Place) → ¬ IsServed replies place
    unserved place served = absurd (omega (arith, nothing place.log))

    by_origin : (taker : Place) → IsIn plan taker → (origin : Origin) → origin_of (op_in plan taker) ≡ origin
        → source_with (get_or held taker.log []) handed origin ≡ source_of plan.logs replies taker.log origin
    by_origin taker inside (Own op) is =
        ap (λ (row : List (Option ℕ)). get_or row op None) (bare taker.log)
        ∙ sym (stands_at-unserved replies (record { log = taker.log; op = op }) (unserved (record { log = taker.log; op = op })))
    by_origin taker inside (Claim number) is =
        let numbered : IsNumbered plan number = sound.taken taker number inside is in
        let off : IsHandedOff plan number = sound.handed number numbered in
        ap (λ (h : List (Option ℕ)). get_or h (number - 1) None) none
        ∙ get_or-replicate (length plan.receivers) (number - 1) None None (omega (arith, numbered.least, numbered.most))
        ∙ sym (standing_of_number-maker plan replies number off.maker numbered.least off.maker_in off.given off.only_maker ∙ stands_at-unserved replies off.maker (unserved off.maker))
    by_origin taker inside Skip is = refl

-- what holds at each place holds of the lists side by side
pub AllZip-from_places : {X Y : Type 0} → (R : X → Y → Type 0) (xs : List X) (ys : List Y) (d : X) (e : Y) → length ys ≡ length xs
    → ((i : ℕ) → i < length xs → R (get_or xs i d) (get_or ys i e)) → AllZip R xs ys
AllZip-from_places R [] [] d e same each = tt
AllZip-from_places R [] (y ∷ ys) d e same each = absurd (omega arith)
AllZip-from_places R (x ∷ xs) [] d e same each = absurd (omega arith)
AllZip-from_places R (x ∷ xs) (y ∷ ys) d e same each = (each 0 (omega arith), AllZip-from_places R xs ys d e (omega arith) (λ i below. each (suc i) (omega arith)))

-- after the last turn, each op has its reply
long : (plan : Plan) (mode : Mode) → IsSound plan → (turns : ℕ) (replies : List (List Reply)) (held : List (List (Option ℕ))) (handed : List (Option ℕ))
    → length plan.order ≤ turns → AreServed plan mode turns replies held handed
    → (log : ℕ) → log < length plan.logs → done_in replies log ≡ length (get_or plan.logs log [])
long plan mode sound turns replies held handed all served log below = served.done log below ∙ ap (turns_had log) (take_all turns plan.order all) ∙ sound.turns log below

pub Fits-served : (plan : Plan) (mode : Mode) → IsSound plan → (turns : ℕ) (replies : List (List Reply)) (held : List (List (Option ℕ))) (handed : List (Option ℕ))
    → length plan.order ≤ turns → AreServed plan mode turns replies held handed → Fits plan mode replies
Fits-served plan mode sound turns replies held handed all served = record { logs = served.logs; ops = ops }
  where
    each : (log : ℕ) → log < length plan.logs → done_in replies log ≡ length (get_or plan.logs log [])
    each = long plan mode sound turns replies held handed all served

    ops : (log : ℕ) → log < length plan.logs
        → AllZip (λ (op : Op) (reply : Reply). FitsOp mode (source_of plan.logs replies log (origin_of op)) op reply) (get_or plan.logs log []) (get_or replies log [])
    ops log below =
        AllZip-from_places (λ (op : Op) (reply : Reply). FitsOp mode (source_of plan.logs replies log (origin_of op)) op reply) (get_or plan.logs log []) (get_or replies log []) (Make 0 0 None) Absent (each log below)
        (λ i inside. served.fit (record { log = log; op = i }) (record { log = below; op = inside }) (omega (arith, each log below)))

-- and nothing is under a number
pub none-left : (plan : Plan) (mode : Mode) → IsSound plan → (turns : ℕ) (replies : List (List Reply)) (held : List (List (Option ℕ))) (handed : List (Option ℕ))
    → length plan.order ≤ turns → AreServed plan mode turns replies held handed
    → (i : ℕ) → i < length handed → get_or handed i None ≡ None
none-left plan mode sound turns replies held handed all served i below =
    let numbered : IsNumbered plan (suc i) = record { least = omega arith; most = omega (arith, served.numbers) } in
    let off : IsHandedOff plan (suc i) = sound.handed (suc i) numbered in
    let at : suc i - 1 ≡ i = omega arith in
    subst (λ (k : ℕ). get_or handed k None ≡ None) at
    (served.gone off.taker (suc i) off.taker_in (omega (arith, off.taker_in.op, long plan mode sound turns replies held handed all served off.taker.log off.taker_in.log)) off.taken)

module _ {plan : Plan} {mode : Mode} {turn log : ℕ} {replies : List (List Reply)} {held : List (List (Option ℕ))} {handed : List (Option ℕ)} (sound : IsSound plan)
    (within : turn < length plan.order) (is : get_or plan.order turn 0 ≡ log) (log_in : log < length plan.logs)
    (served : AreServed plan mode turn replies held handed) where
  abbrev place : Place
  place = next_place replies log

  abbrev op : Op
  op = op_in plan place

  abbrev row : List (Option ℕ)
  row = get_or held log []

  -- a log that has a turn has an op left
  pub next-left : IsIn plan (next_place replies log)
  next-left =
      let most : turns_had log (take (turn + 1) plan.order) ≤ length (get_or plan.logs log []) = turns_had-within plan sound log (turn + 1) log_in in
      record { log = log_in; op = omega (arith, turns_had-here log plan.order turn within is, served.done log log_in) }

  -- an op that had its turn takes no block of this op
  apart : (taker : Place) → IsIn plan taker → taker.op < turns_had taker.log (take (turn + 1) plan.order) → ¬ Takes plan taker place
  apart taker taker_in had takes =
      let first : place.op < turns_had log (take turn plan.order) = maker-first plan sound turn taker place taker_in takes had in
      absurd (omega (arith, served.done log log_in))

  -- nor does one with a reply
  before-turn : (taker : Place) → IsIn plan taker → IsServed replies taker → taker.op < turns_had taker.log (take (turn + 1) plan.order)
  before-turn taker taker_in done =
      let next : turns_had taker.log (take turn plan.order) ≤ turns_had taker.log (take (turn + 1) plan.order) = (turns_had-next taker.log plan.order turn).0 in
      omega (arith, served.done taker.log taker_in.log)

  claims : (taker : Place) (number : ℕ) → origin_of (op_in plan taker) ≡ Claim number → handed_as op ≡ Some number → Takes plan taker place
  claims taker number claim given = subst (λ (o : Origin). TakesFrom plan taker o place) (sym claim) (next-left, given)

  -- nothing is under the number that the op is to hand off under
  before-vacant : (number : ℕ) → handed_as op ≡ Some number → get_or handed (number - 1) None ≡ None
  before-vacant number given =
      let numbered : IsNumbered plan number = sound.given place number next-left given in
      let off : IsHandedOff plan number = sound.handed number numbered in
      ready-claim served off.taker number off.taker_in (λ done. apart off.taker off.taker_in (before-turn off.taker off.taker_in done) (claims off.taker number off.taken given)) off.taken
      ∙ standing_of_number-maker plan replies number off.maker numbered.least off.maker_in off.given off.only_maker
      ∙ ap (stands_at replies) (sym (off.only_maker place next-left given))
      ∙ stands_at-unserved replies place (λ done. omega arith)

  pub next-vacant : IsVacant (handed_as (op_in plan (next_place replies log))) (handed_without (origin_of (op_in plan (next_place replies log))) handed)
  next-vacant number given = handed_without-none (origin_of op) handed (number - 1) (before-vacant number given)

  module _ (reply : Reply) where
    abbrev more : List (List Reply)
    more = set replies log (get_or replies log [] ++ reply ∷ [])

    abbrev rows : List (List (Option ℕ))
    rows = set held log (row_after op reply row)

    abbrev numbers : List (Option ℕ)
    numbers = handed_after op reply handed

    adds : Adds replies more place reply
    adds = Adds-push replies log reply (omega (arith, served.logs, log_in))

    turned : turns_had log (take (turn + 1) plan.order) ≡ done_in replies log + 1
    turned = turns_had-here log plan.order turn within is ∙ ap (λ n. n + 1) (sym (served.done log log_in))

    done-more : (other : ℕ) → other < length plan.logs → done_in more other ≡ turns_had other (take (turn + 1) plan.order)
    done-more other below =
        ⊎_elim
        (λ here. subst (λ (k : ℕ). done_in more k ≡ turns_had k (take (turn + 1) plan.order)) (sym here)
        (ap length (get_or-set_same replies log (get_or replies log [] ++ reply ∷ []) [] (omega (arith, served.logs, log_in))) ∙ length_push (get_or replies log []) reply ∙ sym turned))
        (λ there. ap length (get_or-set_other replies log other (get_or replies log [] ++ reply ∷ []) [] there) ∙ served.done other below ∙ sym (turns_had-there other plan.order turn within (λ same. there (sym same ∙ is))))
        (cases_eq other log)

    had : (taker : Place) → IsIn plan taker → IsServed more taker → taker.op < turns_had taker.log (take (turn + 1) plan.order)
    had taker taker_in done = subst (λ (n : ℕ). taker.op < n) (done-more taker.log taker_in.log) done

    source-more : (taker : Place) → IsIn plan taker → IsServed more taker → source_at plan more taker ≡ source_at plan replies taker
    source-more taker taker_in done =
        source_at-same plan sound replies more taker taker_in
        (λ maker takes. ap standing (adds.others maker (λ same. apart taker taker_in (had taker taker_in done) (subst (Takes plan taker) same takes))))

    fit-more : FitsOp mode (source_at plan replies place) op reply → (other : Place) → IsIn plan other → IsServed more other
        → FitsOp mode (source_at plan more other) (op_in plan other) (reply_at more other)
    fit-more fits other other_in now_served = ⊎_elim old new (adds.only other now_served)
      where
        old : IsServed replies other → FitsOp mode (source_at plan more other) (op_in plan other) (reply_at more other)
        old was = rw (source-more other other_in now_served) (rw (adds.others other (λ same. adds.new (subst (IsServed replies) same was))) (served.fit other other_in was))

        new : other ≡ place → FitsOp mode (source_at plan more other) (op_in plan other) (reply_at more other)
        new same = rw (source-more other other_in now_served) (subst (λ (p : Place). FitsOp mode (source_at plan replies p) (op_in plan p) (reply_at more p)) (sym same) (rw adds.here fits))

    row-lined : length row ≡ place.op
    row-lined = served.lined log log_in

    left-lined : length (row_without (origin_of op) row) ≡ place.op
    left-lined = length-row_without (origin_of op) row ∙ row-lined

    row-here : (other : ℕ) → other ≡ log → get_or rows other [] ≡ row_after op reply row
    row-here other here = ap (λ (l : ℕ). get_or rows l []) here ∙ get_or-set_same held log (row_after op reply row) [] (omega (arith, served.rows, log_in))

    lined-more : (other : ℕ) → other < length plan.logs → length (get_or rows other []) ≡ done_in more other
    lined-more other below =
        ⊎_elim
        (λ here. ap length (row-here other here) ∙ length_push (row_without (origin_of op) row) (staying (handed_as op) (standing reply)) ∙ ap (λ n. n + 1) left-lined ∙ sym turned
        ∙ ap (λ (l : ℕ). turns_had l (take (turn + 1) plan.order)) (sym here) ∙ sym (done-more other below))
        (λ there. ap length (get_or-set_other held log other (row_after op reply row) [] there) ∙ served.lined other below
        ∙ sym (ap length (get_or-set_other replies log other (get_or replies log [] ++ reply ∷ []) [] there)))
        (cases_eq other log)

    still : (taker : Place) → ¬ IsServed more taker → ¬ IsServed replies taker
    still taker not_yet done = not_yet (adds.kept taker done)

    away : (taker : Place) → ¬ IsServed more taker → taker ≢ place
    away taker not_yet same = not_yet (subst (IsServed more) (sym same) adds.served)

    -- what an op of the log is to take of its own lies ready
    own-more : (taker : Place) (o : ℕ) → IsIn plan taker → ¬ IsServed more taker → origin_of (op_in plan taker) ≡ Own o
        → get_or (get_or rows taker.log []) o None ≡ stands_at more (record { log = taker.log; op = o })
    own-more taker o taker_in not_yet own = ⊎_elim here there (cases_eq taker.log log)
      where
        maker : Place
        maker = record { log = taker.log; op = o }

        ready : get_or (get_or held taker.log []) o None ≡ stands_at replies maker
        ready = ready-own served taker o taker_in (still taker not_yet) own

        there : taker.log ≢ log → get_or (get_or rows taker.log []) o None ≡ stands_at more maker
        there other =
            ap (λ (r : List (Option ℕ)). get_or r o None) (get_or-set_other held log taker.log (row_after op reply row) [] other)
            ∙ ready ∙ sym (ap standing (adds.others maker (λ same. other (ap (λ (p : Place). p.log) same))))

        here : taker.log ≡ log → get_or (get_or rows taker.log []) o None ≡ stands_at more maker
        here same = ap (λ (r : List (Option ℕ)). get_or r o None) (row-here taker.log same) ∙ ⊎_elim below from (cases_lt o place.op)
          where
            end : Option ℕ
            end = staying (handed_as op) (standing reply)

            not_taken : origin_of op ≢ Own o
            not_taken taken =
                away taker not_yet (sym (Takes-once plan sound place taker maker next-left taker_in
                (subst (λ (x : Origin). TakesFrom plan place x maker) (sym taken) (place-same maker (record { log = log; op = o }) same refl))
                (subst (λ (x : Origin). TakesFrom plan taker x maker) (sym own) refl)))

            below : o < place.op → get_or (row_after op reply row) o None ≡ stands_at more maker
            below first =
                get_or_append_left (row_without (origin_of op) row) (end ∷ []) None o (omega (arith, left-lined))
                ∙ row_without-other (origin_of op) row o not_taken
                ∙ ap (λ (l : ℕ). get_or (get_or held l []) o None) (sym same)
                ∙ ready
                ∙ sym (ap standing (adds.others maker (λ at. let ops : o ≡ place.op = ap (λ (p : Place). p.op) at in omega arith)))

            from : place.op ≤ o → get_or (row_after op reply row) o None ≡ stands_at more maker
            from later = ⊎_elim last past (cases_eq o place.op)
              where
                last : o ≡ place.op → get_or (row_after op reply row) o None ≡ stands_at more maker
                last at =
                    let this : maker ≡ place = place-same maker place same at in
                    let kept : handed_as op ≡ None = subst (λ (p : Place). handed_as (op_in plan p) ≡ None) this (sound.kept taker o taker_in own) in
                    get_or_push (row_without (origin_of op) row) end None o (left-lined ∙ sym at)
                    ∙ ap (λ (g : Option ℕ). staying g (standing reply)) kept
                    ∙ sym (ap standing adds.here)
                    ∙ ap (stands_at more) (sym this)

                past : o ≢ place.op → get_or (row_after op reply row) o None ≡ stands_at more maker
                past beyond =
                    get_or_past (row_after op reply row) o None (omega (arith, left-lined, length_push (row_without (origin_of op) row) end))
                    ∙ sym (stands_at-unserved more maker (λ done. let none : done_in more taker.log ≡ done_in replies log + 1 = done-more taker.log taker_in.log ∙ ap (λ (l : ℕ). turns_had l (take (turn + 1) plan.order)) same ∙ turned in absurd (omega arith)))

    -- what stands under the number of another op stays
    stays : (number : ℕ) → IsNumbered plan number → handed_as op ≢ Some number
        → standing_of_number plan.logs more number ≡ standing_of_number plan.logs replies number
    stays number numbered other =
        let off : IsHandedOff plan number = sound.handed number numbered in
        standing_of_number-maker plan more number off.maker numbered.least off.maker_in off.given off.only_maker
        ∙ ap standing (adds.others off.maker (λ same. other (ap (λ (p : Place). handed_as (op_in plan p)) (sym same) ∙ off.given)))
        ∙ sym (standing_of_number-maker plan replies number off.maker numbered.least off.maker_in off.given off.only_maker)

    abbrev left : List (Option ℕ)
    left = handed_without (origin_of op) handed

    number-given : (number m : ℕ) → handed_as op ≢ Some number → handed_as op ≡ Some m → (1 ≤ m) × (m ≢ number)
    number-given number m other given = ((sound.given place m next-left given).least, λ same. other (given ∙ ap Some same))

    claim-more : (taker : Place) (number : ℕ) → IsIn plan taker → ¬ IsServed more taker → origin_of (op_in plan taker) ≡ Claim number
        → get_or numbers (number - 1) None ≡ standing_of_number plan.logs more number
    claim-more taker number taker_in not_yet claim = by_given (handed_as op) refl
      where
        numbered : IsNumbered plan number
        numbered = sound.taken taker number taker_in claim

        there : handed_as op ≢ Some number → get_or numbers (number - 1) None ≡ standing_of_number plan.logs more number
        there other =
            handed_with-other (handed_as op) (standing reply) left number numbered.least (λ m given. number-given number m other given)
            ∙ handed_without-other (origin_of op) handed number numbered.least
            (λ m claimed. (
              (sound.taken place m next-left claimed).least,
              λ same. away taker not_yet
                  (Takes-once plan sound taker place (sound.handed number numbered).maker taker_in next-left
                  (subst (λ (o : Origin). TakesFrom plan taker o (sound.handed number numbered).maker) (sym claim) ((sound.handed number numbered).maker_in, (sound.handed number numbered).given))
                  (subst (λ (o : Origin). TakesFrom plan place o (sound.handed number numbered).maker) (sym (claimed ∙ ap Claim same)) ((sound.handed number numbered).maker_in, (sound.handed number numbered).given))),
            ))
            ∙ ready-claim served taker number taker_in (still taker not_yet) claim
            ∙ sym (stays number numbered other)

        here : handed_as op ≡ Some number → get_or numbers (number - 1) None ≡ standing_of_number plan.logs more number
        here given =
            let off : IsHandedOff plan number = sound.handed number numbered in
            handed_with-here (handed_as op) (standing reply) left number given numbered.least (omega (arith, length-handed_without (origin_of op) handed, served.numbers, numbered.most))
            ∙ sym (ap standing adds.here)
            ∙ ap (stands_at more) (off.only_maker place next-left given)
            ∙ sym (standing_of_number-maker plan more number off.maker numbered.least off.maker_in off.given off.only_maker)

        by_given : (given : Option ℕ) → handed_as op ≡ given → get_or numbers (number - 1) None ≡ standing_of_number plan.logs more number
        by_given None none = there (λ same. absurd (let clash : None ≡ Some number = sym none ∙ same in cc))
        by_given (Some m) some =
            ⊎_elim
            (λ same. here (some ∙ ap Some same))
            (λ other. there (λ also. other (let one : Some m ≡ Some number = sym some ∙ also in cc)))
            (cases_eq m number)

    ready-more : (taker : Place) → IsIn plan taker → ¬ IsServed more taker
        → source_with (get_or rows taker.log []) numbers (origin_of (op_in plan taker)) ≡ source_at plan more taker
    ready-more taker taker_in not_yet = by_origin (origin_of (op_in plan taker)) refl
      where
        by_origin : (origin : Origin) → origin_of (op_in plan taker) ≡ origin
            → source_with (get_or rows taker.log []) numbers origin ≡ source_of plan.logs more taker.log origin
        by_origin (Own o) own = own-more taker o taker_in not_yet own
        by_origin (Claim number) claim = claim-more taker number taker_in not_yet claim
        by_origin Skip skip = refl

    gone-more : (taker : Place) (number : ℕ) → IsIn plan taker → IsServed more taker → origin_of (op_in plan taker) ≡ Claim number
        → get_or numbers (number - 1) None ≡ None
    gone-more taker number taker_in done claim =
        handed_with-other (handed_as op) (standing reply) left number numbered.least (λ m given. number-given number m other given)
        ∙ ⊎_elim old new (adds.only taker done)
      where
        numbered : IsNumbered plan number
        numbered = sound.taken taker number taker_in claim

        other : handed_as op ≢ Some number
        other given = apart taker taker_in (had taker taker_in done) (claims taker number claim given)

        old : IsServed replies taker → get_or left (number - 1) None ≡ None
        old was = handed_without-none (origin_of op) handed (number - 1) (served.gone taker number taker_in was claim)

        new : taker ≡ place → get_or left (number - 1) None ≡ None
        new same =
            handed_without-claimed (origin_of op) handed number (ap (λ (p : Place). origin_of (op_in plan p)) (sym same) ∙ claim) numbered.least
            (omega (arith, served.numbers, numbered.most))

    pub AreServed-more : FitsOp mode (source_at plan replies place) op reply → AreServed plan mode (turn + 1) more rows numbers
    AreServed-more fits = record {
      logs = length-set replies log (get_or replies log [] ++ reply ∷ []) ∙ served.logs;
      done = done-more;
      fit = fit-more fits;
      rows = length-set held log (row_after op reply row) ∙ served.rows;
      lined = lined-more;
      numbers = length-handed_with (handed_as op) (standing reply) left ∙ length-handed_without (origin_of op) handed ∙ served.numbers;
      ready = ready-more;
      gone = gone-more;
    }
