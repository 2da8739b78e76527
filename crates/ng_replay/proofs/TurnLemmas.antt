-- How many turns a log had, one turn on; and that a block's maker has its turn before its taker.
use Rattle.std.proofs.Common.{◌≡◌, ◌≢◌, ℕ, zero, suc, ◌+◌, ◌-◌, ◌<◌, ◌≤◌, eqb, eq-eqb, List, [], Some, length, get_or, take, arith, refl, ap, sym, subst, ⊎_elim, ◌∙◌}
use Rattle.std.proofs.lemmas.Bool.{cases_lt}
use Rattle.std.proofs.lemmas.Bool.Decides.{eqb_tells}
use Rattle.std.proofs.lemmas.List.{take_all}
use Rattle.std.proofs.lemmas.List.Elements.{All-get_or}
use Rattle.std.proofs.lemmas.List.Sums.{count_by_more_no, count_by_more_yes}
use Rattle.ng_plan.specs.declared.step.Place.{Place}
use Rattle.ng_plan.specs.Sound.{IsHandedOff, IsIn, IsSound, TakesOwnOps, op_in}
use Rattle.ng_plan.specs.SoundTurns.{turns_had}
use Rattle.ng_terms.specs.declared.plan.Origin.{Origin}
use Rattle.ng_terms.specs.declared.plan.Origin.TheVariants.{Own, Claim, Skip}
use Rattle.ng_terms.specs.declared.plan.Plan.{Plan}
use Rattle.ng_terms.specs.Calls.{handed_as, origin_of}
use Rattle.ng_replay.specs.Serial.{Takes, TakesFrom}

pub turns_had-here : (log : ℕ) (order : List ℕ) (t : ℕ) → t < length order → get_or order t 0 ≡ log → turns_had log (take (t + 1) order) ≡ turns_had log (take t order) + 1
turns_had-here log order t within is = count_by_more_yes (λ (other : ℕ). eqb other log) order t 0 within (eq-eqb (get_or order t 0) log is)

pub turns_had-there : (log : ℕ) (order : List ℕ) (t : ℕ) → t < length order → get_or order t 0 ≢ log → turns_had log (take (t + 1) order) ≡ turns_had log (take t order)
turns_had-there log order t within other =
    count_by_more_no (λ (l : ℕ). eqb l log) order t 0 within
    (⊎_elim (λ yes. absurd (other yes.1)) (λ no. no.0) (eqb_tells (get_or order t 0) log))

-- a turn gives a log at most one turn, and none past the last
pub turns_had-next : (log : ℕ) (order : List ℕ) (t : ℕ) → (turns_had log (take t order) ≤ turns_had log (take (t + 1) order)) × (turns_had log (take (t + 1) order) ≤ turns_had log (take t order) + 1)
turns_had-next log order t = ⊎_elim within past (cases_lt t (length order))
  where
    within : t < length order → (turns_had log (take t order) ≤ turns_had log (take (t + 1) order)) × (turns_had log (take (t + 1) order) ≤ turns_had log (take t order) + 1)
    within below =
        ⊎_elim
        (λ yes. let one : turns_had log (take (t + 1) order) ≡ turns_had log (take t order) + 1 = turns_had-here log order t below yes.1 in (omega arith, omega arith))
        (λ no. let none : turns_had log (take (t + 1) order) ≡ turns_had log (take t order) = turns_had-there log order t below no.1 in (omega arith, omega arith))
        (eqb_tells (get_or order t 0) log)

    past : length order ≤ t → (turns_had log (take t order) ≤ turns_had log (take (t + 1) order)) × (turns_had log (take (t + 1) order) ≤ turns_had log (take t order) + 1)
    past above =
        let same : turns_had log (take (t + 1) order) ≡ turns_had log (take t order) = ap (turns_had log) (take_all (t + 1) order (omega arith) ∙ sym (take_all t order above)) in
        (omega arith, omega arith)

pub turns_had-mono : (log : ℕ) (order : List ℕ) (s more : ℕ) → turns_had log (take s order) ≤ turns_had log (take (s + more) order)
turns_had-mono log order s zero = let at : s ≡ s + 0 = omega arith in subst (λ (n : ℕ). turns_had log (take s order) ≤ turns_had log (take n order)) at (omega arith)
turns_had-mono log order s (suc more) =
    let before : turns_had log (take s order) ≤ turns_had log (take (s + more) order) = turns_had-mono log order s more in
    let next : turns_had log (take (s + more) order) ≤ turns_had log (take (s + more + 1) order) = (turns_had-next log order (s + more)).0 in
    let at : s + more + 1 ≡ s + suc more = omega arith in
    subst (λ (n : ℕ). turns_had log (take s order) ≤ turns_had log (take n order)) at (omega arith)

pub turns_had-le : (log : ℕ) (order : List ℕ) (s t : ℕ) → s ≤ t → turns_had log (take s order) ≤ turns_had log (take t order)
turns_had-le log order s t before =
    let at : s + (t - s) ≡ t = omega arith in
    subst (λ (n : ℕ). turns_had log (take s order) ≤ turns_had log (take n order)) at (turns_had-mono log order s (t - s))

-- no log has more turns than ops
pub turns_had-within : (plan : Plan) → IsSound plan → (log t : ℕ) → log < length plan.logs → turns_had log (take t plan.order) ≤ length (get_or plan.logs log [])
turns_had-within plan sound log t within = ⊎_elim before past (cases_lt t (length plan.order))
  where
    all : turns_had log (take (length plan.order) plan.order) ≡ length (get_or plan.logs log [])
    all = ap (turns_had log) (take_all (length plan.order) plan.order (omega arith)) ∙ sound.turns log within

    before : t < length plan.order → turns_had log (take t plan.order) ≤ length (get_or plan.logs log [])
    before below = let most : turns_had log (take t plan.order) ≤ turns_had log (take (length plan.order) plan.order) = turns_had-le log plan.order t (length plan.order) (omega arith) in omega (arith, all)

    past : length plan.order ≤ t → turns_had log (take t plan.order) ≤ length (get_or plan.logs log [])
    past above = let same : turns_had log (take t plan.order) ≡ length (get_or plan.logs log []) = ap (turns_had log) (take_all t plan.order above) ∙ sound.turns log within in omega arith

-- after the taker's turn, the maker has had its own
pub maker-first : (plan : Plan) → IsSound plan → (t : ℕ) (taker maker : Place) → IsIn plan taker → Takes plan taker maker → taker.op < turns_had taker.log (take (t + 1) plan.order) → maker.op < turns_had maker.log (take t plan.order)
maker-first plan sound t taker maker inside takes turn = by_origin (origin_of (op_in plan taker)) refl takes
  where
    own : (op : ℕ) → origin_of (op_in plan taker) ≡ Own op → op < turns_had taker.log (take t plan.order)
    own op is =
        let own_ops : TakesOwnOps (get_or plan.logs taker.log []) = All-get_or TakesOwnOps plan.logs taker.log [] inside.log sound.own in
        let earlier : op < taker.op = own_ops.earlier taker.op op inside.op is in
        let next : turns_had taker.log (take (t + 1) plan.order) ≤ turns_had taker.log (take t plan.order) + 1 = (turns_had-next taker.log plan.order t).1 in
        omega arith

    claim : (number : ℕ) → origin_of (op_in plan taker) ≡ Claim number → IsIn plan maker → handed_as (op_in plan maker) ≡ Some number → maker.op < turns_had maker.log (take t plan.order)
    claim number is maker_in given =
        let handed : IsHandedOff plan number = sound.handed number (sound.taken taker number inside is) in
        let is_taker : taker ≡ handed.taker = handed.only_taker taker inside is in
        let is_maker : maker ≡ handed.maker = handed.only_maker maker maker_in given in
        let waits : turns_had taker.log (take handed.turns plan.order) ≤ taker.op = subst (λ (p : Place). turns_had p.log (take handed.turns plan.order) ≤ p.op) (sym is_taker) handed.waiting in
        let done : maker.op < turns_had maker.log (take handed.turns plan.order) = subst (λ (p : Place). p.op < turns_had p.log (take handed.turns plan.order)) (sym is_maker) handed.done in
        ⊎_elim
        (λ later. absurd (let more : turns_had taker.log (take (t + 1) plan.order) ≤ turns_had taker.log (take handed.turns plan.order) = turns_had-le taker.log plan.order (t + 1) handed.turns (omega arith) in omega arith))
        (λ by_now. let more : turns_had maker.log (take handed.turns plan.order) ≤ turns_had maker.log (take t plan.order) = turns_had-le maker.log plan.order handed.turns t by_now in omega arith)
        (cases_lt t handed.turns)

    by_origin : (origin : Origin) → origin_of (op_in plan taker) ≡ origin → TakesFrom plan taker origin maker → maker.op < turns_had maker.log (take t plan.order)
    by_origin (Own op) is from = subst (λ (p : Place). p.op < turns_had p.log (take t plan.order)) (sym from) (own op is)
    by_origin (Claim number) is from = claim number is from.0 from.1
    by_origin Skip is from = absurd from
