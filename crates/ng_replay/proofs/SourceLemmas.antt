-- Whose block an op takes, and where that stands.
use Rattle.std.proofs.Common.{◌≡◌, ◌⊎◌, ℕ, ◌<◌, ◌≤◌, Bool, true, false, eq-eqb, List, [], Option, Some, None, length, get_or, arith, refl, ap, sym, subst, inl, inr, ⊎_elim, ◌∙◌}
use Rattle.std.specs.Prelude.{Contains}
use Rattle.std.specs.Option.{option_and_then}
use Rattle.std.proofs.lemmas.Bool.{cases_Bool, cases_lt, eqb-true}
use Rattle.std.proofs.lemmas.List.{get_or_past}
use Rattle.std.proofs.lemmas.List.Elements.{All-get_or}
use Rattle.ng_plan.specs.declared.step.Place.{Place}
use Rattle.ng_plan.specs.Sound.{IsHandedOff, IsIn, IsNumbered, IsSound, TakesOwnOps, op_in, op_of_log}
use Rattle.ng_terms.specs.declared.plan.Op.{Op}
use Rattle.ng_terms.specs.declared.plan.Origin.{Origin}
use Rattle.ng_terms.specs.declared.plan.Origin.TheVariants.{Own, Claim, Skip}
use Rattle.ng_terms.specs.declared.plan.Plan.{Plan}
use Rattle.ng_terms.specs.declared.reply.Reply.{Reply}
use Rattle.ng_terms.specs.declared.reply.Reply.TheVariants.{Absent}
use Rattle.ng_terms.specs.Calls.{done_ops, handed_as, is_handed_as, origin_of, source_of, standing, standing_of_number}
use Rattle.ng_replay.specs.Serial.{IsServed, Takes, TakesFrom, reply_at, source_at, stands_at}
use Rattle.ng_replay.proofs.FoundLemmas.{StandsAt, done_ops-Contains, done_ops-place, find-none, find-only}

-- an op without a reply has no block
pub stands_at-unserved : (replies : List (List Reply)) (place : Place) → ¬ IsServed replies place → stands_at replies place ≡ None
stands_at-unserved replies place not_yet = ap standing (get_or_past (get_or replies place.log []) place.op Absent (omega arith))

is_handed_as-true : (number : ℕ) (op : Op) → 1 ≤ number → is_handed_as number op ≡ true → handed_as op ≡ Some number
is_handed_as-true number op some passes = by_number (handed_as op) refl
  where
    by_number : (handed : Option ℕ) → handed_as op ≡ handed → handed_as op ≡ Some number
    by_number None is = absurd (let same : 0 ≡ number = eqb-true 0 number (rw is at passes) in omega arith)
    by_number (Some other) is = is ∙ ap Some (eqb-true other number (rw is at passes))

is_handed_as-Some : (number : ℕ) (op : Op) → handed_as op ≡ Some number → is_handed_as number op ≡ true
is_handed_as-Some number op is = rw is (eq-eqb number number refl)

-- what stands under a number is what stands for its only maker
pub standing_of_number-maker : (plan : Plan) (replies : List (List Reply)) (number : ℕ) (maker : Place) → 1 ≤ number → IsIn plan maker → handed_as (op_in plan maker) ≡ Some number
    → ((place : Place) → IsIn plan place → handed_as (op_in plan place) ≡ Some number → place ≡ maker) → standing_of_number plan.logs replies number ≡ stands_at replies maker
standing_of_number-maker plan replies number maker some inside given only = ⊎_elim served unserved (cases_lt maker.op (length (get_or replies maker.log [])))
  where
    test : Op × Reply → Bool
    test done = is_handed_as number done.0

    one : (pair : Op × Reply) → Contains (done_ops plan.logs replies) pair → test pair ≡ true → (IsServed replies maker) × (pair ≡ (op_in plan maker, reply_at replies maker))
    one pair there passes =
        let stands : StandsAt plan.logs replies pair = done_ops-place plan.logs replies pair there in
        let place : Place = record { log = stands.log; op = stands.op } in
        let passing : is_handed_as number (op_in plan place) ≡ true = sym (ap test stands.is) ∙ passes in
        let same : place ≡ maker = only place (record { log = stands.log_in; op = stands.op_in }) (is_handed_as-true number (op_in plan place) some passing) in
        (subst (IsServed replies) same stands.served, stands.is ∙ ap (λ (p : Place). (op_in plan p, reply_at replies p)) same)

    served : IsServed replies maker → standing_of_number plan.logs replies number ≡ stands_at replies maker
    served done =
        ap (option_and_then (λ (pair : Op × Reply). standing pair.1))
        (find-only test (done_ops plan.logs replies) (op_in plan maker, reply_at replies maker) (done_ops-Contains plan.logs replies maker.log maker.op inside.log inside.op done) (is_handed_as-Some number (op_in plan maker) given)
        (λ pair there passes. (one pair there passes).1))

    unserved : length (get_or replies maker.log []) ≤ maker.op → standing_of_number plan.logs replies number ≡ stands_at replies maker
    unserved past =
        ap (option_and_then (λ (pair : Op × Reply). standing pair.1)) (find-none test (done_ops plan.logs replies) fails)
        ∙ sym (stands_at-unserved replies maker (λ done. omega arith))
      where
        fails : (pair : Op × Reply) → Contains (done_ops plan.logs replies) pair → test pair ≡ false
        fails pair there = ⊎_elim (λ passes. absurd (let done : maker.op < length (get_or replies maker.log []) = (one pair there passes).0 in omega arith)) (λ no. no) (cases_Bool (test pair))

-- an op takes the block of one maker, or none
abbrev pub HasSource : Plan → Place → Origin → Type 0
HasSource plan taker origin = ((maker : Place) × TakesFrom plan taker origin maker × ((replies : List (List Reply)) → source_of plan.logs replies taker.log origin ≡ stands_at replies maker))
    ⊎ ((replies : List (List Reply)) → source_of plan.logs replies taker.log origin ≡ None)

pub source-cases : (plan : Plan) → IsSound plan → (taker : Place) → IsIn plan taker → HasSource plan taker (origin_of (op_in plan taker))
source-cases plan sound taker inside = by_origin (origin_of (op_in plan taker)) refl
  where
    by_origin : (origin : Origin) → origin_of (op_in plan taker) ≡ origin → HasSource plan taker origin
    by_origin (Own op) is = inl (record { log = taker.log; op = op }, refl, λ replies. refl)
    by_origin (Claim number) is =
        let numbered : IsNumbered plan number = sound.taken taker number inside is in
        let handed : IsHandedOff plan number = sound.handed number numbered in
        inl (handed.maker, (handed.maker_in, handed.given), λ replies. standing_of_number-maker plan replies number handed.maker numbered.least handed.maker_in handed.given handed.only_maker)
    by_origin Skip is = inr (λ replies. refl)

-- the source of an op stays as long as what stands for its maker
pub source_at-same : (plan : Plan) → IsSound plan → (replies more : List (List Reply)) (taker : Place) → IsIn plan taker → ((maker : Place) → Takes plan taker maker → stands_at more maker ≡ stands_at replies maker)
    → source_at plan more taker ≡ source_at plan replies taker
source_at-same plan sound replies more taker inside same =
    ⊎_elim
    (λ (maker, takes, stands). stands more ∙ same maker takes ∙ sym (stands replies))
    (λ none. none more ∙ sym (none replies))
    (source-cases plan sound taker inside)

pub place-same : (a b : Place) → a.log ≡ b.log → a.op ≡ b.op → a ≡ b
place-same a b logs ops = ap (λ (l : ℕ). let p : Place = record { log = l; op = a.op } in p) logs ∙ ap (λ (o : ℕ). let p : Place = record { log = b.log; op = o } in p) ops

-- no two ops take one block
pub Takes-once : (plan : Plan) → IsSound plan → (a b maker : Place) → IsIn plan a → IsIn plan b → Takes plan a maker → Takes plan b maker → a ≡ b
Takes-once plan sound a b maker a_in b_in a_takes b_takes = by_origins (origin_of (op_in plan a)) (origin_of (op_in plan b)) refl refl a_takes b_takes
  where
    own : (i j : ℕ) → origin_of (op_in plan a) ≡ Own i → origin_of (op_in plan b) ≡ Own j → maker ≡ record { log = a.log; op = i } → maker ≡ record { log = b.log; op = j } → a ≡ b
    own i j a_is b_is from_a from_b =
        let logs : a.log ≡ b.log = sym (ap (λ (p : Place). p.log) from_a) ∙ ap (λ (p : Place). p.log) from_b in
        let ops : i ≡ j = sym (ap (λ (p : Place). p.op) from_a) ∙ ap (λ (p : Place). p.op) from_b in
        let takes : TakesOwnOps (get_or plan.logs a.log []) = All-get_or TakesOwnOps plan.logs a.log [] a_in.log sound.own in
        let inside : b.op < length (get_or plan.logs a.log []) = subst (λ (l : ℕ). b.op < length (get_or plan.logs l [])) (sym logs) b_in.op in
        let is : origin_of (op_of_log (get_or plan.logs a.log []) b.op) ≡ Own j = subst (λ (l : ℕ). origin_of (op_of_log (get_or plan.logs l []) b.op) ≡ Own j) (sym logs) b_is in
        place-same a b logs (takes.once a.op b.op i a_in.op inside a_is (is ∙ ap Own (sym ops)))

    -- a block of one's own isn't handed off
    clash : (place : Place) (i number : ℕ) → IsIn plan place → origin_of (op_in plan place) ≡ Own i → maker ≡ record { log = place.log; op = i } → handed_as (op_in plan maker) ≡ Some number → ⊥
    clash place i number inside is from given =
        let kept : handed_as (op_in plan (record { log = place.log; op = i })) ≡ None = sound.kept place i inside is in
        let same : handed_as (op_in plan maker) ≡ None = ap (λ (p : Place). handed_as (op_in plan p)) from ∙ kept in
        absurd (cc)

    claim : (m n : ℕ) → origin_of (op_in plan a) ≡ Claim m → origin_of (op_in plan b) ≡ Claim n → handed_as (op_in plan maker) ≡ Some m → handed_as (op_in plan maker) ≡ Some n → a ≡ b
    claim m n a_is b_is given again =
        let same : m ≡ n = cc in
        let handed : IsHandedOff plan m = sound.handed m (sound.taken a m a_in a_is) in
        handed.only_taker a a_in a_is ∙ sym (handed.only_taker b b_in (b_is ∙ ap Claim (sym same)))

    by_origins : (x y : Origin) → origin_of (op_in plan a) ≡ x → origin_of (op_in plan b) ≡ y → TakesFrom plan a x maker → TakesFrom plan b y maker → a ≡ b
    by_origins (Own i) (Own j) a_is b_is from_a from_b = own i j a_is b_is from_a from_b
    by_origins (Own i) (Claim n) a_is b_is from_a from_b = absurd (clash a i n a_in a_is from_a from_b.1)
    by_origins (Own i) Skip a_is b_is from_a from_b = absurd from_b
    by_origins (Claim m) (Own j) a_is b_is from_a from_b = absurd (clash b j m b_in b_is from_b from_a.1)
    by_origins (Claim m) (Claim n) a_is b_is from_a from_b = claim m n a_is b_is from_a.1 from_b.1
    by_origins (Claim m) Skip a_is b_is from_a from_b = absurd from_b
    by_origins Skip y a_is b_is from_a from_b = absurd from_a
