-- What all workers leave once they have done their ops.
use Rattle.std.proofs.Common.{◌≡◌, ℕ, ◌-◌, ◌<◌, ◌≤◌, true, List, [], Option, Some, None, length, get_or, map, vec_len, arith, refl, ap, sym, subst, ◌∙◌}
use Rattle.std.specs.Prelude.{Contains, count_by}
use Rattle.std.specs.List.{AllZip, list_any}
use Rattle.std.proofs.lemmas.List.{get_or-map, length-map}
use Rattle.ng_plan.specs.declared.step.Place.{Place}
use Rattle.ng_plan.specs.Sound.{IsHandedOff, IsIn, IsNumbered, IsSound, op_in, op_of_log}
use Rattle.ng_post.specs.declared.boxes.Boxes.{Boxes}
use Rattle.ng_post.specs.declared.boxes.Door.{Door}
use Rattle.ng_post.specs.Doors.{AreDoorsOf}
use Rattle.ng_post.specs.Ends.{AreCollected, AreHandedOver, ArePostedOnce, is_of}
use Rattle.ng_post.specs.Letters.{Pair}
use Rattle.ng_space.specs.Callers.{Caller, fresh_caller}
use Rattle.ng_space.specs.Closings.{IsEven}
use Rattle.ng_space.specs.Leaving.{AreFramed}
use Rattle.ng_terms.specs.declared.plan.Op.{Op}
use Rattle.ng_terms.specs.declared.plan.Op.TheVariants.{Make}
use Rattle.ng_terms.specs.declared.plan.Origin.{Origin}
use Rattle.ng_terms.specs.declared.plan.Origin.TheVariants.{Own, Claim, Skip}
use Rattle.ng_terms.specs.declared.plan.Plan.{Plan}
use Rattle.ng_terms.specs.declared.reply.Mode.{Mode}
use Rattle.ng_terms.specs.declared.reply.Reply.{Reply}
use Rattle.ng_terms.specs.declared.reply.Reply.TheVariants.{Absent}
use Rattle.ng_terms.specs.Calls.{Fits, FitsOp, handed_as, origin_of, source_of, standing_of_number}
use Rattle.ng_replay.specs.Books.{AreAllFramed, AreBooks, hand_at}
use Rattle.ng_replay.specs.Crews.{AreEnded, HaveDone}
use Rattle.ng_replay.specs.Serial.{stands_at}
use Rattle.ng_replay.specs.Works.{AreDone, blocks_among, collected_as, source_by}
use Rattle.ng_replay.specs.declared.worker.Worker.{Worker}
use Rattle.ng_replay.proofs.FlatLemmas.{count-once, element, sum-same}
use Rattle.ng_replay.proofs.HandLemmas.{total-sum}
use Rattle.ng_replay.proofs.MailLemmas.{claimed-there, collected-any, collected-there, posted-once, posted-place, posted-there}
use Rattle.ng_replay.proofs.RowLemmas.{get_or-there}
use Rattle.ng_replay.proofs.ServedLemmas.{AllZip-from_places}
use Rattle.ng_replay.proofs.SourceLemmas.{standing_of_number-maker}

-- the lists of what the workers leave
pub AreEnded-left : {N : Type 0} → (mode : Mode) (boxes : Boxes N) (plan : Plan) (workers left : List (Worker N)) (hands : List Caller) (doors : List (Door N)) (replies : List (List Reply))
    → HaveDone mode boxes plan workers → left ≡ workers → hands ≡ map (λ (w : Worker N). w.hand) left → doors ≡ map (λ (w : Worker N). w.door) left
    → replies ≡ map (λ (w : Worker N). w.replies.items) left → AreEnded mode boxes plan hands doors replies
AreEnded-left {N} mode boxes plan workers left hands doors replies done same hands_are doors_are replies_are = record {
  many_hands = ap length hands_is ∙ length-map workers (λ (w : Worker N). w.hand) ∙ done.count;
  many_doors = ap length doors_is ∙ length-map workers (λ (w : Worker N). w.door) ∙ done.count;
  many_replies = ap length replies_is ∙ length-map workers (λ (w : Worker N). w.replies.items) ∙ done.count;
  each = λ log d below. rw (hands_is, doors_is, replies_is) (each log d below);
}
  where
    hands_is : hands ≡ map (λ (w : Worker N). w.hand) workers
    hands_is = hands_are ∙ ap (map (λ (w : Worker N). w.hand)) same

    doors_is : doors ≡ map (λ (w : Worker N). w.door) workers
    doors_is = doors_are ∙ ap (map (λ (w : Worker N). w.door)) same

    replies_is : replies ≡ map (λ (w : Worker N). w.replies.items) workers
    replies_is = replies_are ∙ ap (map (λ (w : Worker N). w.replies.items)) same

    each : (log : ℕ) (d : Door N) → log < length plan.logs
        → AreDone mode boxes (get_or plan.logs log []) log (hand_at (map (λ (w : Worker N). w.hand) workers) log) (get_or (map (λ (w : Worker N). w.door) workers) log d)
        (get_or (map (λ (w : Worker N). w.replies.items) workers) log [])
    each log d below =
        let within : log < length workers = omega (arith, done.count) in
        let own : Worker N = element workers log within in
        rw (get_or-map (λ (w : Worker N). w.hand) workers log own (fresh_caller 0 0) within)
        (rw (get_or-map (λ (w : Worker N). w.door) workers log own d within)
        (rw (get_or-map (λ (w : Worker N). w.replies.items) workers log own [] within) (done.each log own below)))

module _ {N : Type 0} {mode : Mode} {boxes : Boxes N} {plan : Plan} {hands : List Caller} {doors : List (Door N)} {replies : List (List Reply)} (sound : IsSound plan)
    (receivers : boxes.receivers.items ≡ plan.receivers) (ended : AreEnded mode boxes plan hands doors replies) where
  -- what stands for an op was posted under its number, and what an op claims was collected
  sent-there : (maker : Place) (number : ℕ) (d : Door N) → IsIn plan maker → handed_as (op_in plan maker) ≡ Some number
      → Contains (get_or doors maker.log d).sent.items (number, stands_at replies maker)
  sent-there maker number d inside given =
      let done : AreDone mode boxes (get_or plan.logs maker.log []) maker.log (hand_at hands maker.log) (get_or doors maker.log d) (get_or replies maker.log []) =
      ended.each maker.log d inside.log in
      subst (λ (sent : List Pair). Contains sent (number, stands_at replies maker)) (sym done.sent)
      (posted-there (get_or plan.logs maker.log []) (get_or replies maker.log []) maker.op number inside.op (omega (arith, done.count, inside.op)) given)

  got-there : (taker : Place) (number : ℕ) (d : Door N) → IsIn plan taker → origin_of (op_in plan taker) ≡ Claim number
      → Contains (map (λ (pair : Pair). pair.0) (get_or doors taker.log d).got.items) number
  got-there taker number d inside is =
      subst (λ (numbers : List ℕ). Contains numbers number) (sym (ended.each taker.log d inside.log).got)
      (claimed-there (get_or plan.logs taker.log []) taker.op number inside.op is)

  -- one op hands off under a number
  one-maker : (a b : Place) (number : ℕ) → IsIn plan a → IsIn plan b → handed_as (op_in plan a) ≡ Some number → handed_as (op_in plan b) ≡ Some number → a ≡ b
  one-maker a b number a_in b_in a_is b_is =
      let off : IsHandedOff plan number = sound.handed number (sound.given a number a_in a_is) in
      off.only_maker a a_in a_is ∙ sym (off.only_maker b b_in b_is)

  pub AreDoorsOf-ended : length plan.logs ≡ vec_len boxes.boxes → AreDoorsOf boxes doors
  AreDoorsOf-ended boxed = record {
    count = ended.many_doors ∙ boxed;
    each = λ log d below. (ended.each log d (omega (arith, ended.many_doors))).of_boxes;
    logs = λ log d below. (ended.each log d (omega (arith, ended.many_doors))).log_is;
  }

  pub ArePostedOnce-ended : ArePostedOnce doors
  ArePostedOnce-ended number = count-once (is_of number) (λ (door : Door N). door.sent.items) doors each once
    where
      each : (log : ℕ) (d : Door N) → log < length doors → count_by (is_of number) (get_or doors log d).sent.items ≤ 1
      each log d below =
          let within : log < length plan.logs = omega (arith, ended.many_doors) in
          rw (ended.each log d within).sent
          (posted-once (get_or plan.logs log []) (get_or replies log []) number
          (λ i j first second a b.
          ap (λ (p : Place). p.op)
          (one-maker (record { log = log; op = i }) (record { log = log; op = j }) number (record { log = within; op = first }) (record { log = within; op = second }) a b)))

      once : (log other : ℕ) (d : Door N) → log < length doors → other < length doors → 0 < count_by (is_of number) (get_or doors log d).sent.items
          → 0 < count_by (is_of number) (get_or doors other d).sent.items → log ≡ other
      once log other d first second some also =
          let log_in : log < length plan.logs = omega (arith, ended.many_doors) in
          let other_in : other < length plan.logs = omega (arith, ended.many_doors) in
          let (i, inside, given) = posted-place (get_or plan.logs log []) (get_or replies log []) number (rw (ended.each log d log_in).sent at some) in
          let (j, within, again) = posted-place (get_or plan.logs other []) (get_or replies other []) number (rw (ended.each other d other_in).sent at also) in
          ap (λ (p : Place). p.log)
          (one-maker (record { log = log; op = i }) (record { log = other; op = j }) number (record { log = log_in; op = inside }) (record { log = other_in; op = within }) given again)

  pub AreCollected-ended : AreCollected boxes.receivers.items doors
  AreCollected-ended number d is =
      let numbered : IsNumbered plan number = record { least = is.least; most = omega (arith, is.most, ap length receivers) } in
      let off : IsHandedOff plan number = sound.handed number numbered in
      let to : get_or boxes.receivers.items (number - 1) 0 ≡ off.taker.log = ap (λ (l : List ℕ). get_or l (number - 1) 0) receivers ∙ off.receiver in
      subst (λ (log : ℕ). list_any (is_of number) (get_or doors log d).got.items ≡ true) (sym to)
      (collected-any (get_or doors off.taker.log d).got.items number (got-there off.taker number d off.taker_in off.taken))

  pub AreBooks-ended : AreBooks plan mode replies hands
  AreBooks-ended = record {
    count = ended.many_hands;
    numbers = λ log below. (ended.each log (door log below) below).number;
    each = λ log below. (ended.each log (door log below) below).book;
  }
    where
      door : (log : ℕ) → log < length plan.logs → Door N
      door log below = element doors log (omega (arith, ended.many_doors))

  pub AreAllFramed-ended : AreAllFramed hands
  AreAllFramed-ended log d below =
      subst (λ (hand : Caller). AreFramed hand.view) (get_or-there hands log (fresh_caller 0 0) d below)
      (ended.each log (element doors log (omega (arith, ended.many_hands, ended.many_doors))) (omega (arith, ended.many_hands))).framed

  module _ (over : AreHandedOver boxes.receivers.items doors) where
    -- what was collected under a number is what stands for the op that handed it off
    claimed-same : (taker : Place) (number : ℕ) (d : Door N) → IsIn plan taker → origin_of (op_in plan taker) ≡ Claim number
        → collected_as (get_or doors taker.log d).got.items number ≡ standing_of_number plan.logs replies number
    claimed-same taker number d inside is =
        let numbered : IsNumbered plan number = sound.taken taker number inside is in
        let off : IsHandedOff plan number = sound.handed number numbered in
        over.same off.maker.log taker.log number (stands_at replies off.maker) (collected_as (get_or doors taker.log d).got.items number) d
        (omega (arith, ended.many_doors, off.maker_in.log)) (omega (arith, ended.many_doors, inside.log))
        (sent-there off.maker number d off.maker_in off.given)
        (collected-there (get_or doors taker.log d).got.items number (got-there taker number d inside is))
        ∙ sym (standing_of_number-maker plan replies number off.maker numbered.least off.maker_in off.given off.only_maker)

    source-same : (taker : Place) (d : Door N) → IsIn plan taker → (origin : Origin) → origin_of (op_in plan taker) ≡ origin
        → source_by (get_or replies taker.log []) (get_or doors taker.log d).got.items origin ≡ source_of plan.logs replies taker.log origin
    source-same taker d inside (Own op) is = refl
    source-same taker d inside (Claim number) is = claimed-same taker number d inside is
    source-same taker d inside Skip is = refl

    pub Fits-ended : Fits plan mode replies
    Fits-ended = record { logs = ended.many_replies; ops = ops }
      where
        ops : (log : ℕ) → log < length plan.logs
            → AllZip (λ (op : Op) (reply : Reply). FitsOp mode (source_of plan.logs replies log (origin_of op)) op reply) (get_or plan.logs log []) (get_or replies log [])
        ops log below =
            let d : Door N = element doors log (omega (arith, ended.many_doors)) in
            let done : AreDone mode boxes (get_or plan.logs log []) log (hand_at hands log) (get_or doors log d) (get_or replies log []) = ended.each log d below in
            AllZip-from_places (λ (op : Op) (reply : Reply). FitsOp mode (source_of plan.logs replies log (origin_of op)) op reply) (get_or plan.logs log []) (get_or replies log []) (Make 0 0 None) Absent done.count
            (λ i inside.
            subst (λ (source : Option ℕ). FitsOp mode source (op_of_log (get_or plan.logs log []) i) (get_or (get_or replies log []) i Absent))
            (source-same (record { log = log; op = i }) d (record { log = below; op = inside }) (origin_of (op_of_log (get_or plan.logs log []) i)) refl)
            (done.fit i inside))

    pub IsEven-ended : IsEven hands
    IsEven-ended =
        omega (
          arith,
          total-sum (λ (hand : Caller). hand.view.sent) hands,
          total-sum (λ (hand : Caller). hand.view.taken) hands,
          sum-same (λ (hand : Caller). hand.view.sent) (λ (door : Door N). blocks_among door.sent.items) hands doors lengths sent,
          sum-same (λ (hand : Caller). hand.view.taken) (λ (door : Door N). blocks_among door.got.items) hands doors lengths taken,
          over.even,
        )
      where
        lengths : length hands ≡ length doors
        lengths = ended.many_hands ∙ sym ended.many_doors

        sent : (log : ℕ) (h : Caller) (d : Door N) → log < length hands → (get_or hands log h).view.sent ≡ blocks_among (get_or doors log d).sent.items
        sent log h d below =
            ap (λ (hand : Caller). hand.view.sent) (get_or-there hands log h (fresh_caller 0 0) below) ∙ (ended.each log d (omega (arith, ended.many_hands))).counted_sent

        taken : (log : ℕ) (h : Caller) (d : Door N) → log < length hands → (get_or hands log h).view.taken ≡ blocks_among (get_or doors log d).got.items
        taken log h d below =
            ap (λ (hand : Caller). hand.view.taken) (get_or-there hands log h (fresh_caller 0 0) below) ∙ (ended.each log d (omega (arith, ended.many_hands))).counted
