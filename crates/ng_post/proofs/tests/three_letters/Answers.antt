use Rattle.std.proofs.Common.{◌≡◌, ◌∙◌, ◌<◌, ◌≤◌, ◌==◌, ◌∷◌, ◌++◌, ◌||◌, [], zero, suc, ℕ, List, None, ap, arith, get_or, length, map, refl, rules, subst, sym}
use Rattle.std.specs.Prelude.{count_by}
use Rattle.std.specs.List.{list_any}
use Rattle.std.specs.declared.marker.Brand.{Brand}
use Rattle.std.proofs.lemmas.List.{get_or-map, length-map}
use Rattle.ng_post.specs.declared.boxes.Door.{Door}
use Rattle.ng_post.specs.Doors.{IsDoorOf}
use Rattle.ng_post.specs.Ends.{AreCollected, is_of}
use Rattle.ng_post.specs.Letters.{Pair}
use Rattle.ng_post.specs.Opened.{AreOpened, IsFresh, received_by}
use Rattle.ng_terms.specs.declared.plan.Op.{Op}
use Rattle.ng_terms.specs.declared.plan.Plan.{Plan}
use Rattle.ng_post.specs.declared.boxes.Boxes.{Boxes}
use Rattle.ng_post.proofs.tests.three_letters.Goals as goal

-- a log of the plan has three ops
three_ops : (logs : List (List Op)) (k : ℕ) → map length logs ≡ 3 ∷ 3 ∷ [] → k < 2 → (k < length logs) × (length (get_or logs k []) ≡ get_or (3 ∷ 3 ∷ []) k 0)
three_ops logs k is lt =
    let long : length logs ≡ 2 = sym (length-map logs length) ∙ ap length is in
    let within : k < length logs = omega (arith, long, lt) in
    (within, sym (get_or-map length logs k [] 0 within) ∙ ap (λ l. get_or l k 0) is)

-- the plan has two
two_logs : (logs : List (List Op)) → map length logs ≡ 3 ∷ 3 ∷ [] → length logs ≡ 2
two_logs logs is = sym (length-map logs length) ∙ ap length is

-- the door of a log that was opened
opened_door : (plan : Plan) (boxes : Boxes Brand) (doors : List (Door Brand)) (k : ℕ) (door : Door Brand) → AreOpened plan boxes doors → k < length plan.logs → door ≡ get_or doors k door
    → IsDoorOf boxes door × IsFresh door (length (get_or plan.logs k [])) (received_by plan.receivers k)
opened_door plan boxes doors k door opened lt is = (
  subst (λ x. IsDoorOf boxes x) (sym is) (opened.opened.each k door (omega (arith, opened.count, lt))),
  subst (λ x. IsFresh x (length (get_or plan.logs k [])) (received_by plan.receivers k)) (sym is) (opened.fresh k door lt),
)

-- and its number
opened_log : (plan : Plan) (boxes : Boxes Brand) (doors : List (Door Brand)) (k : ℕ) (door : Door Brand) → AreOpened plan boxes doors → k < length plan.logs → door ≡ get_or doors k door → door.log ≡ k
opened_log plan boxes doors k door opened lt is = ap (λ (x : Door Brand). x.log) is ∙ opened.opened.logs k door (omega (arith, opened.count, lt))

-- with three ops and so many hand-offs
fresh_door : (plan : Plan) (door : Door Brand) (k letters : ℕ) → IsFresh door (length (get_or plan.logs k [])) (received_by plan.receivers k)
    → length (get_or plan.logs k []) ≡ 3 → received_by plan.receivers k ≡ letters → IsFresh door 3 letters
fresh_door plan door k letters fresh ops same = subst (λ n. IsFresh door n letters) ops (subst (λ n. IsFresh door (length (get_or plan.logs k [])) n) same fresh)

pub hand_over-first-requires-clause-first : goal.hand_over-first-requires-clause-first
hand_over-first-requires-clause-first g c = λ _.
    (opened_door c.in_ok-plan.plan c.in-Ok.boxes c.in-Ok.doors.items 0 c.remove-first.result c.in-Ok.ensures
    (three_ops c.in_ok-plan.plan.logs 0 c.in_ok-plan.ensures.ops (omega arith)).0 (c.remove-first.ensures.value ∙ c.remove-second.ensures.by_index.0 0 c.remove-first.result (omega arith))).0

pub hand_over-first-requires-clause-second : goal.hand_over-first-requires-clause-second
hand_over-first-requires-clause-second g c = λ _.
    (opened_door c.in_ok-plan.plan c.in-Ok.boxes c.in-Ok.doors.items 1 c.remove-second.result c.in-Ok.ensures
    (three_ops c.in_ok-plan.plan.logs 1 c.in_ok-plan.ensures.ops (omega arith)).0 c.remove-second.ensures.value).0

pub hand_over-first-requires-clause-first_fresh : goal.hand_over-first-requires-clause-first_fresh
hand_over-first-requires-clause-first_fresh g c = λ _.
    let ops = three_ops c.in_ok-plan.plan.logs 0 c.in_ok-plan.ensures.ops (omega arith) in
    fresh_door c.in_ok-plan.plan c.remove-first.result 0 0
    (opened_door c.in_ok-plan.plan c.in-Ok.boxes c.in-Ok.doors.items 0 c.remove-first.result c.in-Ok.ensures ops.0
    (c.remove-first.ensures.value ∙ c.remove-second.ensures.by_index.0 0 c.remove-first.result (omega arith))).1
    ops.1 (ap (λ l. received_by l 0) c.in_ok-plan.ensures.receivers)

pub hand_over-first-requires-clause-second_fresh : goal.hand_over-first-requires-clause-second_fresh
hand_over-first-requires-clause-second_fresh g c = λ _.
    let ops = three_ops c.in_ok-plan.plan.logs 1 c.in_ok-plan.ensures.ops (omega arith) in
    fresh_door c.in_ok-plan.plan c.remove-second.result 1 3
    (opened_door c.in_ok-plan.plan c.in-Ok.boxes c.in-Ok.doors.items 1 c.remove-second.result c.in-Ok.ensures ops.0 c.remove-second.ensures.value).1
    ops.1 (ap (λ l. received_by l 1) c.in_ok-plan.ensures.receivers)

pub hand_over-first-requires-clause-receivers : goal.hand_over-first-requires-clause-receivers
hand_over-first-requires-clause-receivers g c = λ _. c.in-Ok.ensures.receivers ∙ c.in_ok-plan.ensures.receivers

-- what holds of two doors, each with its log
each_of_two : (P : ℕ → Door Brand → Type 0) (a b d : Door Brand) (k : ℕ) → P 0 a → P 1 b → k < 2 → P k (get_or (a ∷ b ∷ []) k d)
each_of_two P a b d zero first second lt = first
each_of_two P a b d (suc zero) first second lt = second
each_of_two P a b d (suc (suc k)) first second lt = absurd (omega arith)

-- whether a number is among the pairs
any-numbers : (number : ℕ) (pairs : List Pair) → list_any (is_of number) pairs ≡ list_any (λ (n : ℕ). n == number) (map (λ (pair : Pair). pair.0) pairs)
any-numbers number [] = refl
any-numbers number (pair ∷ pairs) = ap (λ b. (pair.0 == number) || b) (any-numbers number pairs)

-- each of the three numbers was collected by the second of two doors
collected_each : (first second : Door Brand) → map (λ (pair : Pair). pair.0) second.got.items ≡ 3 ∷ 1 ∷ 2 ∷ [] → AreCollected (1 ∷ 1 ∷ 1 ∷ []) (first ∷ second ∷ [])
collected_each first second got zero d is = absurd (omega (arith, is.least))
collected_each first second got (suc zero) d is = any-numbers 1 second.got.items ∙ ap (λ (l : List ℕ). list_any (λ (n : ℕ). n == 1) l) got
collected_each first second got (suc (suc zero)) d is = any-numbers 2 second.got.items ∙ ap (λ (l : List ℕ). list_any (λ (n : ℕ). n == 2) l) got
collected_each first second got (suc (suc (suc zero))) d is = any-numbers 3 second.got.items ∙ ap (λ (l : List ℕ). list_any (λ (n : ℕ). n == 3) l) got
collected_each first second got (suc (suc (suc (suc n)))) d is = absurd (omega (arith, is.most))

-- no number is twice among 1, 2 and 3
posted_once : (number : ℕ) (sent none : List Pair) → sent ≡ (1, None) ∷ (2, None) ∷ (3, None) ∷ [] → none ≡ [] → count_by (is_of number) (sent ++ (none ++ [])) ≤ 1
posted_once number sent none three nothing = rw (three, nothing) (grind arith)

pub finish-requires-clause-doors : goal.finish-requires-clause-doors
finish-requires-clause-doors g c =
    let plan = c.in_ok-plan.plan in
    let opened = c.in-Ok.ensures in
    let handed = c.hand_over-first.ensures in
    let first : Door Brand = c.hand_over-first.result.0 in
    let second : Door Brand = c.hand_over-first.result.1 in
    let both : c.in_ok-vec.field-0.items ≡ first ∷ second ∷ [] = search rules in
    let one = (three_ops plan.logs 0 c.in_ok-plan.ensures.ops (omega arith)).0 in
    let two = (three_ops plan.logs 1 c.in_ok-plan.ensures.ops (omega arith)).0 in
    rw both (record {
      count = omega (arith, two_logs plan.logs c.in_ok-plan.ensures.ops, opened.count, opened.opened.count);
      each = λ k d lt. each_of_two (λ j x. IsDoorOf c.in-Ok.boxes x) first second d k handed.first handed.second lt;
      logs = λ k d lt. each_of_two (λ j x. x.log ≡ j) first second d k
          (handed.first_log ∙ opened_log plan c.in-Ok.boxes c.in-Ok.doors.items 0 c.remove-first.result opened one (c.remove-first.ensures.value ∙ c.remove-second.ensures.by_index.0 0 c.remove-first.result (omega arith)))
          (handed.second_log ∙ opened_log plan c.in-Ok.boxes c.in-Ok.doors.items 1 c.remove-second.result opened two c.remove-second.ensures.value) lt;
    })

pub finish-requires-clause-once : goal.finish-requires-clause-once
finish-requires-clause-once g c =
    let first : Door Brand = c.hand_over-first.result.0 in
    let second : Door Brand = c.hand_over-first.result.1 in
    let both : c.in_ok-vec.field-0.items ≡ first ∷ second ∷ [] = search rules in
    rw both (λ number. posted_once number first.sent.items second.sent.items c.hand_over-first.ensures.sent c.hand_over-first.ensures.none_sent)

pub finish-requires-clause-collected : goal.finish-requires-clause-collected
finish-requires-clause-collected g c =
    let first : Door Brand = c.hand_over-first.result.0 in
    let second : Door Brand = c.hand_over-first.result.1 in
    let both : c.in_ok-vec.field-0.items ≡ first ∷ second ∷ [] = search rules in
    rw (both, c.in-Ok.ensures.receivers ∙ c.in_ok-plan.ensures.receivers) (collected_each first second c.hand_over-first.ensures.got)
