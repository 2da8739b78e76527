-- What the hands of the logs hold between turns: at the start, one turn on, and at the end.
use Rattle.std.proofs.Common.{◌≡◌, ◌≢◌, ℕ, zero, suc, ◌+◌, ◌*◌, ◌-◌, ◌<◌, ◌≤◌, List, [], ◌∷◌, ◌++◌, Option, None, length, get_or, arith, refl, ap, sym, subst, inl, inr, ⊎_elim, ◌∙◌}
use Rattle.std.specs.Prelude.{All, sum_by}
use Rattle.std.proofs.Math.ListN.{set}
use Rattle.std.proofs.lemmas.Bool.{cases_eq}
use Rattle.std.proofs.lemmas.List.{get_or-map, get_or-set_other, get_or-set_same, length-map, length_push}
use Rattle.std.proofs.lemmas.List.Elements.{All-get_or, All-set}
use Rattle.std.proofs.lemmas.List.Sums.{sum_by-cons, sum_by-set}
use Rattle.ng_space.specs.Leaving.{AreFramed}
use Rattle.ng_heap.specs.Keeps.{KeepsFrames}
use Rattle.ng_plan.specs.Sound.{op_of_log}
use Rattle.ng_space.specs.Blocks.{BlockToken}
use Rattle.ng_space.specs.Callers.{Caller, fresh_caller, fresh_callers}
use Rattle.ng_space.specs.Closings.{AreAll, IsEven}
use Rattle.ng_space.specs.Parcels.{ParcelToken}
use Rattle.ng_terms.specs.declared.plan.Op.{Op}
use Rattle.ng_terms.specs.declared.plan.Plan.{Plan}
use Rattle.ng_terms.specs.declared.reply.Mode.{Mode}
use Rattle.ng_terms.specs.declared.reply.Reply.{Reply}
use Rattle.ng_terms.specs.Calls.{calls_of, calls_of_log}
use Rattle.ng_view.specs.Lists.{Among, total_by}
use Rattle.ng_replay.specs.Books.{AreBooks, hand_at, rooms_for}
use Rattle.ng_replay.specs.Serial.{AreHeld, AreInHand, IsBalanced, KeepsBalance, done_in}
use Rattle.ng_replay.proofs.BookLemmas.{AreBooks-more, calls_of_log-none, hand_at-other, hand_at-same}
use Rattle.ng_replay.proofs.RowLemmas.{underway-none}

pub total-sum : {X : Type 0} → (f : X → ℕ) (xs : List X) → total_by f xs ≡ sum_by f xs
total-sum f [] = refl
total-sum f (x ∷ xs) = ap (λ (n : ℕ). f x + n) (total-sum f xs) ∙ sym (sum_by-cons f x xs)

-- once nothing is on its way
pub IsEven-balanced : (hands : List Caller) (parcels : List (Option ParcelToken)) → IsBalanced hands parcels
    → All (λ (parcel : Option ParcelToken). parcel ≡ None) parcels → IsEven hands
IsEven-balanced hands parcels balanced none =
    omega (arith, balanced, underway-none parcels none, total-sum (λ (hand : Caller). hand.view.sent) hands, total-sum (λ (hand : Caller). hand.view.taken) hands)

Among-at : {X : Type 0} → (xs : List X) (i : ℕ) (d : X) → i < length xs → Among (get_or xs i d) xs
Among-at [] i d below = absurd (omega arith)
Among-at (x ∷ xs) zero d below = inl refl
Among-at (x ∷ xs) (suc i) d below = inr (Among-at xs i d (omega arith))

-- the logs' hands are all that were split off
pub AreAll-books : (count : ℕ) (plan : Plan) (mode : Mode) (replies : List (List Reply)) (hands : List Caller) → length plan.logs ≡ count
    → AreBooks plan mode replies hands → AreAll count hands
AreAll-books count plan mode replies hands all books = record {
  many = books.count ∙ all;
  each = λ number some below.
      let at : number - 1 + 1 ≡ number = omega arith in
      (hand_at hands (number - 1), Among-at hands (number - 1) (fresh_caller 0 0) (omega (arith, books.count, all)), books.numbers (number - 1) (omega (arith, all)) ∙ at);
}

-- hands that have done nothing yet
pub length-fresh : (number : ℕ) (rooms : List ℕ) → length (fresh_callers number rooms) ≡ length rooms
length-fresh number [] = refl
length-fresh number (room ∷ rooms) = ap suc (length-fresh (number + 1) rooms)

pub get_or-fresh : (number : ℕ) (rooms : List ℕ) (i : ℕ) (d : Caller) → i < length rooms
    → get_or (fresh_callers number rooms) i d ≡ fresh_caller (number + i) (get_or rooms i 0)
get_or-fresh number [] i d below = absurd (omega arith)
get_or-fresh number (room ∷ rooms) zero d below = let at : number ≡ number + 0 = omega arith in ap (λ (n : ℕ). fresh_caller n room) at
get_or-fresh number (room ∷ rooms) (suc i) d below =
    let at : number + 1 + i ≡ number + suc i = omega arith in
    get_or-fresh (number + 1) rooms i d (omega arith) ∙ ap (λ (n : ℕ). fresh_caller n (get_or rooms i 0)) at

sent-fresh : (number : ℕ) (rooms : List ℕ) → sum_by (λ (hand : Caller). hand.view.sent) (fresh_callers number rooms) ≡ 0
sent-fresh number [] = refl
sent-fresh number (room ∷ rooms) = omega (arith, sent-fresh (number + 1) rooms, sum_by-cons (λ (hand : Caller). hand.view.sent) (fresh_caller number room) (fresh_callers (number + 1) rooms))

taken-fresh : (number : ℕ) (rooms : List ℕ) → sum_by (λ (hand : Caller). hand.view.taken) (fresh_callers number rooms) ≡ 0
taken-fresh number [] = refl
taken-fresh number (room ∷ rooms) = omega (arith, taken-fresh (number + 1) rooms, sum_by-cons (λ (hand : Caller). hand.view.taken) (fresh_caller number room) (fresh_callers (number + 1) rooms))

framed-fresh : (number room : ℕ) → AreFramed (fresh_caller number room).view
framed-fresh number room h there = absurd there

pub AreInHand-start : (plan : Plan) (mode : Mode) (replies : List (List Reply)) (blocks : List (List (Option BlockToken))) (parcels : List (Option ParcelToken)) (hands : List Caller)
    → ((log : ℕ) → get_or replies log [] ≡ []) → ((log : ℕ) → get_or blocks log [] ≡ []) → All (λ (parcel : Option ParcelToken). parcel ≡ None) parcels
    → hands ≡ fresh_callers 1 (rooms_for plan) → AreInHand plan mode replies blocks parcels hands
AreInHand-start plan mode replies blocks parcels hands empty bare none fresh = record {
  books = record {
    count = ap length fresh ∙ length-fresh 1 (rooms_for plan) ∙ length-rooms;
    numbers = λ log below. let at : 1 + log ≡ log + 1 = omega arith in ap (λ (h : Caller). h.number) (hand log below) ∙ at;
    each = λ log below. ap (λ (h : Caller). h.entries) (hand log below) ∙ sym (ap (calls_of_log mode (get_or plan.logs log [])) (empty log) ∙ calls_of_log-none mode (get_or plan.logs log []));
  };
  spare = λ log below. omega (arith, ap (λ (h : Caller). h.spare) (hand log below), room log below);
  held = λ log below. rw (bare log) (record { framed = λ op block is. absurd (cc); apart = λ op other block another away is also. absurd (cc) });
  framed = λ k d below. rw (fresh) (framed-all k d (omega (arith, ap length fresh)));
  balanced = omega (arith, ap (sum_by (λ (h : Caller). h.view.sent)) fresh, ap (sum_by (λ (h : Caller). h.view.taken)) fresh, sent-fresh 1 (rooms_for plan), taken-fresh 1 (rooms_for plan), underway-none parcels none);
}
  where
    length-rooms : length (rooms_for plan) ≡ length plan.logs
    length-rooms = length-map plan.logs (λ (ops : List Op). 2 * length ops)

    hand : (log : ℕ) → log < length plan.logs → hand_at hands log ≡ fresh_caller (1 + log) (get_or (rooms_for plan) log 0)
    hand log below = ap (λ (hs : List Caller). hand_at hs log) fresh ∙ get_or-fresh 1 (rooms_for plan) log (fresh_caller 0 0) (omega (arith, length-rooms))

    room : (log : ℕ) → log < length plan.logs → get_or (rooms_for plan) log 0 ≡ 2 * length (get_or plan.logs log [])
    room log below = get_or-map (λ (ops : List Op). 2 * length ops) plan.logs log [] 0 below

    framed-all : (k : ℕ) (d : Caller) → k < length (fresh_callers 1 (rooms_for plan)) → AreFramed (get_or (fresh_callers 1 (rooms_for plan)) k d).view
    framed-all k d below =
        subst (λ (h : Caller). AreFramed h.view) (sym (get_or-fresh 1 (rooms_for plan) k d (omega (arith, length-fresh 1 (rooms_for plan))))) (framed-fresh (1 + k) (get_or (rooms_for plan) k 0))

-- one op of a log more
IsBalanced-more : (hands : List Caller) (was now : List (Option ParcelToken)) (log : ℕ) (hand : Caller) → log < length hands → IsBalanced hands was
    → KeepsBalance (hand_at hands log) hand was now → IsBalanced (set hands log hand) now
IsBalanced-more hands was now log hand within balanced kept =
    omega (arith, kept, balanced, sum_by-set (λ (h : Caller). h.view.sent) hands log hand (fresh_caller 0 0) within, sum_by-set (λ (h : Caller). h.view.taken) hands log hand (fresh_caller 0 0) within)

pub AreInHand-more : (plan : Plan) (mode : Mode) (replies : List (List Reply)) (blocks : List (List (Option BlockToken))) (was now : List (Option ParcelToken)) (hands : List Caller) (log : ℕ) (hand : Caller) (row : List (Option BlockToken)) (reply : Reply)
    → length replies ≡ length plan.logs → length blocks ≡ length plan.logs → log < length plan.logs
    → done_in replies log < length (get_or plan.logs log []) → AreInHand plan mode replies blocks was hands
    → KeepsFrames (hand_at hands log) hand
    → hand.entries ≡ (hand_at hands log).entries ++ calls_of mode (op_of_log (get_or plan.logs log []) (done_in replies log)) reply
    → (hand_at hands log).spare ≤ hand.spare + 2
    → AreHeld hand row → KeepsBalance (hand_at hands log) hand was now
    → AreInHand plan mode (set replies log (get_or replies log [] ++ reply ∷ [])) (set blocks log row) now (set hands log hand)
AreInHand-more plan mode replies blocks was now hands log hand row reply logs rows within left held frames entered used mine kept = record {
  books = AreBooks-more plan mode replies hands log hand reply logs within left held.books frames.number entered;
  spare = λ other below. ⊎_elim (spare-here other) (spare-there other below) (cases_eq other log);
  held = λ other below. ⊎_elim (held-here other) (held-there other below) (cases_eq other log);
  framed = All-set (λ (h : Caller). AreFramed h.view) hands log hand (frames.each (All-get_or (λ (h : Caller). AreFramed h.view) hands log (fresh_caller 0 0) in_hands held.framed)) held.framed;
  balanced = IsBalanced-more hands was now log hand in_hands held.balanced kept;
}
  where
    more : List (List Reply)
    more = set replies log (get_or replies log [] ++ reply ∷ [])

    in_hands : log < length hands
    in_hands = omega (arith, held.books.count)

    this : hand_at (set hands log hand) log ≡ hand
    this = hand_at-same hands log hand in_hands

    spare-here : (other : ℕ) → other ≡ log → 2 * length (get_or plan.logs other []) ≤ (hand_at (set hands log hand) other).spare + 2 * done_in more other
    spare-here other is =
        subst (λ (k : ℕ). 2 * length (get_or plan.logs k []) ≤ (hand_at (set hands log hand) k).spare + 2 * done_in more k) (sym is)
        (let one : done_in more log ≡ done_in replies log + 1 = ap length (get_or-set_same replies log (get_or replies log [] ++ reply ∷ []) [] (omega arith)) ∙ length_push (get_or replies log []) reply in
        omega (arith, held.spare log within, ap (λ (h : Caller). h.spare) this))

    spare-there : (other : ℕ) → other < length plan.logs → other ≢ log
        → 2 * length (get_or plan.logs other []) ≤ (hand_at (set hands log hand) other).spare + 2 * done_in more other
    spare-there other below apart =
        let same : done_in more other ≡ done_in replies other = ap length (get_or-set_other replies log other (get_or replies log [] ++ reply ∷ []) [] apart) in
        omega (arith, held.spare other below, ap (λ (h : Caller). h.spare) (hand_at-other hands log other hand apart))

    held-here : (other : ℕ) → other ≡ log → AreHeld (hand_at (set hands log hand) other) (get_or (set blocks log row) other [])
    held-here other is =
        subst (λ (k : ℕ). AreHeld (hand_at (set hands log hand) k) (get_or (set blocks log row) k [])) (sym is)
        (rw this (rw (get_or-set_same blocks log row [] (omega (arith, rows, within))) mine))

    held-there : (other : ℕ) → other < length plan.logs → other ≢ log → AreHeld (hand_at (set hands log hand) other) (get_or (set blocks log row) other [])
    held-there other below apart = rw (hand_at-other hands log other hand apart) (rw (get_or-set_other blocks log other row [] apart) (held.held other below))
