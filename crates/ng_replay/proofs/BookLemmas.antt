-- The books of the logs, one op on, and the cap of its ops.
use Rattle.std.proofs.Common.{◌≡◌, ◌≢◌, ℕ, ◌+◌, ◌<◌, List, [], ◌∷◌, ◌++◌, None, length, get_or, arith, refl, ap, sym, subst, ⊎_elim, ◌∙◌}
use Rattle.std.specs.Prelude.{flat_map}
use Rattle.std.specs.List.{zip}
use Rattle.std.proofs.Math.ListN.{set}
use Rattle.std.proofs.lemmas.Bool.{cases_eq}
use Rattle.std.proofs.lemmas.List.{append-nil, get_or-set_other, get_or-set_same, length-set}
use Rattle.std.proofs.lemmas.List.Concat.{flat_map-append}
use Rattle.std.proofs.lemmas.List.Elements.{Contains-get_or}
use Rattle.ng_plan.specs.declared.step.Place.{Place}
use Rattle.ng_plan.specs.Sound.{IsIn, op_in, op_of_log}
use Rattle.ng_space.specs.Callers.{Caller}
use Rattle.ng_terms.specs.declared.entry.Entry.{Entry}
use Rattle.ng_terms.specs.declared.plan.Op.{Op}
use Rattle.ng_terms.specs.declared.plan.Op.TheVariants.{Make}
use Rattle.ng_terms.specs.declared.plan.Plan.{Plan}
use Rattle.ng_terms.specs.declared.reply.Mode.{Mode}
use Rattle.ng_terms.specs.declared.reply.Reply.{Reply}
use Rattle.ng_terms.specs.Calls.{calls_of, calls_of_log}
use Rattle.ng_replay.specs.Books.{AreBooks, hand_at}
use Rattle.ng_replay.specs.Caps.{IsCapped}
use Rattle.ng_replay.specs.Serial.{done_in}
use Rattle.ng_replay.specs.Serving.{IsCapOf}

-- the ops beside the replies, one reply on
pub zip-push : {X Y : Type 0} → (xs : List X) (ys : List Y) (d : X) (y : Y) → length ys < length xs
    → zip xs (ys ++ y ∷ []) ≡ zip xs ys ++ (get_or xs (length ys) d, y) ∷ []
zip-push [] ys d y short = absurd (omega arith)
zip-push (x ∷ []) [] d y short = refl
zip-push (x ∷ (other ∷ xs)) [] d y short = refl
zip-push (x ∷ xs) (b ∷ ys) d y short = ap (λ rest. (x, b) ∷ rest) (zip-push xs ys d y (omega arith))

-- the calls of a log, one reply on
pub calls_of_log-push : (mode : Mode) (ops : List Op) (row : List Reply) (reply : Reply) → length row < length ops
    → calls_of_log mode ops (row ++ reply ∷ []) ≡ calls_of_log mode ops row ++ calls_of mode (op_of_log ops (length row)) reply
calls_of_log-push mode ops row reply short =
    let calls : (Op × Reply) → List Entry = λ done. calls_of mode done.0 done.1 in
    ap (flat_map calls) (zip-push ops row (Make 0 0 None) reply short)
    ∙ flat_map-append calls (zip ops row) ((op_of_log ops (length row), reply) ∷ [])
    ∙ ap (λ (rest : List Entry). flat_map calls (zip ops row) ++ rest) (append-nil (calls_of mode (op_of_log ops (length row)) reply))

-- before the first op
pub calls_of_log-none : (mode : Mode) (ops : List Op) → calls_of_log mode ops [] ≡ []
calls_of_log-none mode [] = refl
calls_of_log-none mode (op ∷ ops) = refl

-- a hand of another log, and the hand of this one
pub hand_at-other : (hands : List Caller) (log other : ℕ) (hand : Caller) → other ≢ log → hand_at (set hands log hand) other ≡ hand_at hands other
hand_at-other hands log other hand apart = get_or-set_other hands log other hand _ apart

pub hand_at-same : (hands : List Caller) (log : ℕ) (hand : Caller) → log < length hands → hand_at (set hands log hand) log ≡ hand
hand_at-same hands log hand within = get_or-set_same hands log hand _ within

-- the calls of one op more, in the book of its log's hand
pub AreBooks-more : (plan : Plan) (mode : Mode) (replies : List (List Reply)) (hands : List Caller) (log : ℕ) (hand : Caller) (reply : Reply)
    → length replies ≡ length plan.logs → log < length plan.logs → done_in replies log < length (get_or plan.logs log [])
    → AreBooks plan mode replies hands → hand.number ≡ (hand_at hands log).number
    → hand.entries ≡ (hand_at hands log).entries ++ calls_of mode (op_of_log (get_or plan.logs log []) (done_in replies log)) reply
    → AreBooks plan mode (set replies log (get_or replies log [] ++ reply ∷ [])) (set hands log hand)
AreBooks-more plan mode replies hands log hand reply logs within left books number grown = record {
  count = length-set hands log hand ∙ books.count;
  numbers = λ other below. ⊎_elim (number_here other) (λ apart. ap (λ (h : Caller). h.number) (hand_at-other hands log other hand apart) ∙ books.numbers other below) (cases_eq other log);
  each = λ other below. ⊎_elim (here other) (there other below) (cases_eq other log);
}
  where
    row : List Reply
    row = get_or replies log [] ++ reply ∷ []

    this : hand_at (set hands log hand) log ≡ hand
    this = hand_at-same hands log hand (omega (arith, books.count))

    number_here : (other : ℕ) → other ≡ log → (hand_at (set hands log hand) other).number ≡ other + 1
    number_here other is =
        subst (λ (k : ℕ). (hand_at (set hands log hand) k).number ≡ k + 1) (sym is) (ap (λ (h : Caller). h.number) this ∙ number ∙ books.numbers log within)

    here : (other : ℕ) → other ≡ log
        → (hand_at (set hands log hand) other).entries ≡ calls_of_log mode (get_or plan.logs other []) (get_or (set replies log row) other [])
    here other is = subst (λ (k : ℕ). (hand_at (set hands log hand) k).entries ≡ calls_of_log mode (get_or plan.logs k []) (get_or (set replies log row) k [])) (sym is)
        (ap (λ (h : Caller). h.entries) this
        ∙ grown
        ∙ ap (λ (front : List Entry). front ++ calls_of mode (op_of_log (get_or plan.logs log []) (done_in replies log)) reply) (books.each log within)
        ∙ sym (calls_of_log-push mode (get_or plan.logs log []) (get_or replies log []) reply left)
        ∙ ap (calls_of_log mode (get_or plan.logs log [])) (sym (get_or-set_same replies log row [] (omega arith))))

    there : (other : ℕ) → other < length plan.logs → other ≢ log
        → (hand_at (set hands log hand) other).entries ≡ calls_of_log mode (get_or plan.logs other []) (get_or (set replies log row) other [])
    there other below apart =
        ap (λ (h : Caller). h.entries) (hand_at-other hands log other hand apart)
        ∙ books.each other below
        ∙ ap (calls_of_log mode (get_or plan.logs other [])) (sym (get_or-set_other replies log other row [] apart))

-- no op of the plan asks for more than its cap, but for what is too many
pub cap-op : (plan : Plan) (mode : Mode) (place : Place) (cap : ℕ) → IsIn plan place → IsCapOf cap plan mode → IsCapped mode cap (op_in plan place)
cap-op plan mode place cap inside cap_of bytes asks small =
    cap_of.greatest bytes (record { log = place.log; op = op_in plan place; there = Contains-get_or (get_or plan.logs place.log []) place.op (Make 0 0 None) inside.op; asks = asks; small = small })
