-- The replies with one more in the row of a log.
use Rattle.std.proofs.Common.{◌≡◌, ◌≢◌, ◌⊎◌, ℕ, ◌+◌, ◌<◌, List, [], ◌∷◌, ◌++◌, length, get_or, arith, refl, ap, sym, inl, inr, ⊎_elim, ◌∙◌}
use Rattle.std.proofs.Math.ListN.{set}
use Rattle.std.proofs.lemmas.Bool.{cases_eq, cases_lt}
use Rattle.std.proofs.lemmas.List.{get_or-set_other, get_or-set_same, get_or_append_left, get_or_past, get_or_push, length_push}
use Rattle.ng_plan.specs.declared.step.Place.{Place}
use Rattle.ng_terms.specs.declared.reply.Reply.{Reply}
use Rattle.ng_terms.specs.declared.reply.Reply.TheVariants.{Absent}
use Rattle.ng_replay.specs.Serial.{IsServed, done_in, reply_at}
use Rattle.ng_replay.proofs.SourceLemmas.{place-same}

-- the replies after one more to the op of a place
pub record Adds (replies more : List (List Reply)) (place : Place) (reply : Reply) : Type 0 where
  pub new : ¬ IsServed replies place
  pub served : IsServed more place
  pub here : reply_at more place ≡ reply
  pub others : (other : Place) → other ≢ place → reply_at more other ≡ reply_at replies other
  pub kept : (other : Place) → IsServed replies other → IsServed more other
  pub only : (other : Place) → IsServed more other → IsServed replies other ⊎ (other ≡ place)

pub Adds-push : (replies : List (List Reply)) (log : ℕ) (reply : Reply) → log < length replies
    → Adds replies (set replies log (get_or replies log [] ++ reply ∷ [])) (record { log = log; op = done_in replies log }) reply
Adds-push replies log reply within = record {
  new = λ before. omega arith;
  served = let long : done_in more log ≡ done_in replies log + 1 = ap length same ∙ length_push row reply in omega arith;
  here = ap (λ (r : List Reply). get_or r (done_in replies log) Absent) same ∙ get_or_push row reply Absent (done_in replies log) refl;
  others = others;
  kept = kept;
  only = only;
}
  where
    row : List Reply
    row = get_or replies log []

    more : List (List Reply)
    more = set replies log (row ++ reply ∷ [])

    same : get_or more log [] ≡ row ++ reply ∷ []
    same = get_or-set_same replies log (row ++ reply ∷ []) [] within

    apart : (other : Place) → other.log ≢ log → get_or more other.log [] ≡ get_or replies other.log []
    apart other away = get_or-set_other replies log other.log (row ++ reply ∷ []) [] away

    in_row : (op : ℕ) → op ≢ length row → get_or (row ++ reply ∷ []) op Absent ≡ get_or row op Absent
    in_row op away =
        ⊎_elim
        (λ below. get_or_append_left row (reply ∷ []) Absent op below)
        (λ past. get_or_past (row ++ reply ∷ []) op Absent (omega (arith, length_push row reply)) ∙ sym (get_or_past row op Absent past))
        (cases_lt op (length row))

    others : (other : Place) → other ≢ record { log = log; op = done_in replies log } → reply_at more other ≡ reply_at replies other
    others other away =
        ⊎_elim
        (λ here. let is : reply_at more other ≡ get_or (row ++ reply ∷ []) other.op Absent = ap (λ (l : ℕ). get_or (get_or more l []) other.op Absent) here ∙ ap (λ (r : List Reply). get_or r other.op Absent) same in
        is ∙ in_row other.op (λ at_end. away (place-same other (record { log = log; op = done_in replies log }) here at_end)) ∙ ap (λ (l : ℕ). get_or (get_or replies l []) other.op Absent) (sym here))
        (λ there. ap (λ (r : List Reply). get_or r other.op Absent) (apart other there))
        (cases_eq other.log log)

    long : done_in more log ≡ done_in replies log + 1
    long = ap length same ∙ length_push row reply

    kept : (other : Place) → IsServed replies other → IsServed more other
    kept other before =
        ⊎_elim
        (λ here. let was : done_in replies other.log ≡ done_in replies log = ap (done_in replies) here in let is : done_in more other.log ≡ done_in more log = ap (done_in more) here in omega (arith, long))
        (λ there. let is : done_in more other.log ≡ done_in replies other.log = ap length (apart other there) in omega arith)
        (cases_eq other.log log)

    only : (other : Place) → IsServed more other → IsServed replies other ⊎ (other ≡ record { log = log; op = done_in replies log })
    only other after = ⊎_elim in_log out (cases_eq other.log log)
      where
        out : other.log ≢ log → IsServed replies other ⊎ (other ≡ record { log = log; op = done_in replies log })
        out there = inl (let is : done_in more other.log ≡ done_in replies other.log = ap length (apart other there) in omega arith)

        in_log : other.log ≡ log → IsServed replies other ⊎ (other ≡ record { log = log; op = done_in replies log })
        in_log here =
            let was : done_in replies other.log ≡ done_in replies log = ap (done_in replies) here in
            let is : done_in more other.log ≡ done_in more log = ap (done_in more) here in
            ⊎_elim
            (λ below. inl below)
            (λ past. inr (place-same other (record { log = log; op = done_in replies log }) here (omega (arith, long))))
            (cases_lt other.op (done_in replies other.log))
