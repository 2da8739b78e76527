-- Once round a ring, from one of its metas on.
use Rattle.std.proofs.Common.{◌≡◌, ◌≢◌, ◌⊎◌, ℕ, ◌<◌, List, [], ◌∷◌, ◌++◌, length, get_or, Contains, refl, sym, ap, ◌∙◌, subst, ⊎_elim, inl, inr, arith}
use Rattle.std.proofs.lemmas.List.{append_assoc, append-nil, get_or_append_left, length-append}
use Rattle.std.proofs.lemmas.List.Elements.{Contains-append_cases, Contains-append_right, Contains-get_or, Contains-push_cases}
use Rattle.ng_lists.specs.Rings.{after, before, next_in, rotated}
use Rattle.ng_lists.proofs.ChainLemmas.{Contains-head}
use Rattle.ng_lists.proofs.CircleLemmas.{only}
use Rattle.ng_lists.proofs.DistinctLemmas.{IsDistinct, distinct_across, distinct_append, distinct_back, distinct_front, distinct_tail}
use Rattle.ng_lists.proofs.TableLemmas.{after-split, before-split, first_split, next_in-split, rotated-split}

-- ---- the meta after one is the same in the rotated ring
first_of : (xs ys : List ℕ) → xs ≡ ys → get_or xs 0 0 ≡ get_or ys 0 0
first_of xs ys e = ap (λ l. get_or l 0 0) e

module _ (f : List ℕ) (start : ℕ) (b : List ℕ) (distinct : IsDistinct (f ++ start ∷ b)) where
  not_before : ¬ Contains f start
  not_before s = distinct_across f (start ∷ b) distinct start start s (Contains-head start b) refl

  turned : rotated start (f ++ start ∷ b) ≡ start ∷ b ++ f
  turned = rotated-split f start b not_before

  back_distinct : IsDistinct b
  back_distinct = distinct_tail start b (distinct_back f (start ∷ b) distinct)

  pub turned_distinct : IsDistinct (start ∷ b ++ f)
  turned_distinct = distinct_append (start ∷ b) f (distinct_back f (start ∷ b) distinct) (distinct_front f (start ∷ b) distinct)
      (λ x y s t e. distinct_across f (start ∷ b) distinct y x t s (sym e))

  next_at_start : next_in (f ++ start ∷ b) start ≡ next_in (start ∷ b ++ f) start
  next_at_start =
      next_in-split f start b not_before
      ∙ first_of _ _ (ap (λ l. l ++ start ∷ []) (sym (append-nil (b ++ f))))
      ∙ sym (next_in-split [] start (b ++ f) (λ s. absurd (nowhere s)))
    where
      nowhere : Contains [] start → ⊥
      nowhere (k, within, is) = omega arith

  module _ (at : ℕ) (front back : List ℕ) where
    -- it is behind the start
    next_behind : b ≡ front ++ at ∷ back → next_in (f ++ start ∷ b) at ≡ next_in (start ∷ b ++ f) at
    next_behind e =
        let ring : f ++ start ∷ b ≡ (f ++ start ∷ front) ++ at ∷ back = ap (λ l. f ++ start ∷ l) e ∙ sym (append_assoc f (start ∷ front) (at ∷ back)) in
        let turn : start ∷ b ++ f ≡ (start ∷ front) ++ at ∷ (back ++ f) = ap (λ l. start ∷ l ++ f) e ∙ append_assoc (start ∷ front) (at ∷ back) f in
        ap (λ l. next_in l at) ring
        ∙ next_in-split (f ++ start ∷ front) at back (λ s. distinct_across (f ++ start ∷ front) (at ∷ back) (subst IsDistinct ring distinct) at at s (Contains-head at back) refl)
        ∙ first_of _ _ (ap (λ l. l ++ at ∷ []) (sym (append_assoc back f (start ∷ front))))
        ∙ sym (next_in-split (start ∷ front) at (back ++ f) (λ s. distinct_across (start ∷ front) (at ∷ (back ++ f)) (subst IsDistinct turn turned_distinct) at at s (Contains-head at (back ++ f)) refl))
        ∙ ap (λ l. next_in l at) (sym turn)

    -- it is before it
    next_before : f ≡ front ++ at ∷ back → next_in (f ++ start ∷ b) at ≡ next_in (start ∷ b ++ f) at
    next_before e =
        let ring : f ++ start ∷ b ≡ front ++ at ∷ (back ++ start ∷ b) = ap (λ l. l ++ start ∷ b) e ∙ append_assoc front (at ∷ back) (start ∷ b) in
        let turn : start ∷ b ++ f ≡ (start ∷ b ++ front) ++ at ∷ back = ap (λ l. start ∷ b ++ l) e ∙ sym (append_assoc (start ∷ b) front (at ∷ back)) in
        ap (λ l. next_in l at) ring
        ∙ next_in-split front at (back ++ start ∷ b) (λ s. distinct_across front (at ∷ (back ++ start ∷ b)) (subst IsDistinct ring distinct) at at s (Contains-head at (back ++ start ∷ b)) refl)
        ∙ first_of _ _ (ap (λ l. l ++ at ∷ []) (append_assoc back (start ∷ b) front))
        ∙ sym (next_in-split (start ∷ b ++ front) at back (λ s. distinct_across (start ∷ b ++ front) (at ∷ back) (subst IsDistinct turn turned_distinct) at at s (Contains-head at back) refl))
        ∙ ap (λ l. next_in l at) (sym turn)

  next_same : (at : ℕ) → Contains (f ++ start ∷ b) at → next_in (f ++ start ∷ b) at ≡ next_in (start ∷ b ++ f) at
  next_same at s = ⊎_elim
      (λ (left : Contains f at). let split = first_split f at left in next_before at split.front split.back split.whole)
      (λ (right : Contains (start ∷ b) at). ⊎_elim
      (λ (here : Contains (start ∷ []) at). let e : at ≡ start = only start at here in subst (λ x. next_in (f ++ start ∷ b) x ≡ next_in (start ∷ b ++ f) x) (sym e) next_at_start)
      (λ (later : Contains b at). let split = first_split b at later in next_behind at split.front split.back split.whole)
      (Contains-append_cases (start ∷ []) b at right))
      (Contains-append_cases f (start ∷ b) at s)

pub rotated_distinct : (ring : List ℕ) (start : ℕ) → IsDistinct ring → Contains ring start → IsDistinct (rotated start ring)
rotated_distinct ring start distinct member =
    let split = first_split ring start member in
    let whole : IsDistinct (split.front ++ start ∷ split.back) = subst IsDistinct split.whole distinct in
    subst IsDistinct (sym (ap (rotated start) split.whole ∙ turned split.front start split.back whole)) (turned_distinct split.front start split.back whole)

pub next_rotated : (ring : List ℕ) (start at : ℕ) → IsDistinct ring → Contains ring start → Contains ring at → next_in ring at ≡ next_in (rotated start ring) at
next_rotated ring start at distinct member here =
    let split = first_split ring start member in
    let whole : IsDistinct (split.front ++ start ∷ split.back) = subst IsDistinct split.whole distinct in
    ap (λ l. next_in l at) split.whole
    ∙ next_same split.front start split.back whole at (subst (λ l. Contains l at) split.whole here)
    ∙ ap (λ l. next_in l at) (sym (ap (rotated start) split.whole ∙ turned split.front start split.back whole))

-- ---- a step of the walk
-- it goes on: one meta more was passed
pub record GoesOn (xs : List ℕ) (at next : ℕ) : Type 0 where
  pub member : Contains xs next
  pub passed : (m : ℕ) → Contains (before next xs) m → Contains (before at xs) m ⊎ (m ≡ at)
  pub less : length (after next xs) < length (after at xs)

-- or it ends: all were
abbrev pub IsRound : List ℕ → ℕ → Type 0
IsRound xs at = (m : ℕ) → Contains xs m → Contains (before at xs) m ⊎ (m ≡ at)

pub record Step (xs : List ℕ) (at next : ℕ) : Type 0 where
  pub ends : next ≡ get_or xs 0 0 → IsRound xs at
  pub goes_on : next ≢ get_or xs 0 0 → GoesOn xs at next

module _ (front : List ℕ) (at : ℕ) where
  abbrev passed : List ℕ
  passed = front ++ at ∷ []

  some_passed : 0 < length passed
  some_passed = omega (arith, length-append front (at ∷ []))

  step_at : (back : List ℕ) → IsDistinct (front ++ at ∷ back) → Step (front ++ at ∷ back) at (next_in (front ++ at ∷ back) at)
  step_at [] distinct =
      let away : ¬ Contains front at = λ s. distinct_across front (at ∷ []) distinct at at s (Contains-head at []) refl in
      let first : next_in passed at ≡ get_or passed 0 0 = next_in-split front at [] away in record {
        ends = λ e m s. ⊎_elim (λ left. inl (subst (λ l. Contains l m) (sym (before-split front at [] away)) left)) (λ same. inr (sym same)) (Contains-push_cases front at m s);
        goes_on = λ ne. absurd (ne first);
      }
  step_at (z ∷ back) distinct =
      let whole : front ++ at ∷ z ∷ back ≡ passed ++ z ∷ back = sym (append_assoc front (at ∷ []) (z ∷ back)) in
      let split_at : IsDistinct (passed ++ z ∷ back) = subst IsDistinct whole distinct in
      let away : ¬ Contains front at = λ s. distinct_across front (at ∷ z ∷ back) distinct at at s (Contains-head at (z ∷ back)) refl in
      let away_next : ¬ Contains passed z = λ s. distinct_across passed (z ∷ back) split_at z z s (Contains-head z back) refl in
      let first : next_in (front ++ at ∷ z ∷ back) at ≡ z = next_in-split front at (z ∷ back) away in
      let begins : get_or (front ++ at ∷ z ∷ back) 0 0 ≡ get_or passed 0 0 = ap (λ l. get_or l 0 0) whole ∙ get_or_append_left passed (z ∷ back) 0 0 some_passed in
      let other : get_or passed 0 0 ≢ z = distinct_across passed (z ∷ back) split_at (get_or passed 0 0) z (Contains-get_or passed 0 0 some_passed) (Contains-head z back) in
      let passed_is : before z (front ++ at ∷ z ∷ back) ≡ passed = ap (before z) whole ∙ before-split passed z back away_next in
      let left_is : after z (front ++ at ∷ z ∷ back) ≡ back = ap (after z) whole ∙ after-split passed z back away_next in
      let left_was : after at (front ++ at ∷ z ∷ back) ≡ z ∷ back = after-split front at (z ∷ back) away in
      let was : before at (front ++ at ∷ z ∷ back) ≡ front = before-split front at (z ∷ back) away in
      let on : GoesOn (front ++ at ∷ z ∷ back) at z = record {
        member = subst (λ l. Contains l z) (sym whole) (Contains-append_right passed (z ∷ back) z (Contains-head z back));
        passed = λ m s. ⊎_elim
            (λ left. inl (subst (λ l. Contains l m) (sym was) left))
            (λ same. inr (sym same))
            (Contains-push_cases front at m (subst (λ l. Contains l m) passed_is s));
        less = (let l = ap length left_is in let k = ap length left_was in omega arith);
      } in record {
        ends = λ e. absurd (other (sym begins ∙ sym e ∙ first));
        goes_on = λ ne. subst (GoesOn (front ++ at ∷ z ∷ back) at) (sym first) on;
      }

pub step_of : (xs : List ℕ) (at : ℕ) → IsDistinct xs → Contains xs at → Step xs at (next_in xs at)
step_of xs at distinct member =
    let split = first_split xs at member in
    subst (λ l. Step l at (next_in l at)) (sym split.whole) (step_at split.front at split.back (subst IsDistinct split.whole distinct))
