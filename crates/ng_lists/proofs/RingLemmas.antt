-- One ring in the arrays, and what each step makes of it.
use Rattle.std.proofs.Common.{◌≡◌, ◌≢◌, ℕ, ◌+◌, ◌<◌, List, [], ◌∷◌, ◌++◌, length, get_or, set, Contains, All, ap, sym, subst, ◌∙◌, arith, ⊎_elim, length-append}
use Rattle.std.proofs.lemmas.Bool.{cases_eq}
use Rattle.std.proofs.lemmas.List.{get_or-set_same, get_or-set_other, length_push}
use Rattle.std.proofs.lemmas.List.Elements.{All-contains, All-from_get_or, Contains-append_left, Contains-append_right, Contains-append_cases, Contains-get_or, Contains-push, Contains-push_cases}
use Rattle.ng_lists.specs.Arrays.{IsCircle, IsRing, ring_at, walk}
use Rattle.ng_lists.proofs.ChainLemmas.{Contains-head}
use Rattle.ng_lists.proofs.CircleLemmas.{circle_kept, circle_rotated, only, walk-circle}
use Rattle.ng_lists.proofs.CountLemmas.{members_kept, members_less, members_more}
use Rattle.ng_lists.proofs.DistinctLemmas.{IsDistinct, distinct_across, distinct_append, distinct_back, distinct_front, distinct_tail}

-- what holds of each index in a list holds of all
pub all_of : (P : ℕ → Type 0) (xs : List ℕ) → ((i : ℕ) → Contains xs i → P i) → All P xs
all_of P xs each = All-from_get_or P xs 0 (λ k within. each (get_or xs k 0) (Contains-get_or xs k 0 within))

-- two parts in either order have the same indices
pub swapped : (xs ys : List ℕ) (i : ℕ) → Contains (xs ++ ys) i → Contains (ys ++ xs) i
swapped xs ys i in' =
    ⊎_elim (λ left. Contains-append_right ys xs i left) (λ right. Contains-append_left ys xs i right) (Contains-append_cases xs ys i in')

module _ {next prev marks : List ℕ} {head class : ℕ} where
  -- the list of a ring is what the arrays show
  pub ring_at-is : {ring : List ℕ} → IsRing next prev marks head class ring → ring_at next marks class head ≡ ring
  ring_at-is {ring} is = ap (λ n. walk next n head) is.counted ∙ walk-circle next prev head ring is.circle

  -- each member has the class's mark
  pub mark_of : {ring : List ℕ} → IsRing next prev marks head class ring → (i : ℕ) → Contains ring i → get_or marks i 0 ≡ class + 1
  mark_of {ring} is i in' = All-contains (λ j. get_or marks j 0 ≡ class + 1) ring i is.marked in'

  -- what has another mark isn't a member
  pub apart_from : {ring : List ℕ} → IsRing next prev marks head class ring → (i other : ℕ) → Contains ring i → get_or marks other 0 ≢ class + 1 → i ≢ other
  apart_from {ring} is i other in' unmarked same =
      unmarked (ap (λ j. get_or marks j 0) (sym same) ∙ mark_of is i in')

  -- a ring stands where two others are joined
  pub ring_joined : {ring : List ℕ} → (from to : ℕ) → IsRing next prev marks head class ring → get_or marks from 0 ≢ class + 1 → get_or marks to 0 ≢ class + 1 → IsRing (set next from to) (set prev to from) marks head class ring
  ring_joined {ring} from to is not_from not_to = record {
    circle = circle_kept
        next
        prev
        (set next from to)
        (set prev to from)
        head
        ring
        (λ i in'. get_or-set_other next from i to 0 (apart_from is i from in' not_from))
        (λ i in'. get_or-set_other prev to i from 0 (apart_from is i to in' not_to))
        is.circle;
    marked = is.marked;
    distinct = is.distinct;
    found = is.found;
    counted = is.counted;
  }

  -- a ring stands where another gets or loses a mark
  pub ring_marked : {ring : List ℕ} → (i mark : ℕ) → IsRing next prev marks head class ring → i < length marks → get_or marks i 0 ≢ class + 1 → mark ≢ class + 1 → IsRing next prev (set marks i mark) head class ring
  ring_marked {ring} i mark is inside was now = record {
    circle = is.circle;
    marked = all_of (λ j. get_or (set marks i mark) j 0 ≡ class + 1) ring (λ j in'.
        get_or-set_other marks i j mark 0 (apart_from is j i in' was) ∙ mark_of is j in');
    distinct = is.distinct;
    found = λ j marked. ⊎_elim
        (λ same. absurd (now (sym (get_or-set_same marks i mark 0 inside) ∙ ap (λ x. get_or (set marks i mark) x 0) (sym same) ∙ marked)))
        (λ other. is.found j (sym (get_or-set_other marks i j mark 0 other) ∙ marked))
        (cases_eq j i);
    counted = members_kept marks i mark class inside was now ∙ is.counted;
  }

  -- the ring with one more member at its end
  pub ring_pushed : (ring next' prev' : List ℕ) (head' i : ℕ) → IsRing next prev marks head class ring → i < length marks → get_or marks i 0 ≢ class + 1 → IsCircle next' prev' head' (ring ++ i ∷ []) → IsRing next' prev' (set marks i (class + 1)) head' class (ring ++ i ∷ [])
  ring_pushed ring next' prev' head' i is inside was circle =
      let here : get_or (set marks i (class + 1)) i 0 ≡ class + 1 = get_or-set_same marks i (class + 1) 0 inside in
      record {
        circle = circle;
        marked = all_of (λ j. get_or (set marks i (class + 1)) j 0 ≡ class + 1) (ring ++ i ∷ []) (λ j in'. ⊎_elim
            (λ old. get_or-set_other marks i j (class + 1) 0 (apart_from is j i old was) ∙ mark_of is j old)
            (λ new. ap (λ x. get_or (set marks i (class + 1)) x 0) (sym new) ∙ here)
            (Contains-push_cases ring i j in'));
        distinct = distinct_append ring (i ∷ []) is.distinct (λ a b d less within. absurd (omega arith)) (λ x y left right same.
            apart_from is x i left was (same ∙ only i y right));
        found = λ j marked. ⊎_elim
            (λ same. subst (Contains (ring ++ i ∷ [])) (sym same) (Contains-push ring i))
            (λ other. Contains-append_left ring (i ∷ []) j (is.found j (sym (get_or-set_other marks i j (class + 1) 0 other) ∙ marked)))
            (cases_eq j i);
        counted = omega (arith, members_more marks i class inside was, is.counted, length_push ring i);
      }

  -- the ring without one of its members
  pub ring_removed : (front back next' prev' : List ℕ) (head' i mark : ℕ) → IsRing next prev marks head class (front ++ i ∷ back) → i < length marks → mark ≢ class + 1 → IsCircle next' prev' head' (front ++ back) → IsRing next' prev' (set marks i mark) head' class (front ++ back)
  ring_removed front back next' prev' head' i mark is inside now circle =
      let ring : List ℕ = front ++ i ∷ back in
      let distinct : IsDistinct (front ++ i ∷ back) = is.distinct in
      let behind : IsDistinct (i ∷ back) = distinct_back front (i ∷ back) distinct in
      let middle : Contains (front ++ i ∷ back) i = Contains-append_right front (i ∷ back) i (Contains-head i back) in
      let still : (j : ℕ) → Contains (front ++ back) j → Contains (front ++ i ∷ back) j = λ j in'. ⊎_elim
      (λ left. Contains-append_left front (i ∷ back) j left)
      (λ right. Contains-append_right front (i ∷ back) j (Contains-append_right (i ∷ []) back j right))
      (Contains-append_cases front back j in') in
      let other : (j : ℕ) → Contains (front ++ back) j → j ≢ i = λ j in'. ⊎_elim
      (λ left. distinct_across front (i ∷ back) distinct j i left (Contains-head i back))
      (λ right same. distinct_across (i ∷ []) back behind i j (Contains-head i []) right (sym same))
      (Contains-append_cases front back j in') in
      record {
        circle = circle;
        marked = all_of (λ j. get_or (set marks i mark) j 0 ≡ class + 1) (front ++ back) (λ j in'.
            get_or-set_other marks i j mark 0 (other j in') ∙ mark_of is j (still j in'));
        distinct = distinct_append front back (distinct_front front (i ∷ back) distinct) (distinct_tail i back behind) (λ x y left right.
            distinct_across front (i ∷ back) distinct x y left (Contains-append_right (i ∷ []) back y right));
        found = λ j marked. ⊎_elim
            (λ same. absurd (now (sym (get_or-set_same marks i mark 0 inside) ∙ ap (λ x. get_or (set marks i mark) x 0) (sym same) ∙ marked)))
            (λ apart. ⊎_elim
            (λ left. Contains-append_left front back j left)
            (λ right. ⊎_elim
            (λ first. absurd (apart (only i j first)))
            (λ later. Contains-append_right front back j later)
            (Contains-append_cases (i ∷ []) back j right))
            (Contains-append_cases front (i ∷ back) j (is.found j (sym (get_or-set_other marks i j mark 0 apart) ∙ marked))))
            (cases_eq j i);
        counted = omega (arith, members_less marks i mark class inside (mark_of is i middle) now, is.counted, length-append front (i ∷ back), length-append front back);
      }

  -- the ring from another of its members on
  pub ring_rotated : (front back : List ℕ) (i : ℕ) → IsRing next prev marks head class (front ++ i ∷ back) → IsRing next prev marks i class (i ∷ back ++ front)
  ring_rotated front back i is = record {
    circle = circle_rotated next prev head i front back is.circle;
    marked = all_of (λ j. get_or marks j 0 ≡ class + 1) (i ∷ back ++ front) (λ j in'.
        mark_of is j (swapped (i ∷ back) front j in'));
    distinct = distinct_append (i ∷ back) front (distinct_back front (i ∷ back) is.distinct) (distinct_front front (i ∷ back) is.distinct) (λ x y left right same.
        distinct_across front (i ∷ back) is.distinct y x right left (sym same));
    found = λ j marked. swapped front (i ∷ back) j (is.found j marked);
    counted = omega (arith, is.counted, length-append front (i ∷ back), length-append (i ∷ back) front);
  }
