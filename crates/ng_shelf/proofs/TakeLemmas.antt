-- The array without the first meta of the queue.
use Rattle.std.proofs.Common.{◌≡◌, ◌≢◌, ℕ, zero, suc, ◌+◌, ◌<◌, List, [], ◌∷◌, length, get_or, set, Contains, ap, sym, subst, ◌∙◌, arith, ⊎_elim, length-set}
use Rattle.std.proofs.lemmas.Bool.{cases_eq}
use Rattle.std.proofs.lemmas.List.{get_or-set_same, get_or-set_other}
use Rattle.std.proofs.lemmas.List.Elements.{Contains-append_right, Contains-get_or}
use Rattle.ng_lists.specs.Arrays.{walk}
use Rattle.ng_lists.proofs.DistinctLemmas.{IsDistinct, distinct_head, distinct_tail}
use Rattle.ng_lists.proofs.RingLemmas.{all_of}
use Rattle.ng_shelf.specs.Queue.{IsQueue, linked, queue_at}
use Rattle.ng_shelf.proofs.LinkedLemmas.{linked_less}
use Rattle.ng_shelf.proofs.QueueLemmas.{member_linked}
use Rattle.ng_shelf.proofs.WalkLemmas.{length-walk, walk-set_other}

-- what a list has besides its first
in_tail : (x : ℕ) (xs : List ℕ) (i : ℕ) → i ≢ x → Contains (x ∷ xs) i → Contains xs i
in_tail x xs i other (zero, within, same) = absurd (other (sym same))
in_tail x xs i other (suc k, within, same) = (k, omega arith, same)

module _ {after : List ℕ} {first last pages : ℕ} (is : IsQueue after first last pages) (some : get_or after first 0 ≢ 0) where
  abbrev next : ℕ
  next = get_or after first 0

  less : linked (set after first 0) + 1 ≡ linked after
  less = linked_less after first (omega (arith, is.first_inside, is.sized)) some

  -- the queue's first, and what is behind it
  whole : queue_at after first ≡ first ∷ walk after (linked (set after first 0)) (get_or after first 0)
  whole =
      let count : linked after ≡ suc (linked (set after first 0)) = omega (arith, less) in
      ap (λ n. walk after n first) count

  distinct_whole : IsDistinct (first ∷ walk after (linked (set after first 0)) (get_or after first 0))
  distinct_whole = subst (λ xs. (k j d : ℕ) → k < j → j < length xs → get_or xs k d ≢ get_or xs j d) whole is.distinct

  rest_is : queue_at (set after first 0) (get_or after first 0) ≡ walk after (linked (set after first 0)) (get_or after first 0)
  rest_is = walk-set_other after first 0 (linked (set after first 0)) next (λ k within same.
      let inner : k < length (walk after (linked (set after first 0)) (get_or after first 0)) = omega (arith, length-walk after (linked (set after first 0)) next) in
      distinct_head first (walk after (linked (set after first 0)) next) distinct_whole (get_or (walk after (linked (set after first 0)) next) k 0) (Contains-get_or (walk after (linked (set after first 0)) next) k 0 inner) (sym same))

  pub split : queue_at after first ≡ first ∷ queue_at (set after first 0) (get_or after first 0)
  split = whole ∙ ap (λ xs. first ∷ xs) (sym rest_is)

  abbrev rest : List ℕ
  rest = queue_at (set after first 0) next

  distinct_split : IsDistinct (first ∷ queue_at (set after first 0) (get_or after first 0))
  distinct_split = subst (λ xs. (k j d : ℕ) → k < j → j < length xs → get_or xs k d ≢ get_or xs j d) split is.distinct

  here : get_or (set after first 0) first 0 ≡ 0
  here = get_or-set_same after first 0 0 (omega (arith, is.first_inside, is.sized))

  other_link : (j : ℕ) → j ≢ first → get_or (set after first 0) j 0 ≡ get_or after j 0
  other_link j other = get_or-set_other after first j 0 0 other

  -- what still has a link isn't the first
  not_first : (j : ℕ) → get_or (set after first 0) j 0 ≢ 0 → j ≢ first
  not_first j some' same = some' (ap (λ x. get_or (set after first 0) x 0) same ∙ here)

  before : (j : ℕ) → get_or (set after first 0) j 0 ≢ 0 → get_or after j 0 ≢ 0
  before j some' none = some' (other_link j (not_first j some') ∙ none)

  pub taken_queue : IsQueue (set after first 0) (get_or after first 0) last pages
  taken_queue = record {
    least = is.least;
    greatest = is.greatest;
    sized = length-set after first 0 ∙ is.sized;
    first_inside = is.inside first;
    last_inside = is.last_inside;
    inside = λ j. ⊎_elim
        (λ same. omega (arith, ap (λ x. get_or (set after first 0) x 0) same, here, is.least))
        (λ other. omega (arith, other_link j other, is.inside j))
        (cases_eq j first);
    placed = λ j some'. is.placed j (before j some');
    marked = all_of (λ j. get_or (set after first 0) j 0 ≢ 0) rest (λ j in' none.
        let member : Contains (queue_at after first) j = subst (λ xs. Contains xs j) (sym split) (Contains-append_right (first ∷ []) rest j in') in
        member_linked is j member (sym (other_link j (λ same. distinct_head first rest distinct_split j in' (sym same))) ∙ none));
    distinct = distinct_tail first rest distinct_split;
    found = λ j some'. in_tail first rest j (not_first j some') (subst (λ xs. Contains xs j) split (is.found j (before j some')));
    ends = λ k same.
        let count : linked after ≡ suc (suc k) = omega (arith, less) in
        ap (λ xs. get_or xs (suc k) 0) (sym split) ∙ is.ends (suc k) count;
  }
