-- The array with one more meta at the end of the queue.
use Rattle.std.proofs.Common.{◌≡◌, ◌≢◌, ℕ, suc, ◌+◌, ◌-◌, ◌*◌, ◌<◌, ◌≤◌, List, [], ◌∷◌, ◌++◌, length, get_or, set, Contains, ap, sym, subst, ◌∙◌, arith, ⊎_elim, length-set}
use Rattle.std.proofs.lemmas.Bool.{cases_eq}
use Rattle.std.proofs.lemmas.List.{get_or_push, get_or-set_same, get_or-set_other}
use Rattle.std.proofs.lemmas.List.Elements.{Contains-append_left, Contains-get_or, Contains-push, Contains-push_cases}
use Rattle.ng_lists.specs.Arrays.{walk}
use Rattle.ng_lists.proofs.CircleLemmas.{only}
use Rattle.ng_lists.proofs.DistinctLemmas.{distinct_append}
use Rattle.ng_lists.proofs.RingLemmas.{all_of}
use Rattle.ng_shelf.specs.Queue.{IsQueue, linked, queue_at}
use Rattle.ng_shelf.proofs.LinkedLemmas.{linked_kept, linked_more}
use Rattle.ng_shelf.proofs.QueueLemmas.{member_linked, member_other, none_linked, queue_empty, some_linked}
use Rattle.ng_shelf.proofs.WalkLemmas.{length-walk, walk-more, walk-set_other}

-- what the step makes of the array: one index more has a link, and stands at the end of the queue
pub record Appends (after : List ℕ) (first : ℕ) (after' : List ℕ) (first' i pages : ℕ) : Type 0 where
  pub sized : length after' ≡ length after
  pub first_inside : first' < 101 * pages
  pub inside : (j : ℕ) → get_or after' j 0 < 101 * pages
  pub here : get_or after' i 0 ≢ 0
  pub still : (j : ℕ) → get_or after j 0 ≢ 0 → get_or after' j 0 ≢ 0
  pub before : (j : ℕ) → j ≢ i → get_or after' j 0 ≢ 0 → get_or after j 0 ≢ 0
  pub many : linked after' ≡ linked after + 1
  pub queue : queue_at after' first' ≡ queue_at after first ++ i ∷ []

module _ {after : List ℕ} {first last pages : ℕ} (is : IsQueue after first last pages) (i : ℕ) (mapped : 101 ≤ i) (inside : i < 101 * pages) (absent : get_or after i 0 ≡ 0) where
  abbrev queue : List ℕ
  queue = queue_at after first

  pub still_queue : {after' : List ℕ} {first' : ℕ} → Appends after first after' first' i pages → IsQueue after' first' i pages
  still_queue {after'} {first'} step = record {
    least = is.least;
    greatest = is.greatest;
    sized = step.sized ∙ is.sized;
    first_inside = step.first_inside;
    last_inside = inside;
    inside = step.inside;
    placed = λ j some. ⊎_elim
        (λ same. omega arith)
        (λ other. is.placed j (step.before j other some))
        (cases_eq j i);
    marked = subst (λ xs. (k d : ℕ) → k < length xs → get_or after' (get_or xs k d) 0 ≢ 0) (sym step.queue) (all_of (λ j. get_or after' j 0 ≢ 0) (queue ++ i ∷ []) (λ j in'. ⊎_elim
        (λ old. step.still j (member_linked is j old))
        (λ new. subst (λ x. get_or after' x 0 ≢ 0) new step.here)
        (Contains-push_cases queue i j in')));
    distinct = subst (λ xs. (k j d : ℕ) → k < j → j < length xs → get_or xs k d ≢ get_or xs j d) (sym step.queue) (distinct_append queue (i ∷ []) is.distinct (λ a b d less within. absurd (omega arith)) (λ x y left right same.
        member_other is x i left absent (same ∙ only i y right)));
    found = λ j some. subst (λ xs. Contains xs j) (sym step.queue) (⊎_elim
        (λ same. subst (Contains (queue ++ i ∷ [])) (sym same) (Contains-push queue i))
        (λ other. Contains-append_left queue (i ∷ []) j (is.found j (step.before j other some)))
        (cases_eq j i));
    ends = λ before same.
        let place : length (queue_at after first) ≡ before = omega (arith, step.many, length-walk after (linked after) first) in
        ap (λ xs. get_or xs before 0) step.queue ∙ get_or_push queue i 0 before place;
  }

  -- as the only one
  pub as_first : get_or after first 0 ≡ 0 → Appends after first (set after i i) i i pages
  as_first unlinked =
      let here : get_or (set after i i) i 0 ≡ i = get_or-set_same after i i 0 (omega (arith, is.sized)) in
      let many : linked (set after i i) ≡ linked after + 1 = linked_more after i i (omega (arith, is.sized)) absent (omega arith) in
      let one : linked (set after i i) ≡ 1 = omega (arith, none_linked is unlinked) in
      record {
        sized = length-set after i i;
        first_inside = inside;
        inside = λ j. ⊎_elim
            (λ same. omega (arith, ap (λ x. get_or (set after i i) x 0) same))
            (λ other. omega (arith, get_or-set_other after i j i 0 other, is.inside j))
            (cases_eq j i);
        here = omega arith;
        still = λ j some. ⊎_elim
            (λ same. absurd (some (ap (λ x. get_or after x 0) same ∙ absent)))
            (λ other none. some (sym (get_or-set_other after i j i 0 other) ∙ none))
            (cases_eq j i);
        before = λ j other some none. some (get_or-set_other after i j i 0 other ∙ none);
        many = many;
        queue = ap (λ n. walk (set after i i) n i) one ∙ ap (λ xs. xs ++ i ∷ []) (sym (queue_empty is unlinked));
      }

  -- behind the last
  module _ (some : get_or after first 0 ≢ 0) where
    abbrev mid : List ℕ
    mid = set after last i

    -- the place of the last
    record Behind : Type 0 where
      pub count : ℕ
      pub many : linked after ≡ suc count
      pub queue : queue_at after first ≡ walk after (suc count) first
      pub end : get_or (walk after (suc count) first) count 0 ≡ last

    behind : Behind
    behind =
        let count : ℕ = linked after - 1 in
        let many : linked after ≡ suc (linked after - 1) = omega (arith, some_linked is some) in
        let queue' : queue_at after first ≡ walk after (suc (linked after - 1)) first = ap (λ n. walk after n first) many in
        record {
          count = linked after - 1;
          many = many;
          queue = queue';
          end = ap (λ xs. get_or xs (linked after - 1) 0) (sym queue') ∙ is.ends (linked after - 1) many;
        }

    last_member : Contains (queue_at after first) last
    last_member =
        let within : behind.count < length (walk after (suc behind.count) first) = omega (arith, length-walk after (suc behind.count) first) in
        subst
        (λ xs. Contains xs last)
        (sym behind.queue)
        (subst (Contains (walk after (suc behind.count) first)) behind.end (Contains-get_or (walk after (suc behind.count) first) behind.count 0 within))

    last_linked : get_or after last 0 ≢ 0
    last_linked = member_linked is last last_member

    last_other : last ≢ i
    last_other = member_other is last i last_member absent

    -- no index before the last is the last, and none is the new one
    before_last : (k : ℕ) → k + 1 < suc behind.count → get_or (walk after (suc behind.count) first) k 0 ≢ last
    before_last k within same =
        subst
        (λ xs. (a b d : ℕ) → a < b → b < length xs → get_or xs a d ≢ get_or xs b d)
        behind.queue
        is.distinct
        k
        behind.count
        0
        (omega arith)
        (omega (arith, length-walk after (suc behind.count) first))
        (same ∙ sym behind.end)

    not_new : (k : ℕ) → k + 1 < suc behind.count → get_or (walk after (suc behind.count) first) k 0 ≢ i
    not_new k within =
        let inner : k < length (walk after (suc behind.count) first) = omega (arith, length-walk after (suc behind.count) first) in
        member_other is (get_or (walk after (suc behind.count) first) k 0) i (subst (λ xs. Contains xs (get_or (walk after (suc behind.count) first) k 0)) (sym behind.queue) (Contains-get_or (walk after (suc behind.count) first) k 0 inner)) absent

    walk_kept : walk (set (set after last i) i i) (suc behind.count) first ≡ walk after (suc behind.count) first
    walk_kept =
        let once : walk (set after last i) (suc behind.count) first ≡ walk after (suc behind.count) first =
        walk-set_other after last i (suc behind.count) first before_last in
        walk-set_other mid i i (suc behind.count) first (λ k within. subst (λ xs. get_or xs k 0 ≢ i) (sym once) (not_new k within)) ∙ once

    last_links : get_or (set (set after last i) i i) last 0 ≡ i
    last_links = get_or-set_other mid i last i 0 last_other ∙ get_or-set_same after last i 0 (omega (arith, is.last_inside, is.sized))

    mid_other : (j : ℕ) → j ≢ last → get_or (set after last i) j 0 ≡ get_or after j 0
    mid_other j other = get_or-set_other after last j i 0 other

    new_other : (j : ℕ) → j ≢ i → j ≢ last → get_or (set (set after last i) i i) j 0 ≡ get_or after j 0
    new_other j other apart = get_or-set_other mid i j i 0 other ∙ mid_other j apart

    new_here : get_or (set (set after last i) i i) i 0 ≡ i
    new_here = get_or-set_same mid i i 0 (omega (arith, length-set after last i, is.sized))

    pub at_end : Appends after first (set (set after last i) i i) first i pages
    at_end =
        let absent' : get_or (set after last i) i 0 ≡ 0 = mid_other i (λ same. last_other (sym same)) ∙ absent in
        let kept : linked (set after last i) ≡ linked after = linked_kept after last i (omega (arith, is.last_inside, is.sized)) last_linked (omega arith) in
        let more : linked (set (set after last i) i i) ≡ linked (set after last i) + 1 =
        linked_more mid i i (omega (arith, length-set after last i, is.sized)) absent' (omega arith) in
        let count : linked (set (set after last i) i i) ≡ suc (suc behind.count) = omega (arith, behind.many) in
        let end : get_or (walk (set (set after last i) i i) (suc behind.count) first) behind.count 0 ≡ last =
        ap (λ xs. get_or xs behind.count 0) walk_kept ∙ behind.end in
        record {
          sized = length-set mid i i ∙ length-set after last i;
          first_inside = is.first_inside;
          inside = λ j. ⊎_elim
              (λ same. omega (arith, ap (λ x. get_or (set mid i i) x 0) same, new_here))
              (λ other. ⊎_elim
              (λ same. omega (arith, ap (λ x. get_or (set mid i i) x 0) same, last_links))
              (λ apart. omega (arith, new_other j other apart, is.inside j))
              (cases_eq j last))
              (cases_eq j i);
          here = omega (arith, new_here);
          still = λ j some'. ⊎_elim
              (λ same. absurd (some' (ap (λ x. get_or after x 0) same ∙ absent)))
              (λ other. ⊎_elim
              (λ same. subst (λ x. get_or (set mid i i) x 0 ≢ 0) (sym same) (omega (arith, last_links)))
              (λ apart none. some' (sym (new_other j other apart) ∙ none))
              (cases_eq j last))
              (cases_eq j i);
          before = λ j other some'. ⊎_elim
              (λ same. subst (λ x. get_or after x 0 ≢ 0) (sym same) last_linked)
              (λ apart none. some' (new_other j other apart ∙ none))
              (cases_eq j last);
          many = omega arith;
          queue = ap (λ n. walk (set mid i i) n first) count ∙ walk-more (set mid i i) behind.count first ∙ ap (λ x. walk (set mid i i) (suc behind.count) first ++ get_or (set mid i i) x 0 ∷ []) end ∙ ap (λ x. walk (set mid i i) (suc behind.count) first ++ x ∷ []) last_links ∙ ap (λ xs. xs ++ i ∷ []) (walk_kept ∙ sym behind.queue);
        }
