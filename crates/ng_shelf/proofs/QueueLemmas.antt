-- The queue in the array.
use Rattle.std.proofs.Common.{◌≡◌, ◌≢◌, ℕ, zero, suc, ◌*◌, ◌<◌, ◌≤◌, List, [], length, get_or, replicate, All, Contains, refl, ap, ◌∙◌, arith, ⊎_elim}
use Rattle.std.proofs.lemmas.Bool.{cases_lt}
use Rattle.std.proofs.lemmas.List.{get_or_past, length-replicate}
use Rattle.std.proofs.lemmas.List.Elements.{All-contains}
use Rattle.ng_lists.specs.Arrays.{walk}
use Rattle.ng_lists.proofs.OpeningLemmas.{zero_read}
use Rattle.ng_shelf.specs.Queue.{IsQueue, linked, queue_at}
use Rattle.ng_shelf.proofs.LinkedLemmas.{linked_none}
use Rattle.ng_shelf.proofs.WalkLemmas.{length-walk}

-- a walk from an index without a link, all of whose indices have one, has none
none_from_unlinked : (after : List ℕ) (n first : ℕ) → All (λ index. get_or after index 0 ≢ 0) (walk after n first) → get_or after first 0 ≡ 0 → n ≡ 0
none_from_unlinked after zero first marked unlinked = refl
none_from_unlinked after (suc n) first marked unlinked = absurd (marked 0 0 (omega arith) unlinked)

module _ {after : List ℕ} {first last pages : ℕ} (is : IsQueue after first last pages) where
  -- what has a link is one of the array's
  pub linked_inside : (i : ℕ) → get_or after i 0 ≢ 0 → i < 101 * pages
  linked_inside i some = ⊎_elim
      (λ inside. omega (arith, is.sized))
      (λ past. absurd (some (get_or_past after i 0 past)))
      (cases_lt i (length after))

  pub member_linked : (i : ℕ) → Contains (queue_at after first) i → get_or after i 0 ≢ 0
  member_linked i in' = All-contains (λ j. get_or after j 0 ≢ 0) (queue_at after first) i is.marked in'

  -- what has no link isn't a member
  pub member_other : (i other : ℕ) → Contains (queue_at after first) i → get_or after other 0 ≡ 0 → i ≢ other
  member_other i other in' none same = member_linked i in' (ap (λ j. get_or after j 0) same ∙ none)

  -- no index has a link where the first has none
  pub none_linked : get_or after first 0 ≡ 0 → linked after ≡ 0
  none_linked = none_from_unlinked after (linked after) first is.marked

  pub queue_empty : get_or after first 0 ≡ 0 → queue_at after first ≡ []
  queue_empty unlinked = ap (λ n. walk after n first) (none_linked unlinked)

  -- where the first has one, some index does
  pub some_linked : get_or after first 0 ≢ 0 → 0 < linked after
  some_linked some =
      let (k, within, same) = is.found first some in
      omega (arith, length-walk after (linked after) first)

-- the queue at the start
pub opening_shown : (n : ℕ) → queue_at (replicate n 0) 0 ≡ []
opening_shown n = ap (λ k. walk (replicate n 0) k 0) (linked_none n)

pub opening_queue : (n pages : ℕ) → n ≡ 101 * pages → 16 ≤ pages → pages ≤ 16384 → IsQueue (replicate n 0) 0 0 pages
opening_queue n pages size least greatest =
    let empty : queue_at (replicate n 0) 0 ≡ [] = opening_shown n in
    record {
      least = least;
      greatest = greatest;
      sized = omega (arith, length-replicate {A = ℕ} n 0);
      first_inside = omega arith;
      last_inside = omega arith;
      inside = λ index. omega (arith, zero_read n index);
      placed = λ index some. absurd (some (zero_read n index));
      marked = rw empty (λ k d within. absurd (omega arith));
      distinct = rw empty (λ i j d less within. absurd (omega arith));
      found = λ index some. absurd (some (zero_read n index));
      ends = λ before some. absurd (omega (arith, linked_none n));
    }
