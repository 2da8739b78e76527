-- Chains of links.
use Rattle.std.proofs.Common.{◌≡◌, ◌≢◌, ℕ, suc, ◌<◌, List, [], ◌∷◌, ◌++◌, length, get_or, set, Contains, refl, ap, sym, subst, ◌∙◌, arith}
use Rattle.std.proofs.lemmas.List.{get_or-set_same, get_or-set_other}
use Rattle.std.proofs.lemmas.List.Elements.{Contains-append_right}
use Rattle.ng_lists.specs.Arrays.{AreLinked, IsChain, walk}
use Rattle.ng_lists.proofs.DistinctLemmas.{IsDistinct, distinct_head, distinct_tail}

-- the first of a list is in it
pub Contains-head : (x : ℕ) (xs : List ℕ) → Contains (x ∷ xs) x
Contains-head x xs = (0, omega arith, refl)

module _ (next prev : List ℕ) where
  pub IsChain-append : (from : ℕ) (xs : List ℕ) (y : ℕ) (ys : List ℕ) (to : ℕ) → IsChain next prev from xs y → IsChain next prev y ys to → IsChain next prev from (xs ++ y ∷ ys) to
  IsChain-append from [] y ys to front back = (front, back)
  IsChain-append from (x ∷ xs) y ys to (link, front) back = (link, IsChain-append x xs y ys to front back)

  pub chain_front : (from : ℕ) (xs : List ℕ) (y : ℕ) (ys : List ℕ) (to : ℕ) → IsChain next prev from (xs ++ y ∷ ys) to → IsChain next prev from xs y
  chain_front from [] y ys to (link, back) = link
  chain_front from (x ∷ xs) y ys to (link, rest) = (link, chain_front x xs y ys to rest)

  pub chain_back : (from : ℕ) (xs : List ℕ) (y : ℕ) (ys : List ℕ) (to : ℕ) → IsChain next prev from (xs ++ y ∷ ys) to → IsChain next prev y ys to
  chain_back from [] y ys to (link, back) = back
  chain_back from (x ∷ xs) y ys to (link, rest) = chain_back x xs y ys to rest

  -- a walk along a chain finds its indices
  pub walk-chain : (from : ℕ) (xs : List ℕ) (to : ℕ) → IsChain next prev from xs to → walk next (suc (length xs)) from ≡ from ∷ xs
  walk-chain from [] to link = refl
  walk-chain from (x ∷ xs) to (link, rest) =
      ap (λ ws. from ∷ ws) (ap (walk next (suc (length xs))) link.forth ∙ walk-chain x xs to rest)

  -- what is linked to the end of a chain is in it
  pub last_before : (from : ℕ) (xs : List ℕ) (to : ℕ) → IsChain next prev from xs to → Contains (from ∷ xs) (get_or prev to 0)
  last_before from [] to link = (0, omega arith, sym link.back)
  last_before from (x ∷ xs) to (link, rest) =
      Contains-append_right (from ∷ []) (x ∷ xs) (get_or prev to 0) (last_before x xs to rest)

  -- a chain whose last index is linked to another end
  pub chain_to : (from : ℕ) (xs : List ℕ) (to last end : ℕ) → IsChain next prev from xs to → get_or prev to 0 ≡ last → IsDistinct (from ∷ xs) → ¬ Contains xs end → last < length next → end < length prev → IsChain (set next last end) (set prev end last) from xs end
  chain_to from [] to last end link is distinct away inside within =
      let place : last ≡ from = sym is ∙ link.back in
      record {
        forth = ap (λ i. get_or (set next last end) i 0) (sym place) ∙ get_or-set_same next last end 0 inside;
        back = get_or-set_same prev end last 0 within ∙ place;
      }
  chain_to from (x ∷ xs) to last end (link, rest) is distinct away inside within =
      let member : Contains (x ∷ xs) last = subst (Contains (x ∷ xs)) is (last_before x xs to rest) in
      let first_is_other : from ≢ last = distinct_head from (x ∷ xs) distinct last member in
      let second_is_other : x ≢ end = λ same. away (0, omega arith, same) in
      let still_away : ¬ Contains xs end = λ in'. away (Contains-append_right (x ∷ []) xs end in') in
      let first : AreLinked (set next last end) (set prev end last) from x = record {
        forth = get_or-set_other next last from end 0 first_is_other ∙ link.forth;
        back = get_or-set_other prev end x last 0 second_is_other ∙ link.back;
      } in
      (first, chain_to x xs to last end rest is (distinct_tail from (x ∷ xs) distinct) still_away inside within)

  -- a chain stands where no link of its indices changed
  pub chain_kept : (next' prev' : List ℕ) (from : ℕ) (xs : List ℕ) (to : ℕ) → ((i : ℕ) → Contains (from ∷ xs) i → get_or next' i 0 ≡ get_or next i 0) → ((i : ℕ) → Contains (xs ++ to ∷ []) i → get_or prev' i 0 ≡ get_or prev i 0) → IsChain next prev from xs to → IsChain next' prev' from xs to
  chain_kept next' prev' from [] to forth back link = record {
    forth = forth from (Contains-head from []) ∙ link.forth;
    back = back to (Contains-head to []) ∙ link.back;
  }
  chain_kept next' prev' from (x ∷ xs) to forth back (link, rest) =
      let first : AreLinked next' prev' from x = record {
        forth = forth from (Contains-head from (x ∷ xs)) ∙ link.forth;
        back = back x (Contains-head x (xs ++ to ∷ [])) ∙ link.back;
      } in
      (first, chain_kept next' prev' x xs to (λ i in'. forth i (Contains-append_right (from ∷ []) (x ∷ xs) i in')) (λ i in'. back i (Contains-append_right (x ∷ []) (xs ++ to ∷ []) i in')) rest)
