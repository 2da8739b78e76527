-- Circles of links, and what joins do to them.
use Rattle.std.proofs.Common.{◌≡◌, ◌≢◌, ℕ, zero, suc, ◌<◌, List, [], ◌∷◌, ◌++◌, length, get_or, set, Contains, refl, ap, sym, subst, ◌∙◌, arith, ⊎_elim, length-set}
use Rattle.std.proofs.lemmas.List.{append-nil, get_or-set_same, get_or-set_other}
use Rattle.std.proofs.lemmas.List.Elements.{Contains-append_left, Contains-append_right, Contains-append_cases}
use Rattle.ng_lists.specs.Arrays.{AreLinked, IsChain, IsCircle, walk}
use Rattle.ng_lists.proofs.ChainLemmas.{Contains-head, IsChain-append, chain_back, chain_front, chain_kept, chain_to, last_before, walk-chain}
use Rattle.ng_lists.proofs.DistinctLemmas.{IsDistinct, distinct_across, distinct_back, distinct_front, distinct_head, distinct_tail}

-- what a list and its first index after it contain, the list contains
Contains-closed : (x : ℕ) (xs : List ℕ) (i : ℕ) → Contains (xs ++ x ∷ []) i → Contains (x ∷ xs) i
Contains-closed x xs i in' = ⊎_elim
    (λ inner. Contains-append_right (x ∷ []) xs i inner)
    (λ end. Contains-append_left (x ∷ []) xs i end)
    (Contains-append_cases xs (x ∷ []) i in')

-- the one index of a list of one
pub only : (x i : ℕ) → Contains (x ∷ []) i → i ≡ x
only x i (zero, within, is) = sym is
only x i (suc k, within, is) = absurd (omega arith)

module _ (next prev : List ℕ) where
  -- a walk round a circle finds its indices
  pub walk-circle : (head : ℕ) (ring : List ℕ) → IsCircle next prev head ring → walk next (length ring) head ≡ ring
  walk-circle head [] circle = refl
  walk-circle head (x ∷ xs) (same, chain) = ap (walk next (length (x ∷ xs))) same ∙ walk-chain next prev x xs x chain

  -- a circle stands where no link of its indices changed
  pub circle_kept : (next' prev' : List ℕ) (head : ℕ) (ring : List ℕ) → ((i : ℕ) → Contains ring i → get_or next' i 0 ≡ get_or next i 0) → ((i : ℕ) → Contains ring i → get_or prev' i 0 ≡ get_or prev i 0) → IsCircle next prev head ring → IsCircle next' prev' head ring
  circle_kept next' prev' head [] forth back circle = tt
  circle_kept next' prev' head (x ∷ xs) forth back (same, chain) =
      (same, chain_kept next prev next' prev' x xs x forth (λ i in'. back i (Contains-closed x xs i in')) chain)

  -- a circle of one
  pub circle_alone : (i : ℕ) → i < length next → i < length prev → IsCircle (set next i i) (set prev i i) i (i ∷ [])
  circle_alone i inside within = (
    refl,
    record {
      forth = get_or-set_same next i i 0 inside;
      back = get_or-set_same prev i i 0 within;
    },
  )

  -- the first index of a circle
  pub circle_head : (head x : ℕ) (xs : List ℕ) → IsCircle next prev head (x ∷ xs) → head ≡ x
  circle_head head x xs (same, chain) = same

  -- an index joined in between the last and the first
  pub circle_push : (head last i : ℕ) (x : ℕ) (xs : List ℕ) → IsCircle next prev head (x ∷ xs) → get_or prev head 0 ≡ last → IsDistinct (x ∷ xs) → ¬ Contains (x ∷ xs) i → last < length next → i < length next → i < length prev → head < length prev → IsCircle (set (set next last i) i head) (set (set prev i last) head i) head ((x ∷ xs) ++ i ∷ [])
  circle_push head last i x xs (same, chain) is distinct away inside room within first =
      let is' : get_or prev x 0 ≡ last = ap (λ h. get_or prev h 0) (sym same) ∙ is in
      let opened : IsChain (set next last i) (set prev i last) x xs i =
      chain_to next prev x xs x last i chain is' distinct (λ in'. away (Contains-append_right (x ∷ []) xs i in')) inside within in
      let apart : x ≢ i = λ e. away (0, omega arith, e) in
      let kept : IsChain (set (set next last i) i x) (set (set prev i last) x i) x xs i = chain_kept
      (set next last i)
      (set prev i last)
      (set (set next last i) i x)
      (set (set prev i last) x i)
      x
      xs
      i
      (λ j in'. get_or-set_other (set next last i) i j x 0 (λ e. away (subst (Contains (x ∷ xs)) e in')))
      (λ j in'. get_or-set_other (set prev i last) x j i 0 (λ e. ⊎_elim
      (λ inner. distinct_head x xs distinct j inner (sym e))
      (λ end. apart (sym e ∙ only i j end))
      (Contains-append_cases xs (i ∷ []) j in')))
      opened in
      let link : AreLinked (set (set next last i) i x) (set (set prev i last) x i) i x = record {
        forth = get_or-set_same (set next last i) i x 0 (omega (arith, length-set next last i));
        back = get_or-set_same (set prev i last) x i 0 (omega (arith, length-set prev i last, same));
      } in
      let whole : IsChain (set (set next last i) i x) (set (set prev i last) x i) x (xs ++ i ∷ []) x =
      IsChain-append (set (set next last i) i x) (set (set prev i last) x i) x xs i [] x kept link in
      (same, subst (λ h. IsChain (set (set next last i) i h) (set (set prev i last) h i) x (xs ++ i ∷ []) x) (sym same) whole)

  -- the circle from another of its indices on
  pub circle_rotated : (head i : ℕ) (front back : List ℕ) → IsCircle next prev head (front ++ i ∷ back) → IsCircle next prev i (i ∷ back ++ front)
  circle_rotated head i [] back (same, chain) = rw (append-nil back) (refl, chain)
  circle_rotated head i (x ∷ xs) back (same, chain) =
      (refl, IsChain-append next prev i back x xs i (chain_back next prev x xs i back x chain) (chain_front next prev x xs i back x chain))

  -- what is linked to an index of a circle is in it
  pub circle_prev : (head i : ℕ) (front back : List ℕ) → IsCircle next prev head (front ++ i ∷ back) → Contains (i ∷ back ++ front) (get_or prev i 0)
  circle_prev head i front back circle =
      last_before next prev i (back ++ front) i (circle_rotated head i front back circle).1

  pub circle_next : (head i : ℕ) (front back : List ℕ) → IsCircle next prev head (front ++ i ∷ back) → get_or next i 0 ≡ get_or (back ++ front ++ i ∷ []) 0 0
  circle_next head i [] [] (same, link) = link.forth
  circle_next head i [] (y ∷ ys) (same, (link, chain)) = link.forth
  circle_next head i (x ∷ xs) [] (same, chain) = (chain_back next prev x xs i [] x chain).forth
  circle_next head i (x ∷ xs) (y ∷ ys) (same, chain) = (chain_back next prev x xs i (y ∷ ys) x chain).0.forth

  -- the circle without one of its indices, whose neighbours are joined
  pub circle_removed : (head i head' last after : ℕ) (front back : List ℕ) → IsCircle next prev head (front ++ i ∷ back) → get_or prev i 0 ≡ last → get_or next i 0 ≡ after → IsDistinct (front ++ i ∷ back) → last < length next → after < length prev → (head ≡ i → head' ≡ after) → (head ≢ i → head' ≡ head) → IsCircle (set next last after) (set prev after last) head' (front ++ back)
  circle_removed head i head' last after [] [] circle is_last is_after distinct inside within first other = tt
  circle_removed head i head' last after [] (y ∷ ys) (same, (link, chain)) is_last is_after distinct inside within first other =
      let place : after ≡ y = sym is_after ∙ link.forth in
      let rest : IsDistinct (y ∷ ys) = distinct_tail i (y ∷ ys) distinct in
      let away : ¬ Contains ys y = λ in'. distinct_head y ys rest y in' refl in
      let joined : IsChain (set next last y) (set prev y last) y ys y =
      chain_to next prev y ys i last y chain is_last rest away inside (subst (λ a. a < length prev) place within) in
      (first same ∙ place, subst (λ a. IsChain (set next last a) (set prev a last) y ys y) (sym place) joined)
  circle_removed head i head' last after (x ∷ xs) [] (same, chain) is_last is_after distinct inside within first other =
      let link : AreLinked next prev i x = chain_back next prev x xs i [] x chain in
      let place : after ≡ x = sym is_after ∙ link.forth in
      let apart : x ≢ i = distinct_across (x ∷ xs) (i ∷ []) distinct x i (Contains-head x xs) (Contains-head i []) in
      let kept : IsDistinct (x ∷ xs) = distinct_front (x ∷ xs) (i ∷ []) distinct in
      let away : ¬ Contains xs x = λ in'. distinct_head x xs kept x in' refl in
      let joined : IsChain (set next last x) (set prev x last) x xs x =
      chain_to next prev x xs i last x (chain_front next prev x xs i [] x chain) is_last kept away inside (subst (λ a. a < length prev) place within) in
      rw (append-nil xs) (other (λ e. apart (sym same ∙ e)) ∙ same, subst (λ a. IsChain (set next last a) (set prev a last) x xs x) (sym place) joined)
  circle_removed head i head' last after (x ∷ xs) (y ∷ ys) (same, chain) is_last is_after distinct inside within first other =
      let (link, rest) = chain_back next prev x xs i (y ∷ ys) x chain in
      let place : after ≡ y = sym is_after ∙ link.forth in
      let across : (j k : ℕ) → Contains (x ∷ xs) j → Contains (i ∷ y ∷ ys) k → j ≢ k = distinct_across (x ∷ xs) (i ∷ y ∷ ys) distinct in
      let apart : x ≢ i = across x i (Contains-head x xs) (Contains-head i (y ∷ ys)) in
      let kept : IsDistinct (x ∷ xs) = distinct_front (x ∷ xs) (i ∷ y ∷ ys) distinct in
      let behind : IsDistinct (y ∷ ys) = distinct_tail i (y ∷ ys) (distinct_back (x ∷ xs) (i ∷ y ∷ ys) distinct) in
      let begin : IsChain next prev x xs i = chain_front next prev x xs i (y ∷ ys) x chain in
      let member : Contains (x ∷ xs) last = subst (Contains (x ∷ xs)) is_last (last_before next prev x xs i begin) in
      let away : ¬ Contains xs y = λ in'. across y y (Contains-append_right (x ∷ []) xs y in') (1, omega arith, refl) refl in
      let joined : IsChain (set next last y) (set prev y last) x xs y =
      chain_to next prev x xs i last y begin is_last kept away inside (subst (λ a. a < length prev) place within) in
      let end : IsChain (set next last y) (set prev y last) y ys x = chain_kept
      next
      prev
      (set next last y)
      (set prev y last)
      y
      ys
      x
      (λ j in'. get_or-set_other next last j y 0 (λ e. across last j member (Contains-append_right (i ∷ []) (y ∷ ys) j in') (sym e)))
      (λ j in'. get_or-set_other prev y j last 0 (λ e. ⊎_elim
      (λ inner. distinct_head y ys behind j inner (sym e))
      (λ first'. across x y (Contains-head x xs) (1, omega arith, refl) (sym (only x j first') ∙ e))
      (Contains-append_cases ys (x ∷ []) j in')))
      rest in
      let whole : IsChain (set next last y) (set prev y last) x (xs ++ y ∷ ys) x =
      IsChain-append (set next last y) (set prev y last) x xs y ys x joined end in
      (other (λ e. apart (sym same ∙ e)) ∙ same, subst (λ a. IsChain (set next last a) (set prev a last) x (xs ++ y ∷ ys) x) (sym place) whole)
