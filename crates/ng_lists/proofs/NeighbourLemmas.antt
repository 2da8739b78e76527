-- The neighbours of a ring's members.
use Rattle.std.proofs.Common.{◌≡◌, ◌≢◌, ℕ, ◌+◌, ◌<◌, List, [], ◌∷◌, ◌++◌, length, get_or, set, Contains, refl, ap, sym, subst, ◌∙◌, arith, ⊎_elim}
use Rattle.std.proofs.lemmas.List.{length_push}
use Rattle.std.proofs.lemmas.List.Elements.{Contains-append_left, Contains-append_right, Contains-append_cases, Contains-get_or}
use Rattle.ng_lists.specs.Arrays.{IsCircle, IsRing}
use Rattle.ng_lists.proofs.ChainLemmas.{Contains-head}
use Rattle.ng_lists.proofs.CircleLemmas.{circle_head, circle_next, circle_prev, circle_push}
use Rattle.ng_lists.proofs.RingLemmas.{mark_of, swapped}
use Rattle.ng_lists.proofs.TableLemmas.{Split, first_split}

-- a list with one more element has one
some : (back front : List ℕ) (i : ℕ) → 0 < length (back ++ front ++ i ∷ [])
some back front i = omega (arith, length_push (back ++ front) i)

module _ {next prev marks : List ℕ} {head class : ℕ} where
  -- a head without the class's mark is the head of an empty ring
  pub ring_empty : (ring : List ℕ) → IsRing next prev marks head class ring → get_or marks head 0 ≢ class + 1 → ring ≡ []
  ring_empty [] is unmarked = refl
  ring_empty (x ∷ xs) is unmarked =
      absurd (unmarked (ap (λ h. get_or marks h 0) (circle_head next prev head x xs is.circle) ∙ mark_of is x (Contains-head x xs)))

  -- an index joined in between the last member and the first
  pub circle_pushed : (ring : List ℕ) (last i : ℕ) → IsRing next prev marks head class ring → get_or marks head 0 ≡ class + 1 → get_or prev head 0 ≡ last → ¬ Contains ring i → last < length next → i < length next → i < length prev → head < length prev → IsCircle (set (set next last i) i head) (set (set prev i last) head i) head (ring ++ i ∷ [])
  circle_pushed [] last i is marked behind away inside within room first =
      let (k, none, same) = is.found head marked in
      absurd (omega arith)
  circle_pushed (x ∷ xs) last i is marked behind away inside within room first =
      circle_push next prev head last i x xs is.circle behind is.distinct away inside within room first

  -- the neighbours of a member are members
  pub prev_member : {ring : List ℕ} → (i : ℕ) → IsRing next prev marks head class ring → Contains ring i → Contains ring (get_or prev i 0)
  prev_member {ring} i is in' =
      let split : Split ring i = first_split ring i in' in
      let circle : IsCircle next prev head (split.front ++ i ∷ split.back) = subst (IsCircle next prev head) split.whole is.circle in
      subst
      (λ xs. Contains xs (get_or prev i 0))
      (sym split.whole)
      (swapped (i ∷ split.back) split.front (get_or prev i 0) (circle_prev next prev head i split.front split.back circle))

  pub next_member : {ring : List ℕ} → (i : ℕ) → IsRing next prev marks head class ring → Contains ring i → Contains ring (get_or next i 0)
  next_member {ring} i is in' =
      let split : Split ring i = first_split ring i in' in
      let circle : IsCircle next prev head (split.front ++ i ∷ split.back) = subst (IsCircle next prev head) split.whole is.circle in
      let after : List ℕ = split.back ++ split.front ++ i ∷ [] in
      let place : get_or next i 0 ≡ get_or (split.back ++ split.front ++ i ∷ []) 0 0 = circle_next next prev head i split.front split.back circle in
      let found : Contains (split.back ++ split.front ++ i ∷ []) (get_or next i 0) =
      subst (Contains (split.back ++ split.front ++ i ∷ [])) (sym place) (Contains-get_or (split.back ++ split.front ++ i ∷ []) 0 0 (some split.back split.front i)) in
      subst
      (λ xs. Contains xs (get_or next i 0))
      (sym split.whole)
      (⊎_elim
      (λ left. swapped (i ∷ split.back) split.front (get_or next i 0) (Contains-append_right (i ∷ []) (split.back ++ split.front) (get_or next i 0) left))
      (λ end. swapped (i ∷ split.back) split.front (get_or next i 0) (Contains-append_left (i ∷ []) (split.back ++ split.front) (get_or next i 0) end))
      (Contains-append_cases (split.back ++ split.front) (i ∷ []) (get_or next i 0) found))
