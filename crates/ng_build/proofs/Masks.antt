-- The two masks of a new group: slot 0 is in neither.
use Rattle.std.proofs.Common.{◌≡◌, ◌≢◌, ℕ, zero, suc, ◌+◌, ◌-◌, ◌*◌, ◌^◌, ◌<◌, ◌≤◌, eqb, ne_eqb, leb, Bool, true, false, [], ◌∷◌, refl, sym, ap, ◌∙◌, subst, ⊎_elim, arith}
use Rattle.std.specs.Prelude.{◌&&◌}
use Rattle.std.specs.Int.{bit_at}
use Rattle.std.proofs.lemmas.Bool.{cases_eq, cases_lt, le-leb}
use Rattle.std.proofs.lemmas.Bool.Decides.{nat_tests}
use Rattle.std.proofs.lemmas.Nat.{pow_below, pow_pos, pow-add}
use Rattle.std.proofs.lemmas.Nat.Bits.{bit_at_mask_above, bit_at_mask_below, bit_at_mask_inside}
use Rattle.ng_view.specs.Lists.{count_of, select}
use Rattle.ng_view.specs.LockSteps.{moving}
use Rattle.ng_view.specs.Slots.{IsPlain}
use Rattle.ng_view.specs.declared.view.Group.{Group}
use Rattle.ng_view.specs.Groups.{AreMasks}
use Rattle.ng_mask.proofs.Motion.{select_one}
use Rattle.ng_build.specs.Drafts.{avail_of}
use Rattle.ng_build.specs.Written.{freed_of}

avail_is : (active : ℕ) → avail_of active ≡ 2 ^ (active + 1) - 2 ^ 1
avail_is active = let p : 2 ^ 1 ≡ 2 = refl in omega arith

freed_is : (active last : ℕ) → freed_of active last ≡ 2 ^ (last + 1) - 2 ^ (active + 1)
freed_is active last = let p = pow_pos (active + 1) in omega arith

-- ---- bit by bit
module _ (active last : ℕ) (few : active ≤ last) where
  abbrev both : ℕ → ℕ
  both i = bit_at (avail_of active) i + bit_at (freed_of active last) i

  of_avail : (i x : ℕ) → bit_at (2 ^ (active + 1) - 2 ^ 1) i ≡ x → bit_at (avail_of active) i ≡ x
  of_avail i x e = ap (λ n. bit_at n i) (avail_is active) ∙ e

  of_freed : (i x : ℕ) → bit_at (2 ^ (last + 1) - 2 ^ (active + 1)) i ≡ x → bit_at (freed_of active last) i ≡ x
  of_freed i x e = ap (λ n. bit_at n i) (freed_is active last) ∙ e

  sum : (i x y : ℕ) → bit_at (avail_of active) i ≡ x → bit_at (freed_of active last) i ≡ y → both i ≡ x + y
  sum i x y a f = ap (λ n. n + bit_at (freed_of active last) i) a ∙ ap (λ n. x + n) f

  pub bits_first : both 0 ≡ 0
  bits_first = sum 0 0 0 (of_avail 0 0 (bit_at_mask_below 1 (active + 1) 0 (omega arith))) (of_freed 0 0 (bit_at_mask_below (active + 1) (last + 1) 0 (omega arith)))

  pub bits_within : (i : ℕ) → 0 < i → i ≤ last → both i ≡ 1
  bits_within i some le = ⊎_elim
      (λ (l : i < active + 1). sum i 1 0 (of_avail i 1 (bit_at_mask_inside 1 (active + 1) i (omega arith) l)) (of_freed i 0 (bit_at_mask_below (active + 1) (last + 1) i l)))
      (λ (l : active + 1 ≤ i). sum i 0 1 (of_avail i 0 (bit_at_mask_above 1 (active + 1) i l)) (of_freed i 1 (bit_at_mask_inside (active + 1) (last + 1) i l (omega arith))))
      (cases_lt i (active + 1))

  pub bits_above : (i : ℕ) → last < i → both i ≡ 0
  bits_above i above = sum i 0 0 (of_avail i 0 (bit_at_mask_above 1 (active + 1) i (omega arith))) (of_freed i 0 (bit_at_mask_above (active + 1) (last + 1) i (omega arith)))

-- ---- the masks of a group
module _ (g : Group) (active : ℕ) (few : active ≤ g.last) (many : g.last < 32) where
  small : avail_of active < 4294967296
  small = ⊎_elim
      (λ (e : active + 1 ≡ 32). let p : 2 ^ (active + 1) ≡ 4294967296 = ap (λ k. 2 ^ k) e in omega arith)
      (λ (ne : active + 1 ≢ 32). let p : 2 ^ (active + 1) < 4294967296 = pow_below (active + 1) 32 (omega arith) in omega arith)
      (cases_eq (active + 1) 32)

  apart : (i : ℕ) → bit_at (avail_of active) i + bit_at (freed_of active g.last) i ≤ count_of (leb i g.last)
  apart i = ⊎_elim
      (λ (l : g.last < i). subst (λ n. n ≤ count_of (leb i g.last)) (sym (bits_above active g.last few i l)) (omega arith))
      (λ (l : i ≤ g.last). subst (λ b. bit_at (avail_of active) i + bit_at (freed_of active g.last) i ≤ count_of b) (sym (le-leb i g.last l)) (at_most_one i l))
      (cases_lt g.last i)
    where
      at_most_one : (i : ℕ) → i ≤ g.last → bit_at (avail_of active) i + bit_at (freed_of active g.last) i ≤ 1
      at_most_one zero le = let e = bits_first active g.last few in subst (λ n. n ≤ 1) (sym e) (omega arith)
      at_most_one (suc i) le = let e = bits_within active g.last few (suc i) (omega arith) le in subst (λ n. n ≤ 1) (sym e) (omega arith)

  pub are_masks : (0 < g.last → IsPlain g) → AreMasks g (avail_of active) (freed_of active g.last)
  are_masks plain = record {
    small = small;
    apart = λ i lt. apart i;
    plain = λ i lt some. plain (⊎_elim (λ (l : 0 < g.last). l) (λ (none : g.last ≤ 0). absurd (alone i none some)) (cases_lt 0 g.last));
  }
    where
      alone : (i : ℕ) → g.last ≤ 0 → 0 < bit_at (avail_of active) i + bit_at (freed_of active g.last) i → ⊥
      alone zero none some = let e : bit_at (avail_of active) 0 + bit_at (freed_of active g.last) 0 ≡ 0 = bits_first active g.last few in absurd (let s : 0 < 0 = subst (λ n. 0 < n) e some in omega arith)
      alone (suc i) none some = let e : bit_at (avail_of active) (suc i) + bit_at (freed_of active g.last) (suc i) ≡ 0 = bits_above active g.last few (suc i) (omega arith) in absurd (let s : 0 < 0 = subst (λ n. 0 < n) e some in omega arith)

  moves_0 : moving g (avail_of active) (freed_of active g.last) 0 ≡ true
  moves_0 = ap (λ b. b && eqb (bit_at (avail_of active) 0 + bit_at (freed_of active g.last) 0) 0) (le-leb 0 g.last (omega arith)) ∙ ap (λ n. eqb n 0) (bits_first active g.last few)

  moves_no_other : (i : ℕ) → i ≢ 0 → moving g (avail_of active) (freed_of active g.last) i ≡ false
  moves_no_other zero ne = absurd (ne refl)
  moves_no_other (suc i) ne = ⊎_elim
      (λ (l : g.last < suc i). ap (λ b. b && eqb (bit_at (avail_of active) (suc i) + bit_at (freed_of active g.last) (suc i)) 0) (not_le (suc i) g.last l))
      (λ (l : suc i ≤ g.last). ap (λ n. leb (suc i) g.last && eqb n 0) (bits_within active g.last few (suc i) (omega arith) l) ∙ never (leb (suc i) g.last))
      (cases_lt g.last (suc i))
    where
      not_le : (i l : ℕ) → l < i → leb i l ≡ false
      not_le i l lt = grind (arith, nat_tests)

      never : (b : Bool) → (b && false) ≡ false
      never true = refl
      never false = refl

  -- slot 0 alone is in neither mask
  pub moves_first : select (moving g (avail_of active) (freed_of active g.last)) 32 ≡ 0 ∷ []
  moves_first = select_one (moving g (avail_of active) (freed_of active g.last)) 32 0 (omega arith) moves_0 (λ j lt. moves_no_other j)

-- the avail mask is 0 where no slot but the first is in use
pub is_bare : (active : ℕ) → eqb (avail_of active) 0 ≡ eqb active 0
is_bare zero = refl
is_bare (suc n) =
    let p : 2 ^ (suc n + 1) ≡ 2 ^ n * 2 ^ 2 = ap (λ k. 2 ^ k) (let e : suc n + 1 ≡ n + 2 = omega arith in e) ∙ pow-add 2 n 2 in
    let q = pow_pos n in let r : 2 ^ 2 ≡ 4 = refl in
    ne_eqb (avail_of (suc n)) 0 (λ e. let p' : 2 ^ (suc n + 1) ≡ 2 ^ n * 4 = p in omega arith) ∙ sym (ne_eqb (suc n) 0 (λ e. omega arith))
