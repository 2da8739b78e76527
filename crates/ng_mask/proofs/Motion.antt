-- Slots in motion that came out of a mask, and those of them that go back.
use Rattle.std.proofs.Common.{◌≡◌, ◌≢◌, ℕ, zero, suc, ◌+◌, ◌^◌, ◌<◌, eqb, ne_eqb, cond, Bool, true, false, List, [], ◌∷◌, ◌++◌, map, refl, sym, ap, ◌∙◌, subst, ⊎_elim, inl, inr, arith}
use Rattle.std.specs.Prelude.{◌&&◌, Some}
use Rattle.std.specs.Int.{bit_at}
use Rattle.std.proofs.lemmas.Bool.{cases_eq}
use Rattle.std.proofs.lemmas.Nat.Bits.{bit_at-lt, bit_at-pow_same, bit_at-pow_other}
use Rattle.ng_view.specs.Lists.{Among, count_of, find, is_at, select, without}
use Rattle.ng_view.specs.LockSteps.{AreOut, bits_of, let_go}
use Rattle.ng_view.specs.Steps.{in_motion}
use Rattle.ng_view.specs.declared.view.Group.{Group}
use Rattle.ng_view.specs.declared.view.Held.{Held}
use Rattle.ng_rule.proofs.geometry.Lists.{is_at-here}
use Rattle.ng_rule.proofs.group.Publish.{among_select}
use Rattle.ng_mask.specs.Fetches.{slots_of}

-- ---- what a test selects
pub select_same : (t u : ℕ → Bool) (k : ℕ) → ((i : ℕ) → i < k → t i ≡ u i) → select t k ≡ select u k
select_same t u zero same = refl
select_same t u (suc k) same = by_test (select_same t u k (λ i lt. same i (omega arith))) (t k) (u k) (same k (omega arith))
  where
    by_test : select t k ≡ select u k → (b c : Bool) → b ≡ c → cond b (k ∷ select t k) (select t k) ≡ cond c (k ∷ select u k) (select u k)
    by_test ih b c e = ap (λ (x : List ℕ). cond b (k ∷ x) x) ih ∙ ap (λ x. cond x (k ∷ select u k) (select u k)) e

pub select_none : (t : ℕ → Bool) (k : ℕ) → ((i : ℕ) → i < k → t i ≡ false) → select t k ≡ []
select_none t zero none = refl
select_none t (suc k) none = ap (λ b. cond b (k ∷ select t k) (select t k)) (none k (omega arith)) ∙ select_none t k (λ i lt. none i (omega arith))

pub select_one : (t : ℕ → Bool) (k i : ℕ) → i < k → t i ≡ true → ((j : ℕ) → j < k → j ≢ i → t j ≡ false) → select t k ≡ i ∷ []
select_one t zero i lt here others = absurd (omega arith)
select_one t (suc k) i lt here others = ⊎_elim
    (λ (e : k ≡ i).
    ap (λ b. cond b (k ∷ select t k) (select t k)) (ap t e ∙ here)
    ∙ ap (λ (x : List ℕ). k ∷ x) (select_none t k (λ j less. others j (omega arith) (λ q. omega arith)))
    ∙ ap (λ n. n ∷ []) e)
    (λ (ne : k ≢ i). ap (λ b. cond b (k ∷ select t k) (select t k)) (others k (omega arith) ne) ∙ select_one t k i (let o : i ≢ k = (λ q. ne (sym q)) in omega arith) here (λ j less. others j (omega arith)))
    (cases_eq k i)

-- ---- a slot in front of others
-- the slot of a greater index is another
other_index : (g : Group) (k i : ℕ) → i < k → is_at g.meta i (in_motion g k).place ≡ false
other_index g k i lt = both (eqb g.meta g.meta) (eqb k i) (ne_eqb k i (λ e. omega arith))
  where
    both : (b c : Bool) → c ≡ false → (b && c) ≡ false
    both true c unlike = unlike
    both false c unlike = refl

out_behind : (m : ℕ) (is : List ℕ) (h : Held) (hs : List Held) → ((i : ℕ) → Among i is → is_at m i h.place ≡ false) → AreOut m is hs → AreOut m is (h ∷ hs)
out_behind m [] h hs other out = out
out_behind m (i ∷ is) h hs other out =
    let unlike = other i (inl refl) in (
      (out.0.0, ap (λ b. cond b (Some h) (find m i hs)) unlike ∙ out.0.1, out.0.2),
      subst (AreOut m is) (sym (ap (λ b. cond b hs (h ∷ without m i hs)) unlike)) (out_behind m is h (without m i hs) (λ j s. other j (inr s)) out.1),
    )

let_go_behind : (m : ℕ) (is : List ℕ) (h : Held) (hs : List Held) → ((i : ℕ) → Among i is → is_at m i h.place ≡ false) → let_go m is (h ∷ hs) ≡ h ∷ let_go m is hs
let_go_behind m [] h hs other = refl
let_go_behind m (i ∷ is) h hs other = ap (λ b. let_go m is (cond b hs (h ∷ without m i hs))) (other i (inl refl)) ∙ let_go_behind m is h (without m i hs) (λ j s. other j (inr s))

-- ---- the slots that a test selects, when a part of them goes
module _ (g : Group) (hs : List Held) (whole part left : ℕ → Bool) where
  -- below k the two tests split the whole
  abbrev Splits : ℕ → Type 0
  Splits k = (i : ℕ) → i < k → count_of (whole i) ≡ count_of (part i) + count_of (left i)

  abbrev came : (ℕ → Bool) → ℕ → List Held
  came t k = map (in_motion g) (select t k) ++ hs

  later : (k i : ℕ) → Among i (select part k) → is_at g.meta i (in_motion g k).place ≡ false
  later k i s = other_index g k i (among_select part k i s)

  first : (k : ℕ) → is_at g.meta k (in_motion g k).place ≡ true
  first k = is_at-here (in_motion g k).place

  part_out : (k : ℕ) → Splits k → AreOut g.meta (select part k) (came whole k)
  part_out zero splits = tt
  part_out (suc k) splits = by_test (part_out k (λ i lt. splits i (omega arith))) (whole k) (part k) (left k) (splits k (omega arith))
    where
      by_test : AreOut g.meta (select part k) (came whole k) → (w p l : Bool) → count_of w ≡ count_of p + count_of l → AreOut g.meta (cond p (k ∷ select part k) (select part k)) (map (in_motion g) (cond w (k ∷ select whole k) (select whole k)) ++ hs)
      by_test ih true true l e = (
        (in_motion g k, ap (λ b. cond b (Some (in_motion g k)) (find g.meta k (came whole k))) (first k), refl),
        subst (AreOut g.meta (select part k)) (sym (ap (λ b. cond b (came whole k) (in_motion g k ∷ without g.meta k (came whole k))) (first k))) ih,
      )
      by_test ih true false l e = out_behind g.meta (select part k) (in_motion g k) (came whole k) (later k) ih
      by_test ih false true l e = absurd (omega arith)
      by_test ih false false l e = ih

  left_stays : (k : ℕ) → Splits k → let_go g.meta (select part k) (came whole k) ≡ came left k
  left_stays zero splits = refl
  left_stays (suc k) splits = by_test (left_stays k (λ i lt. splits i (omega arith))) (whole k) (part k) (left k) (splits k (omega arith))
    where
      by_test : let_go g.meta (select part k) (came whole k) ≡ came left k → (w p l : Bool) → count_of w ≡ count_of p + count_of l
          → let_go g.meta (cond p (k ∷ select part k) (select part k)) (map (in_motion g) (cond w (k ∷ select whole k) (select whole k)) ++ hs) ≡ map (in_motion g) (cond l (k ∷ select left k) (select left k)) ++ hs
      by_test ih true true true e = absurd (omega arith)
      by_test ih true true false e = ap (λ b. let_go g.meta (select part k) (cond b (came whole k) (in_motion g k ∷ without g.meta k (came whole k)))) (first k) ∙ ih
      by_test ih true false true e = let_go_behind g.meta (select part k) (in_motion g k) (came whole k) (later k) ∙ ap (λ (x : List Held). in_motion g k ∷ x) ih
      by_test ih true false false e = absurd (omega arith)
      by_test ih false true l e = absurd (omega arith)
      by_test ih false false true e = absurd (omega arith)
      by_test ih false false false e = ih

-- ---- the slots of bits
count_of_bit : (n i : ℕ) → count_of (eqb (bit_at n i) 1) ≡ bit_at n i
count_of_bit n i = below_two (bit_at n i) (bit_at-lt n i)
  where
    below_two : (b : ℕ) → b < 2 → count_of (eqb b 1) ≡ b
    below_two zero lt = refl
    below_two (suc zero) lt = refl
    below_two (suc (suc b)) lt = absurd (omega arith)

-- the bits of two masks, which have none in common, are those of the whole
abbrev pub SplitsInto : ℕ → ℕ → ℕ → Type 0
SplitsInto whole part left = (i : ℕ) → i < 32 → bit_at whole i ≡ bit_at part i + bit_at left i

by_counts : (whole part left : ℕ) → SplitsInto whole part left → (i : ℕ) → i < 32 → count_of (eqb (bit_at whole i) 1) ≡ count_of (eqb (bit_at part i) 1) + count_of (eqb (bit_at left i) 1)
by_counts whole part left splits i lt = let a = count_of_bit whole i in let b = count_of_bit part i in let c = count_of_bit left i in let s = splits i lt in a ∙ s ∙ sym (ap (λ x. x + count_of (eqb (bit_at left i) 1)) b ∙ ap (λ x. bit_at part i + x) c)

-- a part of the slots that came out of a mask is there
pub part_is_out : (g : Group) (hs : List Held) (whole part left : ℕ) → SplitsInto whole part left → AreOut g.meta (bits_of part) (slots_of g whole ++ hs)
part_is_out g hs whole part left splits = part_out g hs (λ i. eqb (bit_at whole i) 1) (λ i. eqb (bit_at part i) 1) (λ i. eqb (bit_at left i) 1) 32 (by_counts whole part left splits)

-- and where it goes, the others are left
pub others_are_left : (g : Group) (hs : List Held) (whole part left : ℕ) → SplitsInto whole part left → let_go g.meta (bits_of part) (slots_of g whole ++ hs) ≡ slots_of g left ++ hs
others_are_left g hs whole part left splits = left_stays g hs (λ i. eqb (bit_at whole i) 1) (λ i. eqb (bit_at part i) 1) (λ i. eqb (bit_at left i) 1) 32 (by_counts whole part left splits)

-- the bits of one
pub bits_of-pow : (i : ℕ) → i < 32 → bits_of (2 ^ i) ≡ i ∷ []
bits_of-pow i lt = select_one (λ j. eqb (bit_at (2 ^ i) j) 1) 32 i lt (ap (λ b. eqb b 1) (bit_at-pow_same i)) (λ j less ne. ap (λ b. eqb b 1) (bit_at-pow_other i j ne))
