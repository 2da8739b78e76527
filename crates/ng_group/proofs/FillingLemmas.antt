-- The slots of masks among those of the seat, and masks that fill a group.
use Rattle.std.proofs.Common.{◌≡◌, ◌≢◌, ◌⊎◌, ℕ, zero, suc, ◌+◌, ◌-◌, ◌*◌, ◌%◌, ◌^◌, ◌<◌, ◌≤◌, ◌↔◌, eqb, cond, Bool, true, false, IsTrue, nat_eq, List, [], ◌∷◌, ◌++◌, map, Some, refl, sym, ap, subst, ◌∙◌, ⊎_elim, inl, inr, arith}
use Rattle.std.specs.Prelude.{bit_and, bit_or}
use Rattle.std.specs.Int.{bit_at}
use Rattle.std.proofs.lemmas.Bool.{cases_eq, cases_lt, eq-eqb, eqb-true}
use Rattle.std.proofs.lemmas.Nat.{and_le_r, mod_below, pow_pos}
use Rattle.std.proofs.lemmas.Nat.Bits.{bit_at-lt, bit_at-zero, bit_at_above, bit_at_and, bit_at_ones, bit_at_ones_above, same_from_bits}
use Rattle.ng_class.specs.Mask.{FillsGroup, all_bits_of}
use Rattle.ng_class.proofs.Fills.{fills_test}
use Rattle.ng_rule.proofs.geometry.Lists.{is_at-here}
use Rattle.ng_view.specs.Lists.{find, is_at, select}
use Rattle.ng_view.specs.LockSteps.{outside}
use Rattle.ng_view.specs.Steps.{in_motion}
use Rattle.ng_view.specs.declared.view.Group.{Group}
use Rattle.ng_view.specs.declared.view.Held.{Held}
use Rattle.ng_mask.specs.Fetches.{slots_of}
use Rattle.ng_group.specs.Filling.{AreSlots}

-- ---- masks

-- a bit of the low half of a word is one of 32
pub low_bit : (word i : ℕ) → bit_at (word % 2 ^ 32) i ≡ 1 → i < 32
low_bit word i set = ⊎_elim
    (λ (low : i < 32). low)
    (λ (high : 32 ≤ i). absurd (omega (arith, set, bit_at_above (word % 2 ^ 32) 32 i (mod_below word (2 ^ 32) (pow_pos 32)) high)))
    (cases_lt i 32)

-- a mask of slots to the last has no bit above it
none_above : (mask last i : ℕ) → AreSlots mask last → last < i → bit_at mask i ≡ 0
none_above mask last i slots above =
    ⊎_elim (λ (set : bit_at mask i ≡ 1). absurd (omega (arith, slots i set, above))) (λ (clear : bit_at mask i ≢ 1). omega (arith, bit_at-lt mask i)) (cases_eq (bit_at mask i) 1)

-- and is below the power of the next
slots_small : (mask last : ℕ) → AreSlots mask last → mask < 2 ^ (last + 1)
slots_small mask last slots =
    let same : mask ≡ bit_and mask (2 ^ (last + 1) - 1) = same_from_bits _ _ (λ i. ⊎_elim
    (λ (above : last < i). omega (arith, none_above mask last i slots above, bit_at_and mask (2 ^ (last + 1) - 1) i, bit_at_ones_above (last + 1) i (omega arith)))
    (λ (within : i ≤ last). omega (arith, bit_at_and mask (2 ^ (last + 1) - 1) i, bit_at_ones (last + 1) i (omega arith), bit_at-lt mask i))
    (cases_lt last i)) in
    omega (arith, same, and_le_r mask (2 ^ (last + 1) - 1), pow_pos (last + 1))

-- the test whether they fill the group
pub fills_slots : (avail freed index last all : ℕ) → all ≡ all_bits_of last → index ≤ last → last < 32 → AreSlots avail last → AreSlots freed last
    → IsTrue (nat_eq (bit_or (bit_or avail freed) (1 * 2 ^ index % 4294967296)) all) ↔ FillsGroup avail freed index last
fills_slots avail freed index last all is own few avail_slots freed_slots =
    let (fills, filled) = fills_test avail freed index last own few (slots_small avail last avail_slots) (slots_small freed last freed_slots) in
    (λ same. fills (eqb-true _ _ same ∙ is), λ group. eq-eqb _ _ (filled group ∙ sym is))

-- a group of one slot is always filled
pub fills_one : (avail freed index last : ℕ) → index ≤ last → last ≡ 0 → FillsGroup avail freed index last
fills_one avail freed index last own none other within apart = absurd (apart (omega arith))

-- a set bit makes the mask more than 0
pub some_bit : (mask i : ℕ) → 1 ≤ bit_at mask i → 0 < mask
some_bit mask i set = ⊎_elim
    (λ (none : mask ≡ 0). let clear : bit_at mask i ≡ 0 = subst (λ n. bit_at n i ≡ 0) (sym none) (bit_at-zero i) in absurd (omega arith))
    (λ (some : mask ≢ 0). omega arith)
    (cases_eq mask 0)

-- masks that fill a group of more slots aren't both 0
pub fills_some : (avail freed index last : ℕ) → index ≤ last → 0 < last → FillsGroup avail freed index last → (0 < avail) ⊎ (0 < freed)
fills_some avail freed index last own more fills = ⊎_elim
    (λ (first : index ≡ 0). either 1 (fills 1 (omega arith) (λ (same : 1 ≡ index). omega arith)))
    (λ (later : index ≢ 0). either 0 (fills 0 (omega arith) (λ (same : 0 ≡ index). absurd (later (sym same)))))
    (cases_eq index 0)
  where
    either : (i : ℕ) → 1 ≤ bit_at avail i + bit_at freed i → (0 < avail) ⊎ (0 < freed)
    either i some = ⊎_elim
        (λ (set : 0 < bit_at avail i). inl (some_bit avail i (omega arith)))
        (λ (clear : bit_at avail i ≤ 0). inr (some_bit freed i (omega arith)))
        (cases_lt 0 (bit_at avail i))

-- ---- slots that are found

-- the slot i of the meta m is among these
abbrev pub Has : ℕ → ℕ → List Held → Type 0
Has m i hs = (h : Held) × (find m i hs ≡ Some h)

has_behind : (m i : ℕ) (h : Held) (hs : List Held) → Has m i hs → Has m i (h ∷ hs)
has_behind m i h hs has = by_test (is_at m i h.place)
  where
    by_test : (b : Bool) → (k : Held) × (cond b (Some h) (find m i hs) ≡ Some k)
    by_test true = (h, refl)
    by_test false = has

has_here : (g : Group) (i : ℕ) (hs : List Held) → Has g.meta i (in_motion g i ∷ hs)
has_here g i hs = (in_motion g i, ap (λ t. cond t (Some (in_motion g i)) (find g.meta i hs)) (is_at-here (record { group = g; index = i })))

has_right : (m i : ℕ) (xs hs : List Held) → Has m i hs → Has m i (xs ++ hs)
has_right m i [] hs has = has
has_right m i (x ∷ xs) hs has = has_behind m i x (xs ++ hs) (has_right m i xs hs has)

has_selected : (g : Group) (t : ℕ → Bool) (k i : ℕ) (hs : List Held) → i < k → t i ≡ true → Has g.meta i (map (in_motion g) (select t k) ++ hs)
has_selected g t zero i hs lt passes = absurd (omega arith)
has_selected g t (suc k) i hs lt passes = by_test (has_selected g t k i hs) (t k) refl (cases_eq i k)
  where
    by_test : (i < k → t i ≡ true → Has g.meta i (map (in_motion g) (select t k) ++ hs)) → (b : Bool) → t k ≡ b → (i ≡ k) ⊎ (i ≡ k → ⊥) → Has g.meta i (map (in_motion g) (cond b (k ∷ select t k) (select t k)) ++ hs)
    by_test ih true e (inl q) = subst (λ n. Has g.meta n (in_motion g k ∷ (map (in_motion g) (select t k) ++ hs))) (sym q) (has_here g k (map (in_motion g) (select t k) ++ hs))
    by_test ih true e (inr ne) = has_behind g.meta i (in_motion g k) (map (in_motion g) (select t k) ++ hs) (ih (omega arith) passes)
    by_test ih false e (inl q) = absurd (let p : t k ≡ true = subst (λ n. t n ≡ true) q passes in let r = sym p ∙ e in cc)
    by_test ih false e (inr ne) = ih (omega arith) passes

-- those of the bits of a mask are in front of others
pub has_bit : (g : Group) (bits i : ℕ) (hs : List Held) → i < 32 → bit_at bits i ≡ 1 → Has g.meta i (slots_of g bits ++ hs)
has_bit g bits i hs low set = has_selected g (λ j. eqb (bit_at bits j) 1) 32 i hs low (eq-eqb (bit_at bits i) 1 set)

-- where two masks and a slot fill the group, each of its slots is there
pub has_each : (g : Group) (avail freed index i : ℕ) (hs : List Held) → g.last < 32 → FillsGroup avail freed index g.last → Has g.meta index hs → i ≤ g.last
    → Has g.meta i (slots_of g freed ++ (slots_of g avail ++ hs))
has_each g avail freed index i hs few fills has within = ⊎_elim
    (λ (same : i ≡ index). has_right g.meta i (slots_of g freed) (slots_of g avail ++ hs) (has_right g.meta i (slots_of g avail) hs (subst (λ j. Has g.meta j hs) (sym same) has)))
    (λ (apart : i ≢ index). ⊎_elim
    (λ (set : bit_at freed i ≡ 1). has_bit g freed i (slots_of g avail ++ hs) (omega arith) set)
    (λ (clear : bit_at freed i ≢ 1). has_right g.meta i (slots_of g freed) (slots_of g avail ++ hs) (has_bit g avail i hs (omega arith) (omega (arith, fills i within apart, bit_at-lt avail i, bit_at-lt freed i))))
    (cases_eq (bit_at freed i) 1))
    (cases_eq i index)

-- ---- slots of one meta alone

pub outside_slots : (g : Group) (m : ℕ) (is : List ℕ) (hs : List Held) → g.meta ≡ m → outside m hs ≡ [] → outside m (map (in_motion g) is ++ hs) ≡ []
outside_slots g m [] hs of_meta none = none
outside_slots g m (i ∷ is) hs of_meta none =
    let rest : outside m (map (in_motion g) is ++ hs) ≡ [] = outside_slots g m is hs of_meta none in
    ap (λ (b : Bool). cond b (outside m (map (in_motion g) is ++ hs)) (in_motion g i ∷ outside m (map (in_motion g) is ++ hs))) (eq-eqb g.meta m of_meta) ∙ rest

pub outside_alone : (slot : Held) (m : ℕ) → slot.place.group.meta ≡ m → outside m (slot ∷ []) ≡ []
outside_alone slot m of_meta = ap (λ (b : Bool). cond b [] (slot ∷ [])) (eq-eqb slot.place.group.meta m of_meta)
