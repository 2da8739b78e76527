-- What stays in a hand while a slot or an excuse comes.
use Rattle.std.proofs.Common.{◌≡◌, ◌≢◌, ◌⊎◌, ℕ, ◌≤◌, cond, Bool, true, false, List, [], ◌∷◌, refl, sym, ap, ◌∙◌, subst, ⊎_elim, inl, inr, arith}
use Rattle.std.specs.Prelude.{Some}
use Rattle.std.proofs.lemmas.Bool.{cases_eq}
use Rattle.ng_rule.proofs.geometry.Lists.{find_among, is_at-here, is_at-true, total_by-among}
use Rattle.ng_space.specs.Callers.{Caller}
use Rattle.ng_space.specs.Leaving.{KeepsSlots, Learns}
use Rattle.ng_space.specs.Placed.{AreOnce}
use Rattle.ng_space.specs.Tokens.{HasSlot, Token}
use Rattle.ng_view.specs.Lists.{Among, count_of, find, is_at, total_by}
use Rattle.ng_view.specs.Steps.{in_motion}
use Rattle.ng_view.specs.declared.view.Group.{Group}
use Rattle.ng_view.specs.declared.view.Held.{Held}
use Rattle.ng_view.specs.declared.view.Place.{Place}
use Rattle.ng_view.specs.declared.view.View.{View}
use Rattle.ng_group.specs.Hands.{AreSameSlots, GainsExcuse, GainsSlot, IsApart, IsSameSlot}

-- how often some slots have the slot i of the meta m
abbrev many : ℕ → ℕ → List Held → ℕ
many m i hs = total_by (λ (k : Held). count_of (is_at m i k.place)) hs

-- the slot i of the meta m is there, and it is h, of which more may be known
record Finds (m i : ℕ) (ks : List Held) (h : Held) : Type 0 where
  pub slot : Held
  pub found : find m i ks ≡ Some slot
  pub same : IsSameSlot h slot

-- ---- the same slots
same_many : (m i : ℕ) (hs ks : List Held) → AreSameSlots hs ks → many m i ks ≡ many m i hs
same_many m i [] [] same = refl
same_many m i [] (k ∷ ks) same = absurd same
same_many m i (h ∷ hs) [] same = absurd same
same_many m i (h ∷ hs) (k ∷ ks) same =
    let here : count_of (is_at m i k.place) ≡ count_of (is_at m i h.place) = ap (λ (p : Place). count_of (is_at m i p)) same.0.place in
    let rest : many m i ks ≡ many m i hs = same_many m i hs ks same.1 in
    omega arith

same_find : (m i : ℕ) (hs ks : List Held) (h : Held) → AreSameSlots hs ks → find m i hs ≡ Some h → Finds m i ks h
same_find m i [] ks h same found = absurd (cc)
same_find m i (x ∷ xs) [] h same found = absurd same
same_find m i (x ∷ xs) (k ∷ ks) h same found =
    let r = by_test (same_find m i xs ks h same.1) (is_at m i x.place) found in
    record {
      slot = r.0;
      found = ap (λ (p : Place). cond (is_at m i p) (Some k) (find m i ks)) same.0.place ∙ r.1;
      same = r.2;
    }
  where
    by_test : (find m i xs ≡ Some h → Finds m i ks h) → (b : Bool) → cond b (Some x) (find m i xs) ≡ Some h
        → (slot : Held) × (cond b (Some k) (find m i ks) ≡ Some slot) × IsSameSlot h slot
    by_test ih true e = let here : x ≡ h = cc in (k, refl, subst (λ (y : Held). IsSameSlot y k) here same.0)
    by_test ih false e = let rest = ih e in (rest.slot, rest.found, rest.same)

-- ---- slots of different places
pub not_at : (m i : ℕ) (p : Place) → (p.group.meta ≢ m) ⊎ (p.index ≢ i) → is_at m i p ≡ false
not_at m i p apart = by_test (is_at m i p) refl
  where
    by_test : (b : Bool) → is_at m i p ≡ b → b ≡ false
    by_test false at = refl
    by_test true at =
        let both = is_at-true m i p at in
        absurd (⊎_elim (λ (differs : p.group.meta ≢ m). differs both.0) (λ (differs : p.index ≢ i). differs both.1) apart)

-- ---- a slot came
-- it was not there before, since each slot stands there once
not_twice : (g : Group) (index : ℕ) (hs ks : List Held) (h : Held) → AreSameSlots (in_motion g index ∷ hs) ks
    → ((k : Held) → Among k ks → many k.place.group.meta k.place.index ks ≤ 1) → find g.meta index hs ≡ Some h → ⊥
not_twice g index hs [] h same once found = absurd same
not_twice g index hs (k ∷ ks) h same once found =
    let most : many g.meta index (k ∷ ks) ≤ 1 =
    subst (λ (p : Place). many p.group.meta p.index (k ∷ ks) ≤ 1) same.0.place (once k (inl refl)) in
    let first : count_of (is_at g.meta index k.place) ≡ 1 =
    ap (λ (p : Place). count_of (is_at g.meta index p)) same.0.place ∙ ap count_of (is_at-here (record { group = g; index = index })) in
    let rest : many g.meta index ks ≡ many g.meta index hs = same_many g.meta index hs ks same.1 in
    let there = find_among g.meta index hs h found in
    let one : count_of (is_at g.meta index h.place) ≡ 1 = ap count_of there.1 in
    let least : count_of (is_at g.meta index h.place) ≤ many g.meta index hs =
    total_by-among (λ (x : Held). count_of (is_at g.meta index x.place)) hs h there.0 in
    omega arith

-- so it is apart from all that were there
gained_apart : (meta index m i : ℕ) (v w : View) (h : Held) → GainsSlot meta index v w → AreOnce w → find m i v.held ≡ Some h
    → (m ≢ meta) ⊎ (i ≢ index)
gained_apart meta index m i v w h gains once found = ⊎_elim by_index inl (cases_eq m meta)
  where
    by_index : m ≡ meta → (m ≢ meta) ⊎ (i ≢ index)
    by_index of_meta = ⊎_elim
        (λ (of_index : i ≡ index).
        let at_index : find m index v.held ≡ Some h = subst (λ (j : ℕ). find m j v.held ≡ Some h) of_index found in
        let meta_is : m ≡ gains.group.meta = of_meta ∙ sym gains.of_meta in
        let here : find gains.group.meta index v.held ≡ Some h = subst (λ (n : ℕ). find n index v.held ≡ Some h) meta_is at_index in
        absurd (not_twice gains.group index v.held w.held h gains.learns.slots once here))
        inr
        (cases_eq i index)

-- which are still found
gained_finds : (meta index m i : ℕ) (v w : View) (h : Held) → GainsSlot meta index v w → AreOnce w → find m i v.held ≡ Some h → Finds m i w.held h
gained_finds meta index m i v w h gains once found =
    let place : Place = record { group = gains.group; index = index } in
    let apart = gained_apart meta index m i v w h gains once found in
    let other : is_at m i place ≡ false = not_at m i place
    (⊎_elim
    (λ (differs : m ≢ meta). inl (λ e. differs (sym e ∙ gains.of_meta)))
    (λ (differs : i ≢ index). inr (λ e. differs (sym e)))
    apart) in
    let later : find m i (in_motion gains.group index ∷ v.held) ≡ Some h =
    ap (λ (b : Bool). cond b (Some (in_motion gains.group index)) (find m i v.held)) other ∙ found in
    same_find m i (in_motion gains.group index ∷ v.held) w.held h gains.learns.slots later

-- ---- each slot that a hand had stays
learns_same : (h k : Held) → IsSameSlot h k → Learns h k
learns_same h k same = record { place = same.place; block = same.block; cells = λ a x always. same.known a x }

stays_found : (m i : ℕ) (v w : View) (h : Held) → Finds m i w.held h → (k : Held) × (find m i w.held ≡ Some k) × Learns h k
stays_found m i v w h r = (r.slot, r.found, learns_same h r.slot r.same)

-- where a slot came, all that the hand had is apart from the slot, and stays
pub apart_of : (hand new : Caller) (slot : Token) → GainsSlot slot.meta slot.index hand.view new.view → AreOnce new.view
    → (token : Token) → HasSlot hand token → IsApart token slot
apart_of hand new slot gains once token has = gained_apart slot.meta slot.index token.meta token.index hand.view new.view has.held gains once has.found

pub gained_keeps : (meta index : ℕ) (v w : View) → GainsSlot meta index v w → AreOnce w → KeepsSlots v w
gained_keeps meta index v w gains once m i h found = stays_found m i v w h (gained_finds meta index m i v w h gains once found)

-- where an excuse came
pub excused_keeps : (number : ℕ) (v w : View) → GainsExcuse number v w → KeepsSlots v w
excused_keeps number v w gains m i h found = stays_found m i v w h (same_find m i v.held w.held h gains.learns.slots found)
