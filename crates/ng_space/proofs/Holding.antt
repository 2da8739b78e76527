-- A slot stays in a hand's view over loads, and comes into it by a pop.
use Rattle.std.proofs.Common.{◌≡◌, ℕ, ◌+◌, ◌<◌, ◌≤◌, ◌%◌, ◌/◌, ◌&&◌, eqb, eq-eqb, cond, Bool, true, false, List, [], ◌∷◌, map, refl, sym, ap, ◌∙◌, subst, inl, inr, arith}
use prog.Atomic.{either}
use Rattle.std.specs.Prelude.{Some}
use Rattle.std.specs.Int.{trailing_zeros, w32}
use Rattle.ng_view.specs.Lists.{Among, count_of, find, is_at, total_by}
use Rattle.ng_view.specs.May.{May}
use Rattle.ng_view.specs.Steps.{in_motion, learnt, loaded, popped, read, stored}
use Rattle.ng_view.specs.Tells.{Tells}
use Rattle.ng_view.specs.declared.view.Group.{Group}
use Rattle.ng_view.specs.declared.view.Held.{Held}
use Rattle.ng_view.specs.declared.view.View.{View}
use Rattle.ng_view.specs.declared.view.Start.{Start}
use Rattle.ng_rule.proofs.geometry.Bits.{cleared, raised}
use Rattle.ng_rule.proofs.geometry.Lists.{find_among, is_at-true}
use Rattle.ng_rule.proofs.hand.Moves.{Popping, Pushing, pops_may, pushes_may, stores_own_may}
use Rattle.ng_space.specs.Callers.{Caller}
use Rattle.ng_space.specs.Masks.{HasFree}
use Rattle.ng_space.specs.Placed.{AreOnce, IsRead, times_at}
use Rattle.ng_space.specs.Tokens.{HasSlot, Token}

pub find-map : (m i : ℕ) (t : Held → Held) (hs : List Held) (h : Held) → ((y : Held) → (t y).place ≡ y.place) → find m i hs ≡ Some h → find m i (map t hs) ≡ Some (t h)
find-map m i t [] h same e = absurd (cc)
find-map m i t (y ∷ hs) h same e =
    ap (λ p. cond (is_at m i p) (Some (t y)) (find m i (map t hs))) (same y) ∙ by_test (find-map m i t hs h same) (is_at m i y.place) e
  where
    by_test : (find m i hs ≡ Some h → find m i (map t hs) ≡ Some (t h)) → (b : Bool) → cond b (Some y) (find m i hs) ≡ Some h → cond b (Some (t y)) (find m i (map t hs)) ≡ Some (t h)
    by_test ih true e = let q : y ≡ h = cc in ap (λ (z : Held). Some (t z)) q
    by_test ih false e = ih e

-- the slot that was there is there after a load
pub find-loaded : (v : View) (a x m i : ℕ) (h : Held) → find m i v.held ≡ Some h → find m i (loaded v a x).held ≡ Some (learnt a x h)
find-loaded v a x m i h e = find-map m i (learnt a x) v.held h (λ y. refl) e

pub has_loaded : (hand new : Caller) (a x : ℕ) (slot : Token) → new.view ≡ loaded hand.view a x → new.number ≡ hand.number → HasSlot hand slot → HasSlot new slot
has_loaded hand new a x slot view number has = record {
  own = has.own ∙ sym number;
  held = learnt a x has.held;
  found = ap (λ (v : View). find slot.meta slot.index v.held) view ∙ find-loaded hand.view a x slot.meta slot.index has.held has.found;
  free = has.free;
  place = has.place;
}

pub has_read : (hand new : Caller) (a x : ℕ) (slot : Token) → new.view ≡ read hand.view a x → new.number ≡ hand.number → HasSlot hand slot → HasSlot new slot
has_read hand new a x slot view number has = record {
  own = has.own ∙ sym number;
  held = has.held;
  found = ap (λ (v : View). find slot.meta slot.index v.held) view ∙ has.found;
  free = has.free;
  place = has.place;
}

-- the two words tell where it lies
pub read_of : (key : Start) (v : View) (m i base flags : ℕ) (h : Held) → find m i v.held ≡ Some h → Tells key v (m + 16) base → Tells key (loaded v (m + 16) base) (m + 32) flags → IsRead h.place m i base flags
read_of key v m i base flags h e first second =
    let is = find_among m i v.held h e in
    let at = is_at-true m i h.place is.1 in
    let later = find_among m i (loaded v (m + 16) base).held (learnt (m + 16) base h) (find-loaded v (m + 16) base m i h e) in record {
      meta_is = at.0;
      index_is = at.1;
      base_is = sym ((first.slots h is.0).mem (ap (λ (n : ℕ). n + 16) (sym at.0)));
      flags_are = (second.slots (learnt (m + 16) base h) later.0).flags (ap (λ (n : ℕ). n + 32) (sym at.0));
    }

-- a slot that was popped is there
pub popped_free : (v w : View) (g : Group) (m i a n : ℕ) → g.meta ≡ m → w ≡ read (popped v g i) a n → HasFree w m i
popped_free v w g m i a n of_meta is = subst (λ (x : View). HasFree x m i) (sym is) (record {
  held = in_motion g i;
  found = ap (λ b. cond b (Some (in_motion g i)) (find m i v.held)) (λ k. eq-eqb g.meta m of_meta k && eq-eqb i i refl k);
  free = refl;
})

-- ---- what the steps on a hand's own slot ask
pub stores_in_slot : (key : Start) (id : ℕ) (v : View) (m i a x : ℕ) (hand : Caller) (slot : Token) → HasSlot hand slot → v ≡ hand.view → m ≡ slot.meta → i ≡ slot.index
    → a % 4 ≡ 0 → slot.start ≤ a + 4 → a < slot.end → x < 4294967296 → (a + 4 ≡ slot.start → x % 256 ≡ 0) → May key id v (a / 4) (λ n. x) (λ v n w. w ≡ stored v m i a x)
stores_in_slot key id v m i a x hand slot has is_view is_meta is_index al low high fits header =
    let p = has.place in
    let start = p.start in let end = p.end in
    stores_own_may key id v m i a x has.held (here v m i hand slot has is_view is_meta is_index) has.free (omega arith, omega arith) al fits (λ e. header (e ∙ sym start))
  where
    here : (v : View) (m i : ℕ) (hand : Caller) (slot : Token) (has : HasSlot hand slot) → v ≡ hand.view → m ≡ slot.meta → i ≡ slot.index → find m i v.held ≡ Some has.held
    here v m i hand slot has e f g = (λ k. find (f k) (g k) (e k).held) ∙ has.found

pub pushes_slot : (key : Start) (id : ℕ) (v : View) (m i old seen : ℕ) (hand : Caller) (slot : Token) → HasSlot hand slot → v ≡ hand.view → m ≡ slot.meta → i ≡ slot.index → old ≡ seen → 0 < seen
    → May key id v ((m + 28) / 4) (λ n. either (eqb n old) (raised old i) n) (Pushing m i old)
pushes_slot key id v m i old seen hand slot has e f g same some_bit =
    pushes_may key id v m i old has.held ((λ k. find (f k) (g k) (e k).held) ∙ has.found) has.free (let s = same in omega arith)

pub pops_lowest : (key : Start) (id : ℕ) (v : View) (m seen low : ℕ) → (v.books ≡ [] → ⊥) → m % 4 ≡ 0 → 0 < seen / 4294967296 → 0 < seen % 4294967296 → low ≡ seen % 4294967296
    → May key id v ((m + 24) / 4) (λ n. either (eqb n seen) (cleared seen (trailing_zeros w32 low)) n) (Popping m seen (trailing_zeros w32 low))
pops_lowest key id v m seen low caller al tagged some_bit is =
    subst (λ l. May key id v ((m + 24) / 4) (λ n. either (eqb n seen) (cleared seen (trailing_zeros w32 l)) n) (Popping m seen (trailing_zeros w32 l))) (sym is) (pops_may key id v m seen caller al tagged some_bit)

-- a list in which each slot stands once is so too once more cells are known
times-map : (m i : ℕ) (t : Held → Held) (hs : List Held) → ((y : Held) → (t y).place ≡ y.place)
    → total_by (λ (k : Held). count_of (is_at m i k.place)) (map t hs) ≡ total_by (λ (k : Held). count_of (is_at m i k.place)) hs
times-map m i t [] same = refl
times-map m i t (y ∷ hs) same =
    let first : count_of (is_at m i (t y).place) ≡ count_of (is_at m i y.place) = ap (λ p. count_of (is_at m i p)) (same y) in
    let rest = times-map m i t hs same in
    ap (λ n. n + total_by (λ (k : Held). count_of (is_at m i k.place)) (map t hs)) first ∙ ap (λ n. count_of (is_at m i y.place) + n) rest

from-map : (t : Held → Held) (hs : List Held) (h : Held) → Among h (map t hs) → (y : Held) × Among y hs × (h ≡ t y)
from-map t [] h there = absurd there
from-map t (y ∷ hs) h (inl here) = (y, inl refl, here)
from-map t (y ∷ hs) h (inr later) = let found = from-map t hs h later in (found.0, inr found.1, found.2)

pub once_loaded : (v : View) (a x : ℕ) → AreOnce v → AreOnce (loaded v a x)
once_loaded v a x once h there =
    let found = from-map (learnt a x) v.held h there in
    let place : h.place ≡ found.0.place = ap (λ (k : Held). k.place) found.2 in
    subst (λ p. times_at p.group.meta p.index (loaded v a x) ≤ 1) (sym place)
    (subst (λ n. n ≤ 1) (sym (times-map found.0.place.group.meta found.0.place.index (learnt a x) v.held (λ y. refl))) (once found.0 found.1))
