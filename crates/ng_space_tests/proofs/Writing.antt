-- A block in the slot that the hand of the trial pops.
use Rattle.std.proofs.Common.{◌≡◌, ℕ, ◌-◌, ◌*◌, ◌/◌, ◌&&◌, ◌<◌, ◌≤◌, eq-eqb, cond, true, refl, sym, ap, ◌∙◌, subst, ⊎_elim, inl, inr, arith}
use Rattle.std.specs.Prelude.{Some, nat_lt}
use Rattle.std.proofs.lemmas.Bool.{agree_below_at, cases_lt, ltb-true}
use Rattle.ng_class.specs.Class as class
use Rattle.ng_class.specs.Class.{units_of}
use Rattle.ng_rule.proofs.geometry.Lists.{find_edit}
use Rattle.ng_rule.proofs.hand.Load.{still_knows}
use Rattle.ng_view.specs.Blocks.{Knows}
use Rattle.ng_view.specs.Frame.{IsTrailer, KnowsByte}
use Rattle.ng_view.specs.Lists.{find}
use Rattle.ng_view.specs.Places.{slot_end}
use Rattle.ng_view.specs.Steps.{in_motion, learnt, loaded, popped, read, stored, wrote}
use Rattle.ng_view.specs.declared.view.Held.{Held}
use Rattle.ng_view.specs.declared.view.View.{View}
use Rattle.ng_space.specs.Blocks.{IsReady, OfSlot, Serves}
use Rattle.ng_space.specs.Callers.{Caller}
use Rattle.ng_space.specs.Masks.{Pops}
use Rattle.ng_space.specs.Tokens.{HasSlot, Token}
use Rattle.ng_space.proofs.Holding.{find-loaded}

-- the two cells of the trailer of a block of 2020 bytes were stored
module _ (hand w0 w1 : Caller) (slot : Token) (has : HasSlot hand slot) (e0 : w0.view ≡ stored hand.view slot.meta slot.index 12260 0) (e1 : w1.view ≡ stored w0.view slot.meta slot.index 12264 8)
    (start : slot.start ≡ 10240) (end : slot.end ≡ 12268) (room : slot.room ≡ 2032) where
  abbrev h : Held
  h = wrote 12264 8 (wrote 12260 0 has.held)

  found : find slot.meta slot.index w1.view.held ≡ Some h
  found = ap (λ (u : View). find slot.meta slot.index u.held) (e1 ∙ ap (λ (u : View). stored u slot.meta slot.index 12264 8) e0)
      ∙ find_edit slot.meta slot.index (wrote 12264 8) _ (wrote 12260 0 has.held) (λ y. refl) (find_edit slot.meta slot.index (wrote 12260 0) hand.view.held has.held (λ y. refl) has.found)

  the_same : (y : Held) → Some h ≡ Some y → h ≡ y
  the_same y e = cc

  last : slot_end has.held.place ≡ 12268
  last = sym has.place.end ∙ end

  low : Knows 12260 0 h
  low = still_knows 12264 8 12260 0 (wrote 12260 0 has.held) (λ e. omega arith) (inl refl)

  trailer : IsTrailer h 8
  trailer = inr (inr (
    omega arith,
    subst (λ e. KnowsByte (e - 8) 0 h) (sym last) (0, low, refl),
    subst (λ e. Knows (e - 4) 8 h) (sym last) (inl refl),
    subst (λ e. KnowsByte (e - 5) 0 h) (sym last) (0, low, refl),
  ))

  is_ready : IsReady slot 10240 2020 h
  is_ready = record {
    whole = refl;
    from = omega arith;
    roomy = omega arith;
    within = omega arith;
    wide = λ large. absurd (let s : ℕ = slot.storage in let l : 65536 ≤ (10240 - s) / 16 = large in omega arith);
    trailer = subst (λ e. IsTrailer h ((e - 10240) - 2020)) (sym end) trailer;
    shift = inl (sym start ∙ has.place.start);
  }

  pub ready : OfSlot w1 slot (IsReady slot 10240 2020)
  ready y f = subst (IsReady slot 10240 2020) (the_same y (sym found ∙ f)) is_ready

  pub serves : OfSlot hand slot (Serves 2020 16) → OfSlot w1 slot (Serves 2020 16)
  serves can y f = subst (Serves 2020 16) (the_same y (sym found ∙ f)) (can has.held has.found)

  -- and the slot is there still
  pub still : w1.number ≡ hand.number → HasSlot w1 slot
  still number = record { own = has.own ∙ sym number; held = h; found = found; free = has.free; place = has.place }

-- ---- a slot of class 23 serves so many bytes
below-pair : (lower : ℕ) → lower < 23 → 16 * units_of lower < 2024
unfolding class.unit_table
below-pair lower low = ltb-true _ _ (agree_below_at (λ c. nat_lt (16 * units_of c) 2024) (λ c. true) 23 lower refl low)

class_serves : (h : Held) → h.place.group.tag ≡ 24 → Serves 2020 16 h
class_serves h tag = (
  23,
  tag,
  inl (record {
    known = omega arith;
    small = omega arith;
    near = λ least l. ⊎_elim (λ (low : least < 23). absurd (let holds = l.holds in let few = below-pair least low in omega arith)) (λ (high : 23 ≤ least). omega arith) (cases_lt least 23);
  }),
)

pub popped_serves : (v w : View) (slot : Token) (seen : ℕ) → slot.meta ≡ 4120 → Pops v 4120 seen slot.index w → seen / 4294967296 ≡ 24 → (h : Held) → find slot.meta slot.index w.held ≡ Some h → Serves 2020 16 h
popped_serves v w slot seen meta p tag h found =
    let g = p.group in let l = p.looks in let i = slot.index in
    let came : find 4120 i (popped v g i).held ≡ Some (in_motion g i) = ap (λ b. cond b (Some (in_motion g i)) (find 4120 i v.held)) (λ k. eq-eqb g.meta 4120 p.of_meta k && eq-eqb i i refl k) in
    let looked = find-loaded (loaded (read (popped v g i) 4144 seen) 4136 l.base) 4152 l.flags 4120 i (learnt 4136 l.base (in_motion g i)) (find-loaded (read (popped v g i) 4144 seen) 4136 l.base 4120 i (in_motion g i) came) in
    let there : find slot.meta i w.held ≡ Some (learnt 4152 l.flags (learnt 4136 l.base (in_motion g i))) = (λ k. find (meta k) i (l.view k).held) ∙ looked in
    let same : learnt 4152 l.flags (learnt 4136 l.base (in_motion g i)) ≡ h = one_held _ h (sym there ∙ found) in
    class_serves h (ap (λ (y : Held). y.place.group.tag) (sym same) ∙ p.class ∙ tag)
  where
    one_held : (x y : Held) → Some x ≡ Some y → x ≡ y
    one_held x y e = cc
