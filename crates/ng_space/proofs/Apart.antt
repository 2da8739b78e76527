-- The slots of all views have no cell in common. A block that comes into a slot begins where no other block of
-- the view does.
use Rattle.std.proofs.Common.{◌≡◌, ◌≢◌, ℕ, ◌+◌, ◌%◌, ◌<◌, ◌≤◌, true, List, [], ◌∷◌, inl, inr, sym, ap, ◌∙◌, subst, arith}
use mathlib.Core.Option.{some, some-injective}
use lib.ListN.{get_elem?}
use Rattle.std.specs.Prelude.{Some, None}
use Rattle.ng_terms.specs.Heap.{extent}
use Rattle.ng_terms.specs.declared.entry.Extent.{Extent}
use Rattle.ng_rule.proofs.geometry.Facts as facts
use Rattle.ng_rule.proofs.geometry.Facts.{alone, has_held, held_leaf, held_slot, nested}
use Rattle.ng_rule.proofs.geometry.Lists.{among_one, find_among, is_at-here, is_at-true, total_by-among}
use Rattle.ng_rule.proofs.geometry.Nesting.{leaves_apart}
use Rattle.ng_rule.proofs.entry.Gives.{four}
use Rattle.ng_view.specs.Blocks.{IsBlock, IsSet}
use Rattle.ng_view.specs.Lists.{Among, count_of, find, is_at, total_by}
use Rattle.ng_view.specs.Places.{Owns, room, slot_start}
use Rattle.ng_view.specs.Rule.{Rule}
use Rattle.ng_view.specs.Slots.{IsPlace, Slots}
use Rattle.ng_view.specs.Views.{desk_of, has}
use Rattle.ng_view.specs.Words.{Words}
use Rattle.ng_view.specs.declared.view.Held.{Held}
use Rattle.ng_view.specs.declared.view.Place.{Place}
use Rattle.ng_view.specs.declared.view.Start.{Start}
use Rattle.ng_view.specs.declared.view.View.{View}
use Rattle.ng_space.specs.Blocks.{BlockToken, HasBlock}
use Rattle.ng_space.specs.Callers.{Caller}
use Rattle.ng_space.specs.Closings.{AreOwnedOnce}
use Rattle.ng_space.specs.Placed.{times_at}
use Rattle.ng_space.proofs.Entering.{once_held}

-- ---- under one rule
-- of the slots of a place a view has one
one_of_place : (hs : List Held) (x y : Held) → Among x hs → Among y hs → x.place ≡ y.place
    → total_by (λ (h : Held). count_of (is_at x.place.group.meta x.place.index h.place)) hs ≤ 1 → x ≡ y
one_of_place [] x y s t same once = absurd s
one_of_place (h ∷ hs) x y (inl e) (inl f) same once = e ∙ sym f
one_of_place (h ∷ hs) x y (inl e) (inr t) same once =
    absurd (let first : count_of (is_at x.place.group.meta x.place.index h.place) ≡ 1 = ap count_of (ap (λ (z : Held). is_at x.place.group.meta x.place.index z.place) (sym e) ∙ is_at-here x.place) in
    let more = total_by-among (λ (z : Held). count_of (is_at x.place.group.meta x.place.index z.place)) hs y t in
    let other : count_of (is_at x.place.group.meta x.place.index y.place) ≡ 1 = ap count_of (ap (is_at x.place.group.meta x.place.index) (sym same) ∙ is_at-here x.place) in
    omega arith)
one_of_place (h ∷ hs) x y (inr s) (inl f) same once =
    absurd (let first : count_of (is_at x.place.group.meta x.place.index h.place) ≡ 1 = ap count_of (ap (λ (z : Held). is_at x.place.group.meta x.place.index z.place) (sym f) ∙ ap (is_at x.place.group.meta x.place.index) (sym same) ∙ is_at-here x.place) in
    let more = total_by-among (λ (z : Held). count_of (is_at x.place.group.meta x.place.index z.place)) hs x s in
    let other : count_of (is_at x.place.group.meta x.place.index x.place) ≡ 1 = ap count_of (is_at-here x.place) in
    omega arith)
one_of_place (h ∷ hs) x y (inr s) (inr t) same once = one_of_place hs x y s t same (omega arith)

-- a cell is one slot's own, in one of the views
pub owned_once : (key : Start) (ws : List ℕ) (vs : List View) → Slots ws vs → Words key ws vs → AreOwnedOnce vs
owned_once key ws vs slots words a i j v w x y at_v at_w in_v in_w own_x own_y =
    let place : x.place ≡ y.place = leaves_apart key ws (desk_of vs).layout words.lawful (nested ws vs slots) a x.place y.place
    (held_slot ws vs slots i v x at_v in_v) (held_slot ws vs slots j w y at_w in_w)
    (held_leaf ws vs slots i v x at_v in_v) (held_leaf ws vs slots j w y at_w in_w) own_x own_y in
    let is : IsPlace ws x.place = slots.held i v at_v x in_v in
    let has_y : 1 ≤ has x.place.group.meta x.place.index w = subst (λ (p : Place). 1 ≤ has p.group.meta p.index w) (sym place) (has_held w y in_w) in
    let same : i ≡ j = alone ws vs slots i j v w x.place at_v at_w is (has_held v x in_v) has_y in
    let view : v ≡ w = some-injective v w (sym at_v ∙ ap (λ k. get_elem? vs k) same ∙ at_w) in
    let once : has x.place.group.meta x.place.index v ≤ 1 = facts.once ws vs slots i v x.place at_v is in
    (same, one_of_place v.held x y in_v (subst (λ (u : View). Among y u.held) (sym view) in_w) place (omega arith))

-- ---- a block that comes
-- no block of the view is at the address
abbrev pub IsNewAt : ℕ → View → Type 0
IsNewAt p v = (y : Held) (b : Extent) → Among y v.held → y.block ≡ Some b → b.at ≢ p

module _ (key : Start) (ws : List ℕ) (vs : List View) (id : ℕ) (v : View) (kept : Rule key ws vs) (here_v : get_elem? vs id ≡ some v)
    (m i : ℕ) (h : Held) (found : find m i v.held ≡ Some h) where
  there : Among h v.held × (is_at m i h.place ≡ true)
  there = find_among m i v.held h found

  -- another slot of the view has none of its cells
  same_slot : (y : Held) (a : ℕ) → Among y v.held → Owns y.place a → Owns h.place a → y ≡ h
  same_slot y a s its mine =
      let place = leaves_apart key ws (desk_of vs).layout kept.words.lawful (nested ws vs kept.slots) a y.place h.place
      (held_slot ws vs kept.slots id v y here_v s) (held_slot ws vs kept.slots id v h here_v there.0)
      (held_leaf ws vs kept.slots id v y here_v s) (held_leaf ws vs kept.slots id v h here_v there.0) its mine in
      let at = is_at-true m i h.place there.1 in
      let once : times_at m i v ≤ 1 = subst (λ (z : ℕ × ℕ). times_at z.0 z.1 v ≤ 1) (λ t. (at.0 t, at.1 t)) (once_held key ws vs id v kept here_v h there.0) in
      among_one m i v.held h y found once s (ap (is_at m i) place ∙ there.1)

  pub new_at : (p : ℕ) → h.block ≡ None → p % 16 ≡ 0 → slot_start h.place ≤ p → p < slot_start h.place + room h.place.group → IsNewAt p v
  new_at p none whole from roomy y b s is same =
      let lies : IsBlock y b = subst (IsSet y) is (kept.words.blocks id v here_v y s) in
      let its : Owns y.place b.at = (let low = lies.from in omega arith, lies.first) in
      let mine : Owns h.place p = (omega arith, four key ws vs id v kept here_v m i h found p whole roomy) in
      let one : y ≡ h = same_slot y p s (subst (Owns y.place) same its) mine in
      absurd (let q = sym is ∙ ap (λ (z : Held). z.block) one ∙ none in cc)

-- so none of the hand's is
pub apart_from_new : (hand : Caller) (v : View) (p : ℕ) → v ≡ hand.view → IsNewAt p v → (other : BlockToken) → HasBlock hand other → other.at ≢ p
apart_from_new hand v p same new other has =
    subst (IsNewAt p) same new has.held (extent other.at other.len other.align)
    (find_among other.slot.meta other.slot.index hand.view.held has.held has.found).0 has.live
