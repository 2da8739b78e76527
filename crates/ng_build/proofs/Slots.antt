-- Stores in a slot of the seat: the slot's cells change, and nothing else.
use Rattle.std.proofs.Common.{◌≡◌, ◌≢◌, ℕ, ◌+◌, ◌%◌, ◌<◌, ◌≤◌, cond, Bool, true, false, List, [], ◌∷◌, ◌++◌, length, refl, sym, ap, ◌∙◌, subst, inl, inr, arith}
use Rattle.std.specs.Prelude.{Some}
use Rattle.ng_rule.proofs.geometry.Lists.{find_among, find_edit, is_at-true}
use Rattle.ng_view.specs.Blocks.{Knows}
use Rattle.ng_view.specs.Lists.{edit, find, is_at, without}
use Rattle.ng_view.specs.Places.{slot_start, stride}
use Rattle.ng_view.specs.Steps.{forget, stored, wrote}
use Rattle.ng_view.specs.declared.view.Held.{Held}
use Rattle.ng_view.specs.declared.view.Store.{Store}
use Rattle.ng_view.specs.declared.view.View.{View}
use Rattle.ng_view.specs.Stores.{FitsMotion, IsInMotion, Stores}
use Rattle.ng_rule.proofs.lock.Knowing.{still_known}
use Rattle.ng_build.specs.Nestings.{OnlySlot, SeesIn, recalling}

-- ---- edits of one slot
pub edit-edit : (m i : ℕ) (t s : Held → Held) (hs : List Held) → ((y : Held) → (s y).place ≡ y.place) → edit m i t (edit m i s hs) ≡ edit m i (λ y. t (s y)) hs
edit-edit m i t s [] keeps = refl
edit-edit m i t s (x ∷ xs) keeps = by_test (edit-edit m i t s xs keeps) (is_at m i x.place) refl
  where
    by_test : edit m i t (edit m i s xs) ≡ edit m i (λ y. t (s y)) xs → (b : Bool) → is_at m i x.place ≡ b → edit m i t (cond b (s x ∷ xs) (x ∷ edit m i s xs)) ≡ cond b (t (s x) ∷ xs) (x ∷ edit m i (λ y. t (s y)) xs)
    by_test ih true is = ap (λ b. cond b (t (s x) ∷ xs) (s x ∷ edit m i t xs)) (ap (is_at m i) (keeps x) ∙ is)
    by_test ih false is = ap (λ b. cond b (t x ∷ edit m i s xs) (x ∷ edit m i t (edit m i s xs))) is ∙ ap (λ (ys : List Held). x ∷ ys) ih

pub without-edit : (m i : ℕ) (t : Held → Held) (hs : List Held) → ((y : Held) → (t y).place ≡ y.place) → without m i (edit m i t hs) ≡ without m i hs
without-edit m i t [] keeps = refl
without-edit m i t (x ∷ xs) keeps = by_test (without-edit m i t xs keeps) (is_at m i x.place) refl
  where
    by_test : without m i (edit m i t xs) ≡ without m i xs → (b : Bool) → is_at m i x.place ≡ b → without m i (cond b (t x ∷ xs) (x ∷ edit m i t xs)) ≡ cond b xs (x ∷ without m i xs)
    by_test ih true is = ap (λ b. cond b xs (t x ∷ without m i xs)) (ap (is_at m i) (keeps x) ∙ is)
    by_test ih false is = ap (λ b. cond b (edit m i t xs) (x ∷ without m i (edit m i t xs))) is ∙ ap (λ (ys : List Held). x ∷ ys) ih

-- an edit is told by what it makes of the slot that is found
edit-same : (m i : ℕ) (t u : Held → Held) (hs : List Held) (h : Held) → find m i hs ≡ Some h → t h ≡ u h → edit m i t hs ≡ edit m i u hs
edit-same m i t u [] h e same = refl
edit-same m i t u (x ∷ xs) h e same = by_test (edit-same m i t u xs h) (is_at m i x.place) e
  where
    by_test : (find m i xs ≡ Some h → t h ≡ u h → edit m i t xs ≡ edit m i u xs) → (b : Bool) → cond b (Some x) (find m i xs) ≡ Some h → cond b (t x ∷ xs) (x ∷ edit m i t xs) ≡ cond b (u x ∷ xs) (x ∷ edit m i u xs)
    by_test ih true e = let q : x ≡ h = cc in ap (λ (y : Held). y ∷ xs) (ap t q ∙ same ∙ sym (ap u q))
    by_test ih false e = ap (λ (ys : List Held). x ∷ ys) (ih e same)

edit-none : (m i : ℕ) (hs : List Held) → edit m i (λ y. y) hs ≡ hs
edit-none m i [] = refl
edit-none m i (x ∷ xs) = by_test (edit-none m i xs) (is_at m i x.place)
  where
    by_test : edit m i (λ y. y) xs ≡ xs → (b : Bool) → cond b (x ∷ xs) (x ∷ edit m i (λ y. y) xs) ≡ x ∷ xs
    by_test ih true = refl
    by_test ih false = ap (λ (ys : List Held). x ∷ ys) ih

-- ---- views that differ in one slot
pub slot_none : (v : View) (m i : ℕ) (h : Held) → find m i v.held ≡ Some h → OnlySlot v m i v
slot_none v m i h found = record {
  cells = h.cells;
  view = ap (λ (hs : List Held). record v { held = hs }) (sym (edit-same m i (recalling h.cells) (λ y. y) v.held h found refl ∙ edit-none m i v.held));
}

pub slot_both : (v w u : View) (m i : ℕ) → OnlySlot v m i w → OnlySlot w m i u → OnlySlot v m i u
slot_both v w u m i a b = record {
  cells = b.cells;
  view =
      b.view
      ∙ ap (λ (x : View). record x { held = edit m i (recalling b.cells) x.held; stores = u.stores }) a.view
      ∙ ap (λ (hs : List Held). record v { held = hs; stores = u.stores }) (edit-edit m i (recalling b.cells) (recalling a.cells) v.held (λ y. refl));
}

pub slot_found : (v w : View) (m i : ℕ) (h : Held) → find m i v.held ≡ Some h → (o : OnlySlot v m i w) → find m i w.held ≡ Some (recalling o.cells h)
slot_found v w m i h found o = ap (λ (x : View). find m i x.held) o.view ∙ find_edit m i (recalling o.cells) v.held h (λ y. refl) found

-- ---- a store
-- the slot that the seat has begins at base, and is room bytes long
pub record HasSlotAt (v : View) (m i base room : ℕ) : Type 0 where
  pub slot : Held
  pub found : find m i v.held ≡ Some slot
  pub begins : base ≡ slot_start slot.place
  pub step : room ≡ stride slot.place.group

pub slot_after : (v w : View) (m i base room : ℕ) → HasSlotAt v m i base room → OnlySlot v m i w → HasSlotAt w m i base room
slot_after v w m i base room has o = record { slot = recalling o.cells has.slot; found = slot_found v w m i has.slot has.found o; begins = has.begins; step = has.step }

-- one cell of the slot is known then, and of the others what was known still is
pub record Writes (v : View) (m i a x : ℕ) (w : View) : Type 0 where
  pub only : OnlySlot v m i w
  pub here : SeesIn w m i a x
  pub kept : (b y : ℕ) → b ≢ a → SeesIn v m i b y → SeesIn w m i b y
  pub noted : w.stores ≡ v.stores ++ record { at = a; value = x; behind = length v.readings } ∷ []

module _ (v : View) (m i base room : ℕ) (has : HasSlotAt v m i base room) (a : ℕ) (whole : a % 4 ≡ 0) (from : base ≤ a + 4) (below : a + 4 < base + room) where
  abbrev h : Held
  h = has.slot

  at_meta : h.place.group.meta ≡ m
  at_meta = (is_at-true m i h.place (find_among m i v.held h has.found).1).0

  at_index : h.place.index ≡ i
  at_index = (is_at-true m i h.place (find_among m i v.held h has.found).1).1

  cell : IsInMotion v a
  cell = record {
    slot = h;
    found = ap (λ n. find n h.place.index v.held) at_meta ∙ ap (λ n. find m n v.held) at_index ∙ has.found;
    own = (let e = has.begins in omega arith, let e = has.begins in let s = has.step in omega arith);
    whole = whole;
  }

  pub slot_fits : (x : ℕ) → (a + 4 ≡ base → x % 256 ≡ 0) → FitsMotion v a x
  unfolding cell
  slot_fits x low = record { cell = cell; low = λ e. low (e ∙ sym has.begins) }

  module _ (w : View) (x : ℕ) (told : Stores v a x w) where
    is : w ≡ stored v m i a x
    unfolding cell
    is = told.slot cell ∙ ap (λ n. stored v n h.place.index a x) at_meta ∙ ap (λ n. stored v m n a x) at_index

    noted : w.stores ≡ v.stores ++ record { at = a; value = x; behind = length v.readings } ∷ []
    noted = ap (λ (y : View). y.stores) is

    edited_so : w ≡ record v { held = edit m i (recalling ((a, x) ∷ forget a h.cells)) v.held; stores = w.stores }
    edited_so = is
        ∙ ap (λ (hs : List Held). record v { held = hs; stores = v.stores ++ record { at = a; value = x; behind = length v.readings } ∷ [] }) (edit-same m i (wrote a x) (recalling ((a, x) ∷ forget a h.cells)) v.held h has.found refl)
        ∙ ap (λ (ss : List Store). record v { held = edit m i (recalling ((a, x) ∷ forget a h.cells)) v.held; stores = ss }) (sym noted)

    found_then : find m i w.held ≡ Some (wrote a x h)
    found_then = ap (λ (y : View). find m i y.held) is ∙ find_edit m i (wrote a x) v.held h (λ y. refl) has.found

    the_slot : (k : Held) → find m i w.held ≡ Some k → k ≡ wrote a x h
    the_slot k e = let f : Some (wrote a x h) ≡ Some k = sym found_then ∙ e in let q : wrote a x h ≡ k = cc in sym q

    pub slot_writes : Writes v m i a x w
    slot_writes = record {
      only = record {
        cells = (a, x) ∷ forget a h.cells;
        view = edited_so;
      };
      here = λ k e. subst (Knows a x) (sym (the_slot k e)) (inl refl);
      kept = λ b y ne sees k e. subst (Knows b y) (sym (the_slot k e)) (inr (still_known a b y h.cells ne (sees h has.found)));
      noted = noted;
    }
