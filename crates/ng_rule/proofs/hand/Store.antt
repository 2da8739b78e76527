-- A store in an own slot keeps the rule.
use Rattle.std.proofs.Common.{◌≡◌, ◌≢◌, ℕ, ◌+◌, ◌/◌, ◌%◌, ◌<◌, ◌≤◌, eqb, eq-eqb, cond, Bool, true, false, true≢false, List, [], ◌∷◌, length, set, refl, sym, ap, ◌∙◌, subst, ⊎_elim, inl, inr, arith}
use mathlib.Core.Option.{some}
use lib.ListN.{get_elem?}
use Rattle.std.specs.Prelude.{Some, None}
use Rattle.std.proofs.lemmas.Bool.{cases_lt}
use Rattle.ng_view.specs.declared.view.Place.{Place}
use Rattle.ng_terms.specs.declared.entry.Extent.{Extent}
use Rattle.ng_view.specs.declared.view.Held.{Held}
use Rattle.ng_view.specs.declared.view.Desk.{Desk}
use Rattle.ng_view.specs.declared.view.Run.{Run}
use Rattle.ng_view.specs.declared.view.View.{View}
use Rattle.ng_view.specs.declared.view.Start.{Start}
use Rattle.ng_view.specs.Lists.{Among, total_by, count_of, is_at, find, edit}
use Rattle.ng_view.specs.Cells.{cell, tag, last, avail, freed, owed, marked, group_at}
use Rattle.ng_view.specs.Places.{Owns, slot_start}
use Rattle.ng_view.specs.Hands.{IsDeskless, IsMoving}
use Rattle.ng_view.specs.Classes.{IsServed}
use Rattle.ng_view.specs.Words.{IsLawful}
use Rattle.ng_view.specs.Views.{here, has, desk_of, lives}
use Rattle.ng_view.specs.Rule.{Rule}
use Rattle.ng_view.specs.Layouts.{InArea}
use Rattle.ng_view.specs.Knowledge.{IsFree, IsKnown, Noted}
use Rattle.ng_view.specs.Blocks.{IsSet}
use Rattle.ng_view.specs.Slots.{IsPlace}
use Rattle.ng_view.specs.Listing.{Listing}
use Rattle.ng_view.specs.Steps.{edited, forget, stored, wrote}
use Rattle.ng_rule.proofs.hand.Load.{served_more}
use Rattle.ng_rule.proofs.geometry.Readings.{with_store}
use Rattle.ng_rule.proofs.geometry.Lists.{each_set, desk_same, at_other, index_same, find_among, among_edit, among_edit_once, total_by-edit, is_at-true}
use Rattle.ng_rule.proofs.geometry.Facts.{marked_dead, has_held, held_slot, held_leaf, nested, alone, once}
use Rattle.ng_rule.proofs.geometry.Nesting.{IsSlot, IsLeaf, own_in_run, off_areas, leaves_apart}
use Rattle.ng_rule.proofs.geometry.Frames.{Same, own_is, same_own, words_same, place_same, index_below, free_own, own_low, first_same, zero_home}
use Rattle.ng_rule.proofs.geometry.Parts.{Quiet, quiet_excuses, quiet_hands, quiet_history, slots_by, owed_same, slots_with, each_keep, listing_less, free_cells_by, masks_by, numbers_by, plain_less}

pub forgot : (a : ℕ) (cs : List (ℕ × ℕ)) (b y : ℕ) → Among {A = ℕ × ℕ} (b, y) (forget a cs) → Among {A = ℕ × ℕ} (b, y) cs × (b ≢ a)
forgot a [] b y s = elim s [ ]
forgot a (c ∷ cs) b y s = by_test (forgot a cs b y) (eqb c.0 a) refl s
  where
    by_test : (Among {A = ℕ × ℕ} (b, y) (forget a cs) → Among {A = ℕ × ℕ} (b, y) cs × (b ≢ a)) → (t : Bool) → eqb c.0 a ≡ t → Among {A = ℕ × ℕ} (b, y) (cond t (forget a cs) (c ∷ forget a cs)) → Among {A = ℕ × ℕ} (b, y) (c ∷ cs) × (b ≢ a)
    by_test ih true is s = let r = ih s in (inr r.0, r.1)
    by_test ih false is (inl e) = (inl e, λ q. true≢false (sym (eq-eqb c.0 a (sym (ap (λ (p : ℕ × ℕ). p.0) e) ∙ q)) ∙ is))
    by_test ih false is (inr s) = let r = ih s in (inr r.0, r.1)

-- a store leaves one slot one slot, with its block
edited_one : (m i a x : ℕ) (h : Held) (b : Extent) → h.block ≡ Some b → (y : Held) × (edit m i (wrote a x) (h ∷ []) ≡ y ∷ []) × (y.block ≡ Some b)
edited_one m i a x h b live = by_test (is_at m i h.place)
  where
    by_test : (t : Bool) → (y : Held) × (cond t (wrote a x h ∷ []) (h ∷ []) ≡ y ∷ []) × (y.block ≡ Some b)
    by_test true = (wrote a x h, refl, live)
    by_test false = (h, refl, live)

module _ (key : Start) (ws : List ℕ) (vs : List View) (id : ℕ) (v : View) (kept : Rule key ws vs) (here_v : get_elem? vs id ≡ some v)
    (m i a x : ℕ) (h : Held) (found : find m i v.held ≡ Some h) (own : Owns h.place a) (al : a % 4 ≡ 0) (fits : x < 4294967296) (low : a + 4 ≡ slot_start h.place → x % 256 ≡ 0) (sets : IsSet (wrote a x h) h.block) where
  abbrev ws' : List ℕ
  ws' = set ws (a / 4) x

  abbrev w : View
  w = edited v m i a x

  there : Among h v.held × (is_at m i h.place ≡ true)
  there = find_among m i v.held h found

  slot : IsSlot ws h.place
  slot = held_slot ws vs kept.slots id v h here_v there.0

  leaf : IsLeaf (desk_of vs).layout h.place
  leaf = held_leaf ws vs kept.slots id v h here_v there.0

  in_run : (r : Run) × Among r (desk_of vs).layout.runs × (r.area ≡ false) × Rattle.ng_view.specs.Layouts.Inside r a
  in_run = own_in_run key ws (desk_of vs).layout kept.words.lawful (nested ws vs kept.slots) a h.place slot own

  long : a / 4 < length ws
  long = index_below key ws (desk_of vs).layout kept.words.lawful (nested ws vs kept.slots) in_run.0 a in_run.1 in_run.3

  same : Same ws ws' (desk_of vs).layout
  same = same_own key ws (desk_of vs).layout kept.words.lawful (nested ws vs kept.slots) a x al
      (own_is key ws (desk_of vs).layout kept.words.lawful (nested ws vs kept.slots) a h.place al slot leaf own) (own_low key ws (desk_of vs).layout kept.words.lawful (nested ws vs kept.slots) a x h.place slot leaf own low) (in_run.0, in_run.1, in_run.3) long fits

  -- a cell of a live meta
  field : (n b : ℕ) → n % 4 ≡ 0 → b % 4 ≡ 0 → b < 40 → 0 < tag ws n → cell ws' (n + b) ≡ cell ws (n + b)
  field n b nl bl lb l =
      at_other ws a (n + b) x al (omega arith)
      (λ e. off_areas key ws (desk_of vs).layout kept.words.lawful (nested ws vs kept.slots) a n in_run (kept.words.lawful.groups n nl l).in_area (omega arith) (omega arith))

  marks : (n j : ℕ) → n % 4 ≡ 0 → marked ws' n j ≡ marked ws n j
  marks n j nl =
      ⊎_elim
      (λ (l : 0 < tag ws n). λ t. Rattle.ng_view.specs.Cells.marked_of (same.tags n nl t) (field n 24 nl refl (omega arith) l t) (field n 28 nl refl (omega arith) l t) j)
      (λ (l : tag ws n ≤ 0). let z : tag ws n ≡ 0 = (let y : ℕ = tag ws n in omega arith) in marked_dead (tag ws' n) (avail ws' n) (freed ws' n) j (same.tags n nl ∙ z) ∙ sym (marked_dead (tag ws n) (avail ws n) (freed ws n) j z))
      (cases_lt 0 (tag ws n))

  page_zero : (b : ℕ) → b % 4 ≡ 0 → b < 4096 → cell ws' b ≡ cell ws b
  page_zero = zero_home key ws (desk_of vs).layout kept.words.lawful (nested ws vs kept.slots) a x al (in_run.0, in_run.1, in_run.3)

  quiet : Quiet v w
  quiet = record {
    leads = refl;
    books = refl;
    excuses = refl;
    sent = refl;
    taken = refl;
    parcel = refl;
    blocks = λ b. let e = total_by-edit (λ (y : Held). lives b y.block) m i (wrote a x) v.held h found in omega arith;
    idle = λ f b. let r = f b in (r.0, r.1, λ l p. let e = r.2 l p in (ap (edit m i (wrote a x)) e.0, e.1));
    whole = λ f p. let o = f p in let r = edited_one m i a x o.slot o.block o.live in record { follows = o.follows; bookless = o.bookless; excuseless = o.excuseless; slot = r.0; block = o.block; held = ap (edit m i (wrote a x)) o.held ∙ r.1; live = r.2 };
  }

  desk : desk_of (set vs id w) ≡ desk_of vs
  desk = desk_same vs id v w here_v refl refl

  counts : (n j : ℕ) → has n j w ≡ has n j v
  counts n j = let e = total_by-edit (λ (y : Held). here n j y.place) m i (wrote a x) v.held h found in omega arith

  -- the cell is no other slot's
  other_cell : (j : ℕ) (u : View) (y : Held) → get_elem? vs j ≡ some u → Among y u.held → (y.place ≡ h.place → ⊥) → IsKnown ws y → IsKnown ws' y
  other_cell j u y e s ne k b z t =
      let r = k b z t in
      let sl = held_slot ws vs kept.slots j u y e s in
      record { own = r.own; whole = r.whole; value = at_other ws a b x al r.whole (λ q. ne (leaves_apart key ws (desk_of vs).layout kept.words.lawful (nested ws vs kept.slots) a y.place h.place sl slot (held_leaf ws vs kept.slots j u y e s) leaf (subst (Owns y.place) q r.own) own)) ∙ r.value }

  -- each entry after the store is the one of this slot, or was there and is of another slot
  apart : (j : ℕ) (u : View) (y : Held) → j ≢ id → get_elem? vs j ≡ some u → Among y u.held → y.place ≡ h.place → ⊥
  apart j u y n e s q =
      n (alone ws vs kept.slots j id u v h.place e here_v slot.0
      (subst (λ (p : Place). 1 ≤ has p.group.meta p.index u) q (has_held u y s)) (has_held v h there.0))

  one : total_by (λ (y : Held). count_of (is_at m i y.place)) v.held ≤ 1
  one = let p = is_at-true m i h.place there.1 in
      let o = once ws vs kept.slots id v h.place here_v slot.0 in
      let o' : has m i v ≤ 1 = subst (λ (q : ℕ × ℕ). has q.0 q.1 v ≤ 1) (λ t. (p.0 t, p.1 t)) o in omega arith

  pub edits : Rule key ws' (set vs id w)
  edits = record {
    slots = slots_with key ws vs kept.slots kept.words.lawful ws' id v w here_v (slots_by ws ws' vs id v w here_v (λ n j nl lj. ((let e = marks n j nl in let b = counts n j in omega arith), owed_same ws ws' (desk_of vs).layout same n j nl)) kept.slots) (plain_less ws ws' (λ n j nl lj. let e = marks n j nl in omega arith) kept.slots.plain) same refl mine;
    words = record {
      lawful = subst (λ (z : Desk). IsLawful key ws' z.layout) (sym desk) (words_same key ws ws' (desk_of vs).layout kept.words.lawful same (first_same key ws ws' page_zero kept.words.lawful.first));
      blocks = each_keep (λ u. (y : Held) → Among y u.held → IsSet y y.block) vs id v w here_v set_mine kept.words.blocks;
    };
    listing = subst (Listing ws') (sym desk) (listing_less ws ws' (desk_of vs) same (λ n j nl lj. let e = marks n j nl in omega arith) kept.listing);
    excuses = quiet_excuses key vs id v w here_v quiet (ap (λ (d : Desk). d.refusals) desk) kept.excuses;
    history = quiet_history key vs id v w here_v quiet kept.history;
    knowledge = record {
      desk = subst (Noted ws') (sym desk) (record { free = free_cells_by ws ws' (desk_of vs) same free kept.knowledge.desk.free; masks = masks_by ws ws' (desk_of vs) same (λ n nl l. (field n 24 nl refl (omega arith) l, field n 28 nl refl (omega arith) l)) kept.knowledge.desk.masks; numbers = numbers_by ws ws' (desk_of vs) page_zero kept.knowledge.desk.numbers });
      each = each_set (λ u. Unit {0}) (λ u. (y : Held) → Among y u.held → IsKnown ws' y) vs id w (λ j u n e y s. other_cell j u y e s (apart j u y n e s) (kept.knowledge.each j u e y s)) known_mine;
    };
    classes = record { each = each_keep (λ u. (y : Held) → Among y u.held → IsServed y y.block) vs id v w here_v served_mine kept.classes.each };
    hands = quiet_hands vs id v w here_v quiet (ap (λ (d : Desk). d.next) desk) kept.hands
        (each_keep IsDeskless vs id v w here_v (λ f. f) kept.hands.desks)
        (each_keep IsMoving vs id v w here_v (λ f l b y s. ⊎_elim (f l b y) (λ (q : y ≡ wrote a x h). subst (λ (z : Held). z.block ≡ None) (sym q) (f l b h there.0)) (among_edit m i (wrote a x) v.held h y found s)) kept.hands.moving);
  }
    where
      free : (b : ℕ) → IsFree ws (desk_of vs).layout b → cell ws' b ≡ cell ws b
      free b k = free_own key ws (desk_of vs).layout kept.words.lawful (nested ws vs kept.slots) a x b h.place slot own al k

      mine : (y : Held) → Among y w.held → IsPlace ws' y.place
      mine y s =
          ⊎_elim (λ (t : Among y v.held). place_same ws ws' (desk_of vs).layout same y.place (held_slot ws vs kept.slots id v y here_v t))
          (λ (e : y ≡ wrote a x h). subst (λ (z : Held). IsPlace ws' z.place) (sym e) (place_same ws ws' (desk_of vs).layout same h.place slot))
          (among_edit m i (wrote a x) v.held h y found s)

      set_mine : ((y : Held) → Among y v.held → IsSet y y.block) → (y : Held) → Among y w.held → IsSet y y.block
      set_mine f y s = ⊎_elim (λ (t : Among y v.held). f y t) (λ (e : y ≡ wrote a x h). subst (λ (z : Held). IsSet z z.block) (sym e) sets) (among_edit m i (wrote a x) v.held h y found s)

      served_mine : ((y : Held) → Among y v.held → IsServed y y.block) → (y : Held) → Among y w.held → IsServed y y.block
      served_mine f y s = ⊎_elim (λ (t : Among y v.held). f y t) (λ (e : y ≡ wrote a x h). subst (λ (z : Held). IsServed z z.block) (sym e) (served_more h (wrote a x h) refl h.block (f h there.0))) (among_edit m i (wrote a x) v.held h y found s)

      wrote_known : IsKnown ws' (wrote a x h)
      wrote_known b z (inl e) = record {
        own = subst (Owns h.place) (sym (ap (λ (p : ℕ × ℕ). p.0) e)) own;
        whole = subst (λ k. k % 4 ≡ 0) (sym (ap (λ (p : ℕ × ℕ). p.0) e)) al;
        value = subst (λ (p : ℕ × ℕ). cell ws' p.0 ≡ p.1) (sym e) (index_same ws (a / 4) x long);
      }
      wrote_known b z (inr t) = let f = forgot a h.cells b z t in let k = kept.knowledge.each id v here_v h there.0 b z f.0 in record { own = k.own; whole = k.whole; value = at_other ws a b x al k.whole f.1 ∙ k.value }

      known_mine : (y : Held) → Among y w.held → IsKnown ws' y
      known_mine y s =
          ⊎_elim
          (λ (t : Among y v.held × (is_at m i y.place ≡ false)). other_cell id v y here_v t.0 (λ q. true≢false (sym there.1 ∙ ap (is_at m i) (sym q) ∙ t.1)) (kept.knowledge.each id v here_v y t.0))
          (λ (e : y ≡ wrote a x h). subst (IsKnown ws') (sym e) wrote_known)
          (among_edit_once m i (wrote a x) v.held h y found one s)

  -- and the store is noted
  pub stores : Rule key ws' (set vs id (stored v m i a x))
  stores = with_store key ws' vs id v w (record { at = a; value = x; behind = length v.readings }) here_v edits
