-- Give, regive and kill as code asks for them.
use Rattle.std.proofs.Common.{◌≡◌, ℕ, ◌+◌, ◌-◌, ◌*◌, ◌/◌, ◌%◌, ◌<◌, ◌≤◌, max, eqb, cond, Bool, true, false, List, set, refl, sym, ap, ◌∙◌, subst, ⊎_elim, inl, arith}
use mathlib.Core.Option.{some}
use lib.ListN.{get_elem?}
use Rattle.std.specs.Prelude.{Some, None, min}
use Rattle.ng_view.specs.Conditions.{Gives}
use Rattle.ng_class.specs.Class.{units_of}
use Rattle.ng_class.specs.Slot.{stride_of, room_of}
use Rattle.ng_view.specs.Lists.{find}
use Rattle.ng_terms.specs.Heap.{extent, IsAlignment}
use Rattle.ng_view.specs.Cells.{cell}
use Rattle.ng_view.specs.Places.{Owns, stride, slot_start, room}
use Rattle.ng_view.specs.Rule.{Rule}
use Rattle.ng_view.specs.Blocks.{IsSet, IsBlock, IsHeader, IsNarrow, IsWide, Carries, Knows}
use Rattle.ng_view.specs.Views.{numbered}
use Rattle.ng_view.specs.Steps.{stored, wrote, booked_block, with_block, given, regiven, killed}
use Rattle.ng_view.specs.May.{May}
use Rattle.ng_view.specs.declared.view.Group.{Group}
use Rattle.ng_terms.specs.declared.entry.Extent.{Extent}
use Rattle.ng_view.specs.declared.view.Held.{Held}
use Rattle.ng_view.specs.declared.view.View.{View}
use Rattle.ng_view.specs.declared.view.Start.{Start}
use Rattle.ng_terms.specs.declared.entry.Entry.TheVariants.{Take}
use Rattle.ng_rule.proofs.geometry.Lists.{find_edit, set_twice, at_now, find_among}
use Rattle.ng_rule.proofs.hand.Load.{carries_more, still_knows}
use Rattle.ng_rule.proofs.geometry.Strides.{stride_whole, times_whole}
use Rattle.ng_rule.proofs.geometry.Nesting.{IsSlot}
use Rattle.ng_rule.proofs.geometry.Facts.{held_slot}
use Rattle.ng_rule.proofs.hand.Store.{stores}
use Rattle.ng_rule.proofs.entry.Blocks.{gives, kills, regives}

-- the room is no more than the stride
room_fits : (g : Group) → room g ≤ stride g
unfolding room stride room_of
room_fits g = by_test (eqb (g.tag - 1) 63)
  where
    by_test : (b : Bool) → cond b (stride_of (g.tag - 1) g.last g.maplen) (min (stride_of (g.tag - 1) g.last g.maplen) (16 * units_of (g.tag - 1))) ≤ stride_of (g.tag - 1) g.last g.maplen
    by_test true = omega arith
    by_test false = omega arith

-- the header cell in front of p, as it is stored
header_stored : (h : Held) (p x : ℕ) → 4 ≤ p → Carries h p x → IsHeader (wrote (p - 4) x h) p
header_stored h p x le c = record {
  cell = p - 4;
  value = x;
  front = (let r : (p - 4) + 4 ≡ p = omega arith in r);
  known = inl refl;
  carries = carries_more h (wrote (p - 4) x h) p x refl (λ a z q. still_knows (p - 4) x a z h (λ e. omega arith)) c;
}

-- at a slot's start the header's low byte is 0
low_at_start : (h : Held) (p x : ℕ) → 4 ≤ p → Carries h p x → (p - 4) + 4 ≡ slot_start h.place → x % 256 ≡ 0
low_at_start h p x le c e = ⊎_elim (λ (n : IsNarrow h p x). n.check) (λ (w : IsWide h p x). absurd (let l = w.behind in omega arith)) c.offset

module _ (key : Start) (ws : List ℕ) (vs : List View) (id : ℕ) (v : View) (kept : Rule key ws vs) (here_v : get_elem? vs id ≡ some v)
    (m i : ℕ) (h : Held) (found : find m i v.held ≡ Some h) where
  slot : IsSlot ws h.place
  slot = held_slot ws vs kept.slots id v h here_v (find_among m i v.held h found).0

  start_whole : slot_start h.place % 16 ≡ 0
  start_whole =
      let b : h.place.group.base % 16 ≡ 0 = subst (λ (g : Group). g.base % 16 ≡ 0) (sym slot.0.group) (kept.words.lawful.groups h.place.group.meta slot.0.whole (subst (λ (g : Group). 0 < g.tag) slot.0.group slot.1)).whole in
      let t = times_whole (stride h.place.group) h.place.index (stride_whole h.place.group) in
      let y : ℕ = stride h.place.group * h.place.index in omega (arith, b, t)

  -- a start in the room leaves four bytes
  pub four : (p : ℕ) → p % 16 ≡ 0 → p < slot_start h.place + room h.place.group → p + 4 < slot_start h.place + stride h.place.group
  four p whole roomy =
      let s = start_whole in let t = stride_whole h.place.group in let f = room_fits h.place.group in
      let a : ℕ = slot_start h.place in let b : ℕ = stride h.place.group in let c : ℕ = room h.place.group in omega (arith, whole, roomy, s, t, f)

  block_of : (p n a x : ℕ) → Gives h p n a x → IsBlock (with_block (Some (extent p n a)) (wrote (p - 4) x h)) (extent p n a)
  block_of p n a x q =
      let hd = header_stored h p x (let f = q.framed.from in omega arith) q.framed.carries in
      record {
        whole = q.framed.whole;
        from = q.framed.from;
        first = four p q.framed.whole q.framed.roomy;
        within = (let w = q.framed.within in let f = q.framed.from in omega arith);
        roomy = q.framed.roomy;
        header = record { cell = hd.cell; value = hd.value; front = hd.front; known = hd.known; carries = carries_more (wrote (p - 4) x h) (with_block (Some (extent p n a)) (wrote (p - 4) x h)) p hd.value refl (λ b z e k. k) hd.carries };
      }

  header_own : (p : ℕ) → p % 16 ≡ 0 → slot_start h.place ≤ p → p < slot_start h.place + room h.place.group → Owns h.place (p - 4) × ((p - 4) % 4 ≡ 0)
  header_own p whole from roomy = let f = four p whole roomy in ((omega arith, omega arith), omega arith)

pub gives_may : (key : Start) (id : ℕ) (v : View) (m i p n a k x : ℕ) (h : Held) → find m i v.held ≡ Some h → h.block ≡ None → numbered k v ≡ 1 → IsAlignment a → p % max a 16 ≡ 0 → Gives h p n a x
    → May key id v ((p - 4) / 4) (λ _. x) (λ v _ w. w ≡ given v m i p n a k x)
gives_may key id v m i p n a k x h found none mine power aligned q ws vs kept e _ =
    let t = wrote (p - 4) x in
    let v1 = stored v m i (p - 4) x in
    let o = header_own key ws vs id v kept e m i h found p q.framed.whole q.framed.from q.framed.roomy in
    let kept1 = stores key ws vs id v kept e m i (p - 4) x h found o.0 o.1 q.fits (low_at_start h p x (let f = q.framed.from in omega arith) q.framed.carries) (subst (IsSet (t h)) (sym none) tt) in
    let found1 : find m i v1.held ≡ Some (t h) = find_edit m i t v.held h (λ y. refl) found in
    let sets : IsSet (with_block (Some (extent p n a)) (t h)) (Some (extent p n a)) = block_of key ws vs id v kept e m i h found p n a x q in
    let kept2 = gives key (set ws ((p - 4) / 4) x) (set vs id v1) id v1 kept1 (at_now vs id v v1 e) m i (t h) found1 k mine p n a none power aligned sets q.allowed in
    let w = given v m i p n a k x in
    (w, subst (λ (l : List View). Rule key (set ws ((p - 4) / 4) x) l) (set_twice vs id v1 w) kept2, refl)

pub regives_may : (key : Start) (id : ℕ) (v : View) (m i n k x : ℕ) (h : Held) (b : Extent) → find m i v.held ≡ Some h → h.block ≡ Some b → numbered k v ≡ 1 → Gives h b.at n 16 x
    → May key id v ((b.at - 4) / 4) (λ _. x) (λ v _ w. w ≡ regiven v m i b.at n k x)
regives_may key id v m i n k x h b found is mine q ws vs kept e _ =
    let p = b.at in
    let t = wrote (p - 4) x in
    let v1 = stored v m i (p - 4) x in
    let o = header_own key ws vs id v kept e m i h found p q.framed.whole q.framed.from q.framed.roomy in
    let old : IsBlock h b = subst (IsSet h) is (kept.words.blocks id v e h (find_among m i v.held h found).0) in
    let sets1 : IsBlock (t h) b = record { whole = old.whole; from = old.from; first = old.first; within = old.within; roomy = old.roomy; header = header_stored h p x (let f = q.framed.from in omega arith) q.framed.carries } in
    let kept1 = stores key ws vs id v kept e m i (p - 4) x h found o.0 o.1 q.fits (low_at_start h p x (let f = q.framed.from in omega arith) q.framed.carries) (subst (IsSet (t h)) (sym is) sets1) in
    let found1 : find m i v1.held ≡ Some (t h) = find_edit m i t v.held h (λ y. refl) found in
    let sets : IsSet (with_block (Some (extent p n 16)) (t h)) (Some (extent p n 16)) = block_of key ws vs id v kept e m i h found p n 16 x q in
    let kept2 = regives key (set ws ((p - 4) / 4) x) (set vs id v1) id v1 kept1 (at_now vs id v v1 e) m i (t h) found1 k mine b n is sets q.allowed in
    let w = regiven v m i p n k x in
    (w, subst (λ (l : List View). Rule key (set ws ((p - 4) / 4) x) l) (set_twice vs id v1 w) kept2, refl)

pub kills_may : (key : Start) (id : ℕ) (v : View) (m i k x y : ℕ) (h : Held) (b : Extent) → find m i v.held ≡ Some h → h.block ≡ Some b → numbered k v ≡ 1 → Knows (b.at - 4) y h → x < 4294967296 → x % 256 ≡ y % 256
    → May key id v ((b.at - 4) / 4) (λ _. x) (λ v _ w. w ≡ killed v m i b.at k x)
kills_may key id v m i k x y h b found is mine knows fits byte ws vs kept e _ =
    let p = b.at in
    let there = (find_among m i v.held h found).0 in
    let v1 = booked_block v m i None k (Take p) in
    let kept1 = kills key ws vs id v kept e m i h found k mine b is in
    let found1 : find m i v1.held ≡ Some (with_block None h) = find_edit m i (with_block None) v.held h (λ y. refl) found in
    let old : IsBlock h b = subst (IsSet h) is (kept.words.blocks id v e h there) in
    let o = header_own key ws vs id v kept e m i h found p old.whole old.from old.roomy in
    let hd = old.header in
    let hk = (kept.knowledge.each id v e h there hd.cell hd.value hd.known).value in
    let yk = (kept.knowledge.each id v e h there (p - 4) y knows).value in
    let same : hd.cell ≡ p - 4 = (let f = hd.front in omega arith) in
    let value : hd.value ≡ y = sym hk ∙ ap (cell ws) same ∙ yk in
    let low : (p - 4) + 4 ≡ slot_start h.place → x % 256 ≡ 0 = λ q. byte ∙ ap (λ (z : ℕ). z % 256) (sym value) ∙ low_at_start h p hd.value (let f = hd.front in omega arith) hd.carries q in
    let kept2 = stores key ws (set vs id v1) id v1 kept1 (at_now vs id v v1 e) m i (p - 4) x (with_block None h) found1 o.0 o.1 fits low tt in
    let w = killed v m i p k x in
    (w, subst (λ (l : List View). Rule key (set ws ((p - 4) / 4) x) l) (set_twice vs id v1 w) kept2, refl)
