-- A group is published in a slot of the lock's seat.
use Rattle.std.proofs.Common.{◌≡◌, ◌≢◌, ◌⊎◌, ℕ, suc, ◌+◌, ◌*◌, ◌/◌, ◌%◌, ◌^◌, ◌<◌, ◌≤◌, eqb, leb, ne_eqb, eq-eqb, ◌&&◌, Bool, true, false, true≢false, List, ◌∷◌, map, set, refl, sym, ap, ◌∙◌, subst, ⊎_elim, inl, inr, arith, mul-le-mul_left}
use mathlib.Core.Option.{some}
use lib.ListN.{get_elem?}
use Rattle.std.specs.Prelude.{Some, None, slice_index}
use Rattle.std.specs.Int.{bit_at}
use Rattle.std.proofs.Math.ListN.{length-set}
use Rattle.std.proofs.lemmas.Bool.{cases_eq, cases_lt}
use Rattle.std.proofs.lemmas.Nat.{shr_high}
use Rattle.std.proofs.lemmas.Nat.Bits.{bit_at_cat_low, bit_at-lt}
use Rattle.ng_rule.proofs.geometry.Strides.{header_cell}
use Rattle.ng_rule.proofs.group.Births.{listing_new, masks_new, numbers_page, plain_new}
use Rattle.ng_view.specs.Knowledge.{IsOfFreeRun, IsOfFreeMeta}
use Rattle.ng_view.specs.declared.view.Group.{Group}
use Rattle.ng_view.specs.declared.view.Place.{Place}
use Rattle.ng_view.specs.declared.view.Held.{Held}
use Rattle.ng_view.specs.declared.view.Nest.{Nest}
use Rattle.ng_view.specs.declared.view.Run.{Run}
use Rattle.ng_view.specs.declared.view.Layout.{Layout}
use Rattle.ng_view.specs.declared.view.Desk.{Desk}
use Rattle.ng_view.specs.declared.view.View.{View}
use Rattle.ng_view.specs.declared.view.Start.{Start}
use Rattle.ng_view.specs.Lists.{Among, total_by, count_of, select, find, without}
use Rattle.ng_view.specs.Cells.{cell, tag, last, avail, freed, owed_of, owed, marked, group_at}
use Rattle.ng_view.specs.Places.{Owns, header, stride, reach, slot_start}
use Rattle.ng_view.specs.Hands.{IsDeskless, IsMoving}
use Rattle.ng_view.specs.Classes.{IsServed}
use Rattle.ng_view.specs.Words.{IsAvailWord, IsLawful}
use Rattle.ng_view.specs.Views.{here, has, desk_of, lives}
use Rattle.ng_view.specs.Rule.{Rule}
use Rattle.ng_view.specs.Layouts.{IsNested, IsLaid, Inside, InArea, OnRun, InNest, IsKind, IsMeta, IsArea, IsCarried}
use Rattle.ng_view.specs.Knowledge.{IsFree, IsKnown, Noted, IsZeroAvail}
use Rattle.ng_view.specs.Slots.{IsPlace, IsPlain}
use Rattle.ng_view.specs.Blocks.{IsSet}
use Rattle.ng_view.specs.Listing.{Listing}
use Rattle.ng_view.specs.Steps.{in_motion}
use Rattle.ng_view.specs.LockSteps.{nested_in}
use Rattle.ng_rule.proofs.geometry.Lists.{total_by-without, among_without, find_among, total_by-some, counted, count_of-most}
use Rattle.ng_rule.proofs.geometry.Nesting.{own_top, past_top}
use Rattle.ng_rule.proofs.group.But.{but_avail, but_field, but_tags, but_group, but_off, but_marks, but_owed, but_place, but_laid, but_upper, but_outside, but_first, but_area, dead_none, but_carried}
use Rattle.ng_rule.proofs.group.Publish.{owed_test, map-total, among_in_motion, among_select, zeros, moving_bits, bit_zero}
use Rattle.ng_rule.proofs.geometry.Lists.{total_by-set, total_by-append, total_by-same, each_set, desk_lead, at_other, select-times, among_append}
use Rattle.ng_rule.proofs.geometry.Nesting.{IsSlot, own_in_run}
use Rattle.ng_rule.proofs.geometry.Facts.{marked_live, held_slot, nest_slot, nested}
use Rattle.ng_rule.proofs.geometry.Frames.{fields_same, first_same}
use Rattle.ng_rule.proofs.geometry.Parts.{Quiet, quiet_excuses, quiet_hands, quiet_history, each_keep}

-- a layout with one nest more
abbrev with_nest : Layout → Nest → Layout
with_nest d n = record { runs = d.runs; nests = n ∷ d.nests }

area_more : (d : Layout) (n : Nest) (m : ℕ) → InArea d m → InArea (with_nest d n) m
area_more d n m r = record { run = r.run; number = r.number; noted = r.noted; is_area = r.is_area; page = r.page; place = r.place; below = r.below }

laid_more : (ws : List ℕ) (d : Layout) (n : Nest) (g : Group) → IsLaid ws d g → IsLaid ws (with_nest d n) g
laid_more ws d n g l = record {
  in_area = area_more d n g.meta l.in_area;
  low = l.low;
  many = l.many;
  whole = l.whole;
  base = l.base;
  base_high = l.base_high;
  kind = l.kind;
  fields = l.fields;
  lows = l.lows;
  lies = ⊎_elim (λ (r : OnRun d.runs g). inl r) (λ (r : InNest d.nests g). inr (record { nest = r.nest; noted = inr r.noted; child = r.child; begins = r.begins; fits = r.fits; lower = r.lower; nested = r.nested })) l.lies;
}

run_more : (key : Start) (ws : List ℕ) (d : Layout) (n : Nest) (r : Run) → IsArea key ws d r → IsArea key ws (with_nest d n) r
run_more key ws d n r a = record { page = a.page; check = a.check; check_high = a.check_high; next = a.next; next_high = a.next_high; nslots = a.nslots; nslots_high = a.nslots_high; tail = a.tail }

module _ (key : Start) (ws : List ℕ) (vs : List View) (id : ℕ) (v : View) (kept : Rule key ws vs) (here_v : get_elem? vs id ≡ some v) (leads : v.leads ≡ true)
    (m t mask : ℕ) (al : m % 4 ≡ 0) (area : InArea (desk_of vs).layout m) (dead : tag ws m ≡ 0) (tagged : 0 < t) (low : t < 65) (fits : mask < 4294967296)
    (h : Held) (found : find h.place.group.meta h.place.index v.held ≡ Some h) (none : h.block ≡ None)
    (base : cell ws (m + 16) ≡ slot_start h.place) (inside_slot : reach (record (group_at ws m) { tag = t }) ≤ stride h.place.group) (lower : t < h.place.group.tag)
    (aligned : cell ws (m + 16) % 16 ≡ 0) (backs : cell ws (cell ws (m + 16)) ≡ m) (blank : cell ws (cell ws (m + 16) + 4) ≡ 0)
    (fits_in : IsNested (record (group_at ws m) { tag = t }) h.place.group)
    (kind : IsKind (record (group_at ws m) { tag = t })) (cells : IsMeta ws (record (group_at ws m) { tag = t })) (lows : (i : ℕ) → i ≤ last ws m + 1 → cell ws (header (record (group_at ws m) { tag = t }) i) % 256 ≡ 0)
    (masks : (i : ℕ) → i < 32 → bit_at mask i + bit_at (freed ws m) i ≤ count_of (leb i (last ws m)))
    (plain : (i : ℕ) → i < 32 → 0 < bit_at mask i + bit_at (freed ws m) i → IsPlain (record (group_at ws m) { tag = t }))
    (ba : List ℕ) (notes : (n : ℕ) → Among n ba → Among n v.desk.zero_avail ⊎ ((n ≡ m) × (mask ≡ 0)))
    (cs : List (ℕ × ℕ)) (dropped : (a y : ℕ) → Among {A = ℕ × ℕ} (a, y) cs → Among {A = ℕ × ℕ} (a, y) v.desk.cells × ((a < m) ⊎ (m + 40 ≤ a))) where
  abbrev d : Layout
  d = (desk_of vs).layout

  abbrev nest : Nest
  nest = record { place = h.place; child = m }

  abbrev g : Group
  g = record (group_at ws m) { tag = t }

  abbrev x : ℕ
  x = t * 2 ^ 32 + mask

  abbrev ws' : List ℕ
  ws' = set ws ((m + 24) / 4) x

  abbrev moving : ℕ → Bool
  moving i = leb i (last ws m) && eqb (bit_at mask i + bit_at (freed ws m) i) 0

  abbrev w : View
  w = nested_in v g (select moving 32) cs ba h

  there : Among h v.held
  there = (find_among h.place.group.meta h.place.index v.held h found).0

  slot : IsSlot ws h.place
  slot = held_slot ws vs kept.slots id v h here_v there

  nests_ok : (n : Nest) → Among n d.nests → IsSlot ws n.place
  nests_ok = nested ws vs kept.slots

  desk_was : desk_of vs ≡ v.desk
  desk_was = (desk_lead vs id v w here_v leads kept.hands.leaders leads).0

  desk_is : desk_of (set vs id w) ≡ w.desk
  desk_is = (desk_lead vs id v w here_v leads kept.hands.leaders leads).1

  layout_is : with_nest d nest ≡ w.desk.layout
  layout_is = ap (λ (y : Desk). with_nest y.layout nest) desk_was

  new_avail : avail ws' m ≡ x
  new_avail = but_avail key ws d kept.words.lawful nests_ok m x al area

  new_tag : tag ws' m ≡ t
  new_tag = ap (λ (y : ℕ). y / 4294967296) new_avail ∙ shr_high t 32 mask fits

  tags : (n : ℕ) → n % 4 ≡ 0 → n ≢ m → tag ws' n ≡ tag ws n
  tags = but_tags key ws d kept.words.lawful nests_ok m x al area

  field : (n b : ℕ) → n % 4 ≡ 0 → InArea d n → b < 40 → b % 4 ≡ 0 → ((n ≡ m) × (b ≡ 24) → ⊥) → cell ws' (n + b) ≡ cell ws (n + b)
  field = but_field key ws d kept.words.lawful nests_ok m x al area

  group_new : group_at ws' m ≡ g
  group_new = λ j. record { meta = m; base = field m 16 al area (omega arith) refl (λ q. let e = q.1 in omega arith) j; tag = new_tag j; last = field m 32 al area (omega arith) refl (λ q. let e = q.1 in omega arith) j % 32; maplen = field m 32 al area (omega arith) refl (λ q. let e = q.1 in omega arith) j / 4096 }

  not_m : (n : ℕ) → 0 < tag ws n → n ≢ m
  not_m n l e = let z : tag ws n ≡ 0 = ap (tag ws) e ∙ dead in omega arith

  slot_not_m : (p : Place) → IsSlot ws p → p.group.meta ≢ m
  slot_not_m p i = not_m p.group.meta (subst (λ (y : Group). 0 < y.tag) i.0.group i.1)

  place_kept : (p : Place) → IsSlot ws p → IsPlace ws' p
  place_kept p i = but_place key ws d kept.words.lawful nests_ok m x al area p i (slot_not_m p i)

  -- the first cells of the group are the slot's own
  base_own : (b : ℕ) → b < 8 → Owns h.place (cell ws (m + 16) + b)
  base_own b lt = let e = base in let r = inside_slot in (omega arith, omega arith)

  base_run : (b : ℕ) → b < 8 → (r : Run) × Among r d.runs × (r.area ≡ false) × Inside r (cell ws (m + 16) + b)
  base_run b lt = own_in_run key ws d kept.words.lawful nests_ok (cell ws (m + 16) + b) h.place slot (base_own b lt)

  off : (a : ℕ) → a % 4 ≡ 0 → ((r : Run) × Among r d.runs × (r.area ≡ false) × Inside r a) → cell ws' a ≡ cell ws a
  off = but_off key ws d kept.words.lawful nests_ok m x al area

  -- a header cell of the group, and its past cell, lies in the run of a live group
  head_off : (i : ℕ) → i ≤ last ws m + 1 → cell ws' (header g i) ≡ cell ws (header g i)
  head_off i le =
      let k = mul-le-mul_left (stride g) le in
      let c = header_cell g i aligned in
      let p : ℕ = stride g * i in let q : ℕ = stride g * (last ws m + 1) in
      let b = base in let r = inside_slot in
      let s : ℕ = stride h.place.group in
      let m1 : s * h.place.index + s ≤ s * (h.place.group.last + 1) = index_within s h.place.index h.place.group.last slot.2 in
      let on : (h.place.group.base ≤ header g i) × (header g i + 4 ≤ h.place.group.base + reach h.place.group) = (omega arith, omega arith) in
      let t = past_top key ws d kept.words.lawful nests_ok 65 (header g i) h.place.group.meta (omega arith) slot.0.whole (subst (λ (z : Group). 0 < z.tag) slot.0.group slot.1)
      (subst (λ (z : Group). z.base ≤ header g i) slot.0.group on.0) (subst (λ (z : Group). header g i + 4 ≤ z.base + reach z) slot.0.group on.1) in
      off (header g i) (omega arith) (t.3.run, t.3.noted, t.3.plain, t.4)
    where
      index_within : (s i l : ℕ) → i ≤ l → s * i + s ≤ s * (l + 1)
      index_within s i l h = let k : s * suc i ≤ s * suc l = mul-le-mul_left s (omega arith) in omega (arith, k)

  no_child : (n : Nest) → Among n d.nests → n.child ≢ m
  no_child = dead_none key ws d kept.words.lawful nests_ok m x al area dead

  laid_new : IsLaid ws' (with_nest d nest) g
  laid_new = record {
    in_area = area_more d nest m area;
    low = low;
    many = (let y : ℕ = cell ws (m + 32) in omega arith);
    whole = aligned;
    base = off (cell ws (m + 16)) (omega arith) (let q = base_run 0 (omega arith) in (q.0, q.1, q.2, (let u = q.3.0 in let k = q.3.1 in (omega arith, omega arith)))) ∙ backs;
    base_high = off (cell ws (m + 16) + 4) (omega arith) (base_run 4 (omega arith)) ∙ blank;
    lies = inr (record { nest = nest; noted = inl refl; child = refl; begins = base; fits = inside_slot; lower = lower; nested = fits_in });
    kind = kind;
    fields = fields_same ws ws' g (λ b lt bl n24 n28. field m b al area lt bl (λ q. n24 q.1)) cells;
    lows = λ i le. ap (λ (y : ℕ). y % 256) (head_off i le) ∙ lows i le;
  }

  words_new : IsLawful key ws' (with_nest d nest)
  words_new = record {
    long = length-set ws ((m + 24) / 4) x ∙ kept.words.lawful.long;
    upper = λ k. ⊎_elim (λ (l : slice_index ws' k < 4294967296). inl l) (λ (r : IsAvailWord d k). inr (record { meta = r.meta; whole = r.whole; in_area = area_more d nest r.meta r.in_area; place = r.place })) (but_upper key ws d kept.words.lawful nests_ok m x al area k);
    apart = kept.words.lawful.apart;
    in_space = kept.words.lawful.in_space;
    once = kept.words.lawful.once;
    groups = λ n nl l. ⊎_elim
        (λ (e : n ≡ m). subst (λ k. IsLaid ws' (with_nest d nest) (group_at ws' k)) (sym e) (subst (IsLaid ws' (with_nest d nest)) (sym group_new) laid_new))
        (λ (ne : n ≢ m). laid_more ws' d nest (group_at ws' n) (but_laid key ws d kept.words.lawful nests_ok m x al area n nl ne (subst (λ y. 0 < y) (tags n nl ne) l)))
        (cases_eq n m);
    outside = but_outside key ws d kept.words.lawful nests_ok m x al area;
    range = kept.words.lawful.range;
    carried = λ n t. ⊎_elim
        (λ (e : n ≡ nest). subst (λ (z : Nest). IsCarried ws' z) (sym e) (record { whole = al; live = subst (λ y. 0 < y) (sym new_tag) tagged; base = field m 16 al area (omega arith) refl (λ q. let f = q.1 in omega arith) ∙ base }))
        (λ (q : Among n d.nests). but_carried key ws d kept.words.lawful nests_ok m x al area n q (no_child n q)) t;
    single = λ k. ⊎_elim
        (λ (q : m ≡ k). let z : total_by (λ (n : Nest). count_of (eqb n.child k)) d.nests ≤ 0 = ⊎_elim
        (λ (l : 0 < total_by (λ (n : Nest). count_of (eqb n.child k)) d.nests). absurd (let t = total_by-some (λ (n : Nest). count_of (eqb n.child k)) d.nests l in no_child t.0 t.1 (counted t.0.child k t.2 ∙ sym q)))
        (λ (l : total_by (λ (n : Nest). count_of (eqb n.child k)) d.nests ≤ 0). l) (cases_lt 0 (total_by (λ (n : Nest). count_of (eqb n.child k)) d.nests)) in
        let p = count_of-most (eqb m k) in omega arith)
        (λ (ne : m ≢ k). let p : count_of (eqb m k) ≡ 0 = ap count_of (ne_eqb m k ne) in let o = kept.words.lawful.single k in omega arith)
        (cases_eq m k);
    areas = λ r n is. run_more key ws' d nest r (but_area key ws d kept.words.lawful nests_ok m x al area r n is);
    first = first_same key ws ws' (but_first key ws d kept.words.lawful nests_ok m x al area) kept.words.lawful.first;
  }

  has_new : (n j : ℕ) → has n j w ≡ total_by (λ i. here n j (in_motion g i).place) (select moving 32) + has n j v
  has_new n j =
      let a = total_by-append (λ (y : Held). here n j y.place) (map (in_motion g) (select moving 32)) (without h.place.group.meta h.place.index v.held) in
      let b = map-total (λ (y : Held). here n j y.place) g (select moving 32) in
      let e = total_by-without (λ (y : Held). here n j y.place) h.place.group.meta h.place.index v.held h found in omega arith

  slots_new : (n j : ℕ) → n % 4 ≡ 0 → j < 32 → marked ws' n j + total_by (has n j) (set vs id w) ≡ owed ws' n j
  slots_new n j nl lj =
      let s = kept.slots.each n j nl lj in
      let u = total_by-set (has n j) vs id v w here_v in
      let hn = has_new n j in
      ⊎_elim
      (λ (e : n ≡ m).
      let s' = subst (λ k. marked ws k j + total_by (has k j) vs ≡ owed ws k j) e s in
      let o : owed ws m j ≡ 0 = ap (λ y. owed_of y (last ws m) j) dead in
      let mk : marked ws' m j ≡ bit_at (avail ws' m) j + bit_at (freed ws' m) j = marked_live (tag ws' m) (avail ws' m) (freed ws' m) j (subst (λ y. 0 < y) (sym new_tag) tagged) in
      let ow : owed ws' m j ≡ count_of (leb j (last ws m)) = ap (λ (y : Group). owed_of y.tag y.last j) group_new ∙ owed_test t (last ws m) j tagged in
      let sel : total_by (λ i. here m j (in_motion g i).place) (select moving 32) ≡ count_of (moving j) =
      total_by-same (λ i. here m j (in_motion g i).place) (λ i. count_of (eqb i j)) (select moving 32) (λ i. ap (λ b. count_of (b && eqb i j)) (eq-eqb m m refl)) ∙ select-times moving 32 j lj in
      let b0 : ℕ = bit_at mask j in let b1 : ℕ = bit_at (freed ws m) j in let p0 : ℕ = count_of (moving j) in let p1 : ℕ = count_of (leb j (last ws m)) in
      let mv : b0 + b1 + p0 ≡ p1 = moving_bits j (bit_at mask j) (bit_at (freed ws m) j) (last ws m) (bit_at-lt mask j) (bit_at-lt (freed ws m) j) (masks j lj) in
      let hm = has_new m j in let um = total_by-set (has m j) vs id v w here_v in
      let c : ℕ = bit_at (avail ws' m) j in let c' : ℕ = bit_at (freed ws' m) j in
      let ma : c ≡ b0 = ap (λ y. bit_at y j) new_avail ∙ bit_at_cat_low t 32 mask j lj in
      let mf : c' ≡ b1 = ap (λ y. bit_at y j) (field m 28 al area (omega arith) refl (λ q. let e = q.1 in omega arith)) in
      let mk' : marked ws' m j ≡ c + c' = mk in
      let sel' : total_by (λ i. here m j (in_motion g i).place) (select moving 32) ≡ p0 = sel in
      let ow' : owed ws' m j ≡ p1 = ow in
      subst (λ k. marked ws' k j + total_by (has k j) (set vs id w) ≡ owed ws' k j) (sym e) (omega (arith, mk', ma, mf, sel', ow', mv, hm, um, s', o)))
      (λ (ne : n ≢ m).
      let a = but_marks key ws d kept.words.lawful nests_ok m x al area n j nl ne in let b = but_owed key ws d kept.words.lawful nests_ok m x al area n j nl ne in
      let z : total_by (λ i. here n j (in_motion g i).place) (select moving 32) ≡ 0 = total_by-same (λ i. here n j (in_motion g i).place) (λ i. 0) (select moving 32) (λ i. ap (λ b. count_of (b && eqb i j)) (ne_eqb m n (λ q. ne (sym q)))) ∙ zeros (select moving 32) in
      omega arith)
      (cases_eq n m)

  known_kept : (j : ℕ) (u : View) (y : Held) → get_elem? vs j ≡ some u → Among y u.held → IsKnown ws' y
  known_kept j u y e s a z q =
      let k = kept.knowledge.each j u e y s a z q in
      record { own = k.own; whole = k.whole; value = off a k.whole (own_in_run key ws d kept.words.lawful nests_ok a y.place (held_slot ws vs kept.slots j u y e s) k.own) ∙ k.value }

  -- the base is in the run of a live group, so no free run begins there
  base_taken : (r : Run) → Among r d.runs → ((n : ℕ) → n % 4 ≡ 0 → 0 < tag ws n → cell ws (n + 16) ≢ r.addr) → Inside r (cell ws (m + 16)) → ⊥
  base_taken r s unused i =
      let o : Owns h.place (cell ws (m + 16)) = (let q = base_own 0 (omega arith) in let q0 = q.0 in let q1 = q.1 in (omega arith, omega arith)) in
      let p = own_top key ws d kept.words.lawful nests_ok (cell ws (m + 16)) h.place slot o in
      let e = kept.words.lawful.apart p.3.run r (cell ws (m + 16)) p.3.noted s p.4 i in
      unused p.0 p.1 p.2 (sym p.3.begins ∙ ap (λ (z : Run). z.addr) e)

  free_kept : (a y : ℕ) → Among {A = ℕ × ℕ} (a, y) cs → IsFree ws' (with_nest d nest) a × (cell ws' a ≡ y)
  free_kept a y q =
      let r = dropped a y q in
      let k = kept.knowledge.desk.free a y (subst (λ (e : Desk). Among {A = ℕ × ℕ} (a, y) e.cells) (sym desk_was) r.0) in
      let value : cell ws' a ≡ cell ws a = at_other ws (m + 24) a x (omega arith) k.0.0 (λ e. ⊎_elim (λ (l : a < m). omega arith) (λ (l : m + 40 ≤ a). omega arith) r.1) in (
        (
          k.0.0,
          ⊎_elim
              (λ (z : IsOfFreeRun ws d a).
              inl (record {
                run = z.run;
                noted = z.noted;
                plain = z.plain;
                inside = z.inside;
                free = λ n nl l e. ⊎_elim
                    (λ (eq : n ≡ m).
                    let b : cell ws (m + 16) ≡ z.run.addr = sym (ap (λ k. cell ws (k + 16)) eq) ∙ (sym (field n 16 nl (subst (InArea d) (sym eq) area) (omega arith) refl (λ p. let f = p.1 in omega arith)) ∙ e) in
                    let i0 = z.inside.0 in let i1 = z.inside.1 in
                    base_taken z.run z.noted z.free (omega arith, omega arith))
                    (λ (ne : n ≢ m).
                    let l' : 0 < tag ws n = subst (λ p. 0 < p) (tags n nl ne) l in
                    z.free n nl l' (sym (field n 16 nl (kept.words.lawful.groups n nl l').in_area (omega arith) refl (λ p. ne p.0)) ∙ e))
                    (cases_eq n m);
              }))
              (λ (z : IsOfFreeMeta ws d a).
              let ne : z.meta ≢ m = (λ e. let lo = z.from in let hi = z.below in ⊎_elim (λ (l : a < m). omega arith) (λ (l : m + 40 ≤ a). omega arith) r.1) in
              inr (record { meta = z.meta; whole = z.whole; in_area = area_more d nest z.meta z.in_area; free = tags z.meta z.whole ne ∙ z.free; from = z.from; below = z.below }))
              k.0.1,
        ),
        value ∙ k.1,
      )

  group_same : (n : ℕ) → n % 4 ≡ 0 → n ≢ m → 0 < tag ws n → group_at ws' n ≡ group_at ws n
  group_same = but_group key ws d kept.words.lawful nests_ok m x al area

  marks_else : (n j : ℕ) → n % 4 ≡ 0 → n ≢ m → marked ws' n j ≡ marked ws n j
  marks_else n j nl ne = but_marks key ws d kept.words.lawful nests_ok m x al area n j nl ne

  was_listing : Listing ws v.desk
  was_listing = subst (Listing ws) desk_was kept.listing

  area_is : (n : ℕ) → InArea v.desk.layout n → InArea w.desk.layout n
  area_is n a = area_more v.desk.layout nest n a

  words_else : (n b : ℕ) → n % 4 ≡ 0 → 0 < tag ws n → n ≢ m → (b ≡ 24) ⊎ (b ≡ 28) → cell ws' (n + b) ≡ cell ws (n + b)
  words_else n b nl l ne s =
      let f : b < 40 → b % 4 ≡ 0 → cell ws' (n + b) ≡ cell ws (n + b) = λ lb bl. field n b nl (kept.words.lawful.groups n nl l).in_area lb bl (λ q. ne q.0) in
      ⊎_elim (λ (e : b ≡ 24). f (omega arith) (omega arith)) (λ (e : b ≡ 28). f (omega arith) (omega arith)) s

  -- its bits
  marks_new : (j : ℕ) → j < 32 → marked ws' m j ≡ bit_at mask j + bit_at (freed ws m) j
  marks_new j lj =
      let mk : marked ws' m j ≡ bit_at (avail ws' m) j + bit_at (freed ws' m) j = marked_live (tag ws' m) (avail ws' m) (freed ws' m) j (subst (λ y. 0 < y) (sym new_tag) tagged) in
      let b0 : ℕ = bit_at mask j in let b1 : ℕ = bit_at (freed ws m) j in
      let ma : bit_at (avail ws' m) j ≡ b0 = ap (λ y. bit_at y j) new_avail ∙ bit_at_cat_low t 32 mask j lj in
      let mf : bit_at (freed ws' m) j ≡ b1 = ap (λ y. bit_at y j) (field m 28 al area (omega arith) refl (λ q. let e = q.1 in omega arith)) in
      mk ∙ (λ i. ma i + mf i)

  listing_is : Listing ws' w.desk
  listing_is = listing_new ws ws' v.desk w.desk m al tags group_same marks_else area_is was_listing g dead tagged group_new refl refl (area_is m (subst (λ (y : Desk). InArea y.layout m) desk_was area))

  noted_is : Noted ws' w.desk
  noted_is =
      let o = subst (Noted ws) desk_was kept.knowledge.desk in
      record {
        free = λ a y q. let k = free_kept a y q in (subst (λ (e : Layout). IsFree ws' e a) layout_is k.0, k.1);
        masks = masks_new ws ws' v.desk w.desk m al tags group_same marks_else area_is was_listing words_else dead
            (λ n q. ⊎_elim (λ (z : Among n v.desk.zero_avail). inl z) (λ (z : (n ≡ m) × (mask ≡ 0)). inr (subst (IsZeroAvail ws') (sym z.0) (record { whole = al; live = subst (λ y. 0 < y) (sym new_tag) tagged; zero_bits = λ j lj. ap (λ y. bit_at y j) new_avail ∙ bit_at_cat_low t 32 mask j lj ∙ ap (λ y. bit_at y j) z.1 ∙ bit_zero j }))) (notes n q))
            refl refl o.masks;
        numbers = numbers_page ws ws' v.desk w.desk (but_first key ws d kept.words.lawful nests_ok m x al area) refl refl o.numbers;
      }

  quiet : Quiet v w
  quiet = record {
    leads = refl;
    books = refl;
    excuses = refl;
    sent = refl;
    taken = refl;
    parcel = refl;
    blocks = λ b.
        let a = total_by-append (λ (y : Held). lives b y.block) (map (in_motion g) (select moving 32)) (without h.place.group.meta h.place.index v.held) in
        let c = map-total (λ (y : Held). lives b y.block) g (select moving 32) in let z = zeros (select moving 32) in
        let e = total_by-without (λ (y : Held). lives b y.block) h.place.group.meta h.place.index v.held h found in let n : lives b h.block ≡ 0 = ap (lives b) none in omega arith;
    idle = λ f b. let r = f b in (r.0, r.1, λ l. absurd (true≢false (sym leads ∙ l)));
    whole = λ f p. absurd (true≢false (sym leads ∙ (f p).follows));
  }

  -- each entry afterwards is a new slot, or was there
  entry : (Q : Held → Type 0) → ((i : ℕ) → i < 32 → Q (in_motion g i)) → ((y : Held) → Among y v.held → Q y) → (y : Held) → Among y w.held → Q y
  entry Q new old y s = ⊎_elim
      (λ (q : Among y (map (in_motion g) (select moving 32))). let r = among_in_motion g (select moving 32) y q in subst Q (sym r.2) (new r.0 (among_select moving 32 r.0 r.1)))
      (λ (q : Among y (without h.place.group.meta h.place.index v.held)). old y (among_without h.place.group.meta h.place.index v.held y q))
      (among_append (map (in_motion g) (select moving 32)) (without h.place.group.meta h.place.index v.held) y s)

  pub nests_in : Rule key ws' (set vs id w)
  nests_in = record {
    slots = record {
      each = slots_new;
      plain = plain_new ws ws' v.desk w.desk m al tags group_same marks_else area_is was_listing kept.slots.plain g group_new (λ j lj b. plain j lj (subst (λ y. 0 < y) (marks_new j lj) b));
      held = each_set (λ u. Unit {0}) (λ u. (y : Held) → Among y u.held → IsPlace ws' y.place) vs id w (λ j u n e y s. place_kept y.place (held_slot ws vs kept.slots j u y e s))
          (entry (λ y. IsPlace ws' y.place) (λ i lt. record { group = sym group_new; whole = al; few = lt }) (λ y s. place_kept y.place (held_slot ws vs kept.slots id v y here_v s)));
      nests = each_set (λ u. Unit {0}) (λ u. (n : Nest) → Among n u.desk.layout.nests → IsPlace ws' n.place) vs id w (λ j u n e y s. place_kept y.place (nest_slot ws vs kept.slots j u y e s))
          (λ y s. ⊎_elim (λ (e : y ≡ nest). subst (λ (z : Nest). IsPlace ws' z.place) (sym e) (place_kept h.place slot)) (λ (q : Among y v.desk.layout.nests). place_kept y.place (nest_slot ws vs kept.slots id v y here_v q)) s);
    };
    words = record {
      lawful = subst (λ (e : Desk). IsLawful key ws' e.layout) (sym desk_is) (subst (IsLawful key ws') layout_is words_new);
      blocks = each_keep (λ u. (y : Held) → Among y u.held → IsSet y y.block) vs id v w here_v (λ f. entry (λ y. IsSet y y.block) (λ i lt. tt) f) kept.words.blocks;
    };
    listing = subst (Listing ws') (sym desk_is) listing_is;
    excuses = quiet_excuses key vs id v w here_v quiet (ap (λ (e : Desk). e.refusals) desk_is ∙ ap (λ (e : Desk). e.refusals) (sym desk_was)) kept.excuses;
    history = quiet_history key vs id v w here_v quiet kept.history;
    knowledge = record {
      desk = subst (Noted ws') (sym desk_is) noted_is;
      each = each_set (λ u. Unit {0}) (λ u. (y : Held) → Among y u.held → IsKnown ws' y) vs id w (λ j u n e y s. known_kept j u y e s) (entry (IsKnown ws') (λ i lt a y z. elim z [ ]) (λ y s. known_kept id v y here_v s));
    };
    classes = record { each = each_keep (λ u. (y : Held) → Among y u.held → IsServed y y.block) vs id v w here_v (λ f. entry (λ y. IsServed y y.block) (λ i lt. tt) f) kept.classes.each };
    hands = quiet_hands vs id v w here_v quiet (ap (λ (e : Desk). e.next) desk_is ∙ ap (λ (e : Desk). e.next) (sym desk_was)) kept.hands
        (each_keep IsDeskless vs id v w here_v (λ f l. absurd (true≢false (sym leads ∙ l))) kept.hands.desks)
        (each_keep IsMoving vs id v w here_v (λ f l b. entry (λ y. y.block ≡ None) (λ i lt. refl) (f l b)) kept.hands.moving);
  }
