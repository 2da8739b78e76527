-- A mapped group is published.
use Rattle.std.proofs.Common.{◌≡◌, ◌≢◌, ◌⊎◌, ℕ, zero, suc, ◌+◌, ◌*◌, ◌/◌, ◌%◌, ◌^◌, ◌<◌, ◌≤◌, eqb, leb, ne_eqb, eq-eqb, ◌&&◌, cond, Bool, true, false, true≢false, List, [], ◌∷◌, map, length, set, refl, sym, ap, ◌∙◌, subst, ⊎_elim, inl, inr, arith, mul-le-mul_left}
use mathlib.Core.Option.{some}
use lib.ListN.{get_elem?}
use Rattle.std.specs.Prelude.{None}
use Rattle.std.specs.Int.{bit_at}
use Rattle.std.proofs.lemmas.Bool.{cases_eq, cases_lt}
use Rattle.std.proofs.lemmas.Nat.{shr_high}
use Rattle.std.proofs.lemmas.Nat.Bits.{bit_at_cat_low, bit_at-lt, bit_at_above}
use Rattle.ng_rule.proofs.geometry.Strides.{header_cell}
use Rattle.ng_rule.proofs.group.But.{but_words, but_first, dead_none}
use Rattle.ng_rule.proofs.group.Births.{listing_new, masks_new, numbers_page, plain_new}
use Rattle.ng_view.specs.Knowledge.{IsOfFreeRun, IsOfFreeMeta}
use Rattle.ng_view.specs.declared.view.Group.{Group}
use Rattle.ng_view.specs.declared.view.Place.{Place}
use Rattle.ng_view.specs.declared.view.Held.{Held}
use Rattle.ng_view.specs.declared.view.Nest.{Nest}
use Rattle.ng_view.specs.declared.view.Run.{Run}
use Rattle.ng_view.specs.declared.view.Layout.{Layout}
use Rattle.ng_view.specs.declared.view.Desk.{Desk}
use Rattle.ng_view.specs.declared.view.View.{View}
use Rattle.ng_view.specs.declared.view.Start.{Start}
use Rattle.ng_view.specs.Lists.{Among, total_by, count_of, select}
use Rattle.ng_view.specs.Cells.{cell, tag, last, avail, freed, owed_of, marked_of, owed, marked, group_at}
use Rattle.ng_view.specs.Places.{header, stride}
use Rattle.ng_view.specs.Hands.{IsDeskless, IsMoving}
use Rattle.ng_view.specs.Classes.{IsServed}
use Rattle.ng_view.specs.Words.{IsLawful}
use Rattle.ng_view.specs.Views.{here, has, desk_of, lives}
use Rattle.ng_view.specs.Rule.{Rule}
use Rattle.ng_view.specs.Layouts.{IsLaid, Inside, InArea, OnRun, IsKind, IsMeta}
use Rattle.ng_view.specs.Knowledge.{IsFree, IsKnown, Noted, IsZeroAvail}
use Rattle.ng_view.specs.Slots.{IsPlace, IsPlain}
use Rattle.ng_view.specs.Blocks.{IsSet}
use Rattle.ng_view.specs.Listing.{Listing}
use Rattle.ng_view.specs.Steps.{in_motion}
use Rattle.ng_view.specs.LockSteps.{published}
use Rattle.ng_rule.proofs.geometry.Lists.{total_by-set, total_by-append, total_by-same, each_set, desk_lead, at_other, index_same, select-times, among_append}
use Rattle.ng_rule.proofs.geometry.Nesting.{IsSlot, own_in_run, off_areas, metas_apart}
use Rattle.ng_rule.proofs.geometry.Facts.{marked_live, marked_dead, held_slot, nest_slot, nested}
use Rattle.ng_rule.proofs.geometry.Frames.{meta_below, fields_same}
use Rattle.ng_rule.proofs.geometry.Parts.{Quiet, quiet_excuses, quiet_hands, quiet_history, each_keep}

pub bit_zero : (j : ℕ) → bit_at 0 j ≡ 0
bit_zero j = let b = bit_at_above 0 0 j in b (omega arith) (omega arith)

pub owed_test : (t l i : ℕ) → 0 < t → owed_of t l i ≡ count_of (leb i l)
owed_test zero l i h = absurd (omega arith)
owed_test (suc t) l i h = refl

pub map-total : (f : Held → ℕ) (g : Group) (is : List ℕ) → total_by f (map (in_motion g) is) ≡ total_by (λ i. f (in_motion g i)) is
map-total f g [] = refl
map-total f g (i ∷ is) = let r = map-total f g is in omega arith

pub among_in_motion : (g : Group) (is : List ℕ) (h : Held) → Among h (map (in_motion g) is) → (i : ℕ) × Among i is × (h ≡ in_motion g i)
among_in_motion g [] h s = elim s [ ]
among_in_motion g (i ∷ is) h (inl e) = (i, inl refl, e)
among_in_motion g (i ∷ is) h (inr s) = let r = among_in_motion g is h s in (r.0, inr r.1, r.2)

pub among_select : (t : ℕ → Bool) (k i : ℕ) → Among i (select t k) → i < k
among_select t zero i s = elim s [ ]
among_select t (suc k) i s = by_test (among_select t k i) (t k) s
  where
    by_test : (Among i (select t k) → i < k) → (b : Bool) → Among i (cond b (k ∷ select t k) (select t k)) → i < suc k
    by_test ih true (inl e) = omega arith
    by_test ih true (inr s) = let r = ih s in omega arith
    by_test ih false s = let r = ih s in omega arith

pub zeros : (is : List ℕ) → total_by (λ (i : ℕ). 0) is ≡ 0
zeros [] = refl
zeros (i ∷ is) = let r = zeros is in omega arith

pub moving_bits : (j a b l : ℕ) → a < 2 → b < 2 → a + b ≤ count_of (leb j l) → a + b + count_of (leb j l && eqb (a + b) 0) ≡ count_of (leb j l)
moving_bits j a b l la lb h = by_test (leb j l) (eqb (a + b) 0) refl h
  where
    by_test : (y z : Bool) → eqb (a + b) 0 ≡ z → a + b ≤ count_of y → a + b + count_of (y && z) ≡ count_of y
    by_test true true e h = let q : a + b ≡ 0 = grind_eq (a + b) e in omega arith
      where
        grind_eq : (n : ℕ) → eqb n 0 ≡ true → n ≡ 0
        grind_eq n e = grind (arith, Rattle.std.proofs.lemmas.Bool.Decides.nat_tests)
    by_test true false e h = let q : a + b ≢ 0 = (λ s. true≢false (sym (eq-eqb (a + b) 0 s) ∙ e)) in omega arith
    by_test false z e h = omega arith

module _ (key : Start) (ws : List ℕ) (vs : List View) (id : ℕ) (v : View) (kept : Rule key ws vs) (here_v : get_elem? vs id ≡ some v) (leads : v.leads ≡ true)
    (m t mask : ℕ) (al : m % 4 ≡ 0) (area : InArea (desk_of vs).layout m) (dead : tag ws m ≡ 0) (tagged : 0 < t) (low : t < 65) (fits : mask < 4294967296)
    (run : OnRun (desk_of vs).layout.runs (record (group_at ws m) { tag = t })) (unused : (n : ℕ) → n % 4 ≡ 0 → 0 < tag ws n → cell ws (n + 16) ≢ run.run.addr)
    (aligned : cell ws (m + 16) % 16 ≡ 0) (backs : cell ws (cell ws (m + 16)) ≡ m) (blank : cell ws (cell ws (m + 16) + 4) ≡ 0)
    (kind : IsKind (record (group_at ws m) { tag = t })) (cells : IsMeta ws (record (group_at ws m) { tag = t })) (lows : (i : ℕ) → i ≤ last ws m + 1 → cell ws (header (record (group_at ws m) { tag = t }) i) % 256 ≡ 0)
    (masks : (i : ℕ) → i < 32 → bit_at mask i + bit_at (freed ws m) i ≤ count_of (leb i (last ws m)))
    (plain : (i : ℕ) → i < 32 → 0 < bit_at mask i + bit_at (freed ws m) i → IsPlain (record (group_at ws m) { tag = t }))
    (ba : List ℕ) (notes : (n : ℕ) → Among n ba → Among n v.desk.zero_avail ⊎ ((n ≡ m) × (mask ≡ 0)))
    (cs : List (ℕ × ℕ)) (dropped : (a y : ℕ) → Among {A = ℕ × ℕ} (a, y) cs → Among {A = ℕ × ℕ} (a, y) v.desk.cells × ((a < m) ⊎ (m + 40 ≤ a)) × ((a < run.run.addr) ⊎ (run.run.addr + 4096 * run.run.pages ≤ a))) where
  abbrev d : Layout
  d = (desk_of vs).layout

  abbrev g : Group
  g = record (group_at ws m) { tag = t }

  abbrev x : ℕ
  x = t * 2 ^ 32 + mask

  abbrev ws' : List ℕ
  ws' = set ws ((m + 24) / 4) x

  abbrev moving : ℕ → Bool
  moving i = leb i (last ws m) && eqb (bit_at mask i + bit_at (freed ws m) i) 0

  abbrev w : View
  w = published v g (select moving 32) cs ba

  desk_was : desk_of vs ≡ v.desk
  desk_was = (desk_lead vs id v w here_v leads kept.hands.leaders leads).0

  desk_is : desk_of (set vs id w) ≡ w.desk
  desk_is = (desk_lead vs id v w here_v leads kept.hands.leaders leads).1

  long : (m + 24) / 4 < length ws
  long = meta_below key ws d kept.words.lawful (nested ws vs kept.slots) m 24 area (omega arith)

  new_avail : avail ws' m ≡ x
  new_avail = index_same ws ((m + 24) / 4) x long

  new_tag : tag ws' m ≡ t
  new_tag = ap (λ (y : ℕ). y / 4294967296) new_avail ∙ shr_high t 32 mask fits

  -- the other cells of this meta, and those of the others
  field : (n b : ℕ) → n % 4 ≡ 0 → InArea d n → b < 40 → b % 4 ≡ 0 → ((n ≡ m) × (b ≡ 24) → ⊥) → cell ws' (n + b) ≡ cell ws (n + b)
  field n b nl r lb bl ne = at_other ws (m + 24) (n + b) x (omega arith) (omega arith) (λ e. ne (metas_apart key ws d kept.words.lawful (nested ws vs kept.slots) n m b 24 r area lb (omega arith) e))

  live_area : (n : ℕ) → n % 4 ≡ 0 → 0 < tag ws n → InArea d n
  live_area n nl l = (kept.words.lawful.groups n nl l).in_area

  tags : (n : ℕ) → n % 4 ≡ 0 → n ≢ m → tag ws' n ≡ tag ws n
  tags n nl ne = ap (λ (y : ℕ). y / 4294967296) (at_other ws (m + 24) (n + 24) x (omega arith) (omega arith) (λ e. ne (omega arith)))

  group_same : (n : ℕ) → n % 4 ≡ 0 → n ≢ m → 0 < tag ws n → group_at ws' n ≡ group_at ws n
  group_same n nl ne l =
      let r = live_area n nl l in
      λ j. record { meta = n; base = field n 16 nl r (omega arith) refl (λ q. ne q.0) j; tag = tags n nl ne j; last = field n 32 nl r (omega arith) refl (λ q. ne q.0) j % 32; maplen = field n 32 nl r (omega arith) refl (λ q. ne q.0) j / 4096 }

  group_new : group_at ws' m ≡ g
  group_new = λ j. record { meta = m; base = field m 16 al area (omega arith) refl (λ q. let e = q.1 in omega arith) j; tag = new_tag j; last = field m 32 al area (omega arith) refl (λ q. let e = q.1 in omega arith) j % 32; maplen = field m 32 al area (omega arith) refl (λ q. let e = q.1 in omega arith) j / 4096 }

  not_m : (n : ℕ) → 0 < tag ws n → n ≢ m
  not_m n l e = let z : tag ws n ≡ 0 = ap (tag ws) e ∙ dead in omega arith

  -- a cell of a run that is no area is not the word that changes
  off : (a : ℕ) → a % 4 ≡ 0 → ((r : Run) × Among r d.runs × (r.area ≡ false) × Inside r a) → cell ws' a ≡ cell ws a
  off a l r = at_other ws (m + 24) a x (omega arith) l (λ e. off_areas key ws d kept.words.lawful (nested ws vs kept.slots) a m r area (omega arith) (omega arith))

  marks_other : (n j : ℕ) → n % 4 ≡ 0 → n ≢ m → marked ws' n j ≡ marked ws n j
  marks_other n j nl ne =
      ⊎_elim
      (λ (l : 0 < tag ws n). let r = live_area n nl l in λ s. marked_of (tags n nl ne s) (field n 24 nl r (omega arith) refl (λ q. ne q.0) s) (field n 28 nl r (omega arith) refl (λ q. ne q.0) s) j)
      (λ (l : tag ws n ≤ 0). let z : tag ws n ≡ 0 = (let y : ℕ = tag ws n in omega arith) in marked_dead (tag ws' n) (avail ws' n) (freed ws' n) j (tags n nl ne ∙ z) ∙ sym (marked_dead (tag ws n) (avail ws n) (freed ws n) j z))
      (cases_lt 0 (tag ws n))

  owed_other : (n j : ℕ) → n % 4 ≡ 0 → n ≢ m → owed ws' n j ≡ owed ws n j
  owed_other n j nl ne =
      ⊎_elim
      (λ (l : 0 < tag ws n). ap (λ (y : Group). owed_of y.tag y.last j) (group_same n nl ne l))
      (λ (l : tag ws n ≤ 0). let z : tag ws n ≡ 0 = (let y : ℕ = tag ws n in omega arith) in ap (λ y. owed_of y (last ws' n) j) (tags n nl ne ∙ z) ∙ ap (λ y. owed_of y (last ws n) j) (sym z))
      (cases_lt 0 (tag ws n))

  has_new : (n j : ℕ) → has n j w ≡ total_by (λ i. here n j (in_motion g i).place) (select moving 32) + has n j v
  has_new n j = let a = total_by-append (λ (y : Held). here n j y.place) (map (in_motion g) (select moving 32)) v.held in let b = map-total (λ (y : Held). here n j y.place) g (select moving 32) in omega arith

  slots_new : (n j : ℕ) → n % 4 ≡ 0 → j < 32 → marked ws' n j + total_by (has n j) (set vs id w) ≡ owed ws' n j
  slots_new n j nl lj =
      let s = kept.slots.each n j nl lj in
      let u = total_by-set (has n j) vs id v w here_v in
      let hn = has_new n j in
      ⊎_elim
      (λ (e : n ≡ m).
      let s' = subst (λ k. marked ws k j + total_by (has k j) vs ≡ owed ws k j) e s in
      let o : owed ws m j ≡ 0 = ap (λ y. owed_of y (last ws m) j) dead in
      let mk : marked ws' m j ≡ bit_at (avail ws' m) j + bit_at (freed ws' m) j = marked_live (tag ws' m) (avail ws' m) (freed ws' m) j (subst (λ y. 0 < y) (sym new_tag) tagged) in
      let ma : bit_at (avail ws' m) j ≡ bit_at mask j = ap (λ y. bit_at y j) new_avail ∙ bit_at_cat_low t 32 mask j lj in
      let mf : bit_at (freed ws' m) j ≡ bit_at (freed ws m) j = ap (λ y. bit_at y j) (field m 28 al area (omega arith) refl (λ q. let e = q.1 in omega arith)) in
      let ow : owed ws' m j ≡ count_of (leb j (last ws m)) = ap (λ (y : Group). owed_of y.tag y.last j) group_new ∙ owed_test t (last ws m) j tagged in
      let sel : total_by (λ i. here m j (in_motion g i).place) (select moving 32) ≡ count_of (moving j) =
      total_by-same (λ i. here m j (in_motion g i).place) (λ i. count_of (eqb i j)) (select moving 32) (λ i. ap (λ b. count_of (b && eqb i j)) (eq-eqb m m refl)) ∙ select-times moving 32 j lj in
      let b0 : ℕ = bit_at mask j in let b1 : ℕ = bit_at (freed ws m) j in let p0 : ℕ = count_of (moving j) in let p1 : ℕ = count_of (leb j (last ws m)) in
      let mv : b0 + b1 + p0 ≡ p1 = moving_bits j (bit_at mask j) (bit_at (freed ws m) j) (last ws m) (bit_at-lt mask j) (bit_at-lt (freed ws m) j) (masks j lj) in
      let hm = has_new m j in let um = total_by-set (has m j) vs id v w here_v in
      let mk' : marked ws' m j ≡ b0 + b1 = mk ∙ (let a : bit_at (avail ws' m) j ≡ b0 = ma in let b : bit_at (freed ws' m) j ≡ b1 = mf in let c : ℕ = bit_at (avail ws' m) j in let c' : ℕ = bit_at (freed ws' m) j in let a' : c ≡ b0 = a in let b' : c' ≡ b1 = b in let r : c + c' ≡ b0 + b1 = omega arith in r) in
      let sel' : total_by (λ i. here m j (in_motion g i).place) (select moving 32) ≡ p0 = sel in
      let ow' : owed ws' m j ≡ p1 = ow in
      subst (λ k. marked ws' k j + total_by (has k j) (set vs id w) ≡ owed ws' k j) (sym e) (omega (arith, mk', sel', ow', mv, hm, um, s', o)))
      (λ (ne : n ≢ m).
      let a = marks_other n j nl ne in let b = owed_other n j nl ne in
      let z : total_by (λ i. here n j (in_motion g i).place) (select moving 32) ≡ 0 = total_by-same (λ i. here n j (in_motion g i).place) (λ i. 0) (select moving 32) (λ i. ap (λ b. count_of (b && eqb i j)) (ne_eqb m n (λ q. ne (sym q)))) ∙ zeros (select moving 32) in
      omega arith)
      (cases_eq n m)

  place_kept : (p : Place) → IsSlot ws p → IsPlace ws' p
  place_kept p i =
      let l : 0 < tag ws p.group.meta = subst (λ (y : Group). 0 < y.tag) i.0.group i.1 in
      record { group = i.0.group ∙ sym (group_same p.group.meta i.0.whole (not_m p.group.meta l) l); whole = i.0.whole; few = i.0.few }

  layout_same : d ≡ w.desk.layout
  layout_same = ap (λ (y : Desk). y.layout) desk_was

  laid_new : IsLaid ws' d g
  laid_new = record {
    in_area = area;
    low = low;
    many = (let y : ℕ = cell ws (m + 32) in omega arith);
    whole = aligned;
    base = off (cell ws (m + 16)) (omega arith) (run.run, run.noted, run.plain, (let e = run.begins in let h = run.fits in (omega arith, omega arith))) ∙ backs;
    base_high = off (cell ws (m + 16) + 4) (omega arith) (run.run, run.noted, run.plain, (let e = run.begins in let h = run.fits in (omega arith, omega arith))) ∙ blank;
    lies = inl run;
    kind = kind;
    fields = fields_same ws ws' g (λ b lt bl n24 n28. field m b al area lt bl (λ q. n24 q.1)) cells;
    lows = λ i le.
        let h = mul-le-mul_left (stride g) le in
        let c = header_cell g i aligned in
        let p : ℕ = stride g * i in let q : ℕ = stride g * (last ws m + 1) in
        ap (λ (y : ℕ). y % 256) (off (header g i) (omega arith) (run.run, run.noted, run.plain, (let e = run.begins in let k = run.fits in (omega arith, omega arith)))) ∙ lows i le;
  }

  words_new : IsLawful key ws' d
  words_new = but_words key ws d kept.words.lawful (nested ws vs kept.slots) m x al area (dead_none key ws d kept.words.lawful (nested ws vs kept.slots) m x al area dead) (λ l. subst (IsLaid ws' d) (sym group_new) laid_new)

  -- its bits
  marks_new : (j : ℕ) → j < 32 → marked ws' m j ≡ bit_at mask j + bit_at (freed ws m) j
  marks_new j lj =
      let mk : marked ws' m j ≡ bit_at (avail ws' m) j + bit_at (freed ws' m) j = marked_live (tag ws' m) (avail ws' m) (freed ws' m) j (subst (λ y. 0 < y) (sym new_tag) tagged) in
      let b0 : ℕ = bit_at mask j in let b1 : ℕ = bit_at (freed ws m) j in
      let ma : bit_at (avail ws' m) j ≡ b0 = ap (λ y. bit_at y j) new_avail ∙ bit_at_cat_low t 32 mask j lj in
      let mf : bit_at (freed ws' m) j ≡ b1 = ap (λ y. bit_at y j) (field m 28 al area (omega arith) refl (λ q. let e = q.1 in omega arith)) in
      mk ∙ (λ i. ma i + mf i)

  known_kept : (j : ℕ) (u : View) (h : Held) → get_elem? vs j ≡ some u → Among h u.held → IsKnown ws' h
  known_kept j u h e s a y q =
      let k = kept.knowledge.each j u e h s a y q in
      record { own = k.own; whole = k.whole; value = off a k.whole (own_in_run key ws d kept.words.lawful (nested ws vs kept.slots) a h.place (held_slot ws vs kept.slots j u h e s) k.own) ∙ k.value }

  -- what is free stays free, but for the meta and the run
  free_kept : (a y : ℕ) → Among {A = ℕ × ℕ} (a, y) cs → IsFree ws' d a × (cell ws' a ≡ y)
  free_kept a y q =
      let r = dropped a y q in
      let k = kept.knowledge.desk.free a y (subst (λ (e : Desk). Among {A = ℕ × ℕ} (a, y) e.cells) (sym desk_was) r.0) in
      let out = r.1 in
      let value : cell ws' a ≡ cell ws a = at_other ws (m + 24) a x (omega arith) k.0.0 (λ e. ⊎_elim (λ (l : a < m). omega arith) (λ (l : m + 40 ≤ a). omega arith) out) in (
        (
          k.0.0,
          ⊎_elim
              (λ (z : IsOfFreeRun ws d a).
              inl (record {
                run = z.run;
                noted = z.noted;
                plain = z.plain;
                inside = z.inside;
                free = λ n nl l e. ⊎_elim
                    (λ (eq : n ≡ m).
                    let b : cell ws (m + 16) ≡ z.run.addr = sym (ap (λ k. cell ws (k + 16)) eq) ∙ (sym (field n 16 nl (subst (InArea d) (sym eq) area) (omega arith) refl (λ p. let f = p.1 in omega arith)) ∙ e) in
                    let same_addr : run.run.addr ≡ z.run.addr = run.begins ∙ b in
                    let i = z.inside in let i0 = i.0 in let i1 = i.1 in
                    let u = kept.words.lawful.apart run.run z.run run.run.addr run.noted z.noted (omega arith, (let h = run.fits in omega arith)) (omega arith, (let h = run.fits in omega arith)) in
                    let pages : run.run.pages ≡ z.run.pages = ap (λ (p : Run). p.pages) u in
                    ⊎_elim (λ (lo : a < run.run.addr). omega arith) (λ (hi : run.run.addr + 4096 * run.run.pages ≤ a). omega arith) r.2)
                    (λ (ne : n ≢ m).
                    let l' : 0 < tag ws n = subst (λ p. 0 < p) (tags n nl ne) l in
                    z.free n nl l' (sym (field n 16 nl (live_area n nl l') (omega arith) refl (λ p. ne p.0)) ∙ e))
                    (cases_eq n m);
              }))
              (λ (z : IsOfFreeMeta ws d a).
              let ne : z.meta ≢ m = (λ e. let lo = z.from in let hi = z.below in ⊎_elim (λ (l : a < m). omega arith) (λ (l : m + 40 ≤ a). omega arith) out) in
              inr (record { meta = z.meta; whole = z.whole; in_area = z.in_area; free = tags z.meta z.whole ne ∙ z.free; from = z.from; below = z.below }))
              k.0.1,
        ),
        value ∙ k.1,
      )

  listing_is : Listing ws' w.desk
  listing_is = listing_new ws ws' v.desk w.desk m al tags group_same marks_other (λ n r. r) (subst (Listing ws) desk_was kept.listing) g dead tagged group_new refl refl (subst (λ (y : Layout). InArea y m) layout_same area)

  noted_is : Noted ws' w.desk
  noted_is =
      let o = subst (Noted ws) desk_was kept.knowledge.desk in
      record {
        free = λ a y q. let k = free_kept a y q in (subst (λ (e : Layout). IsFree ws' e a) layout_same k.0, k.1);
        masks = masks_new ws ws' v.desk w.desk m al tags group_same marks_other (λ n r. r) (subst (Listing ws) desk_was kept.listing)
            (λ n b nl l ne s. ⊎_elim (λ (e : b ≡ 24). field n b nl (live_area n nl l) (omega arith) (omega arith) (λ q. ne q.0)) (λ (e : b ≡ 28). field n b nl (live_area n nl l) (omega arith) (omega arith) (λ q. ne q.0)) s) dead
            (λ n q. ⊎_elim (λ (z : Among n v.desk.zero_avail). inl z) (λ (z : (n ≡ m) × (mask ≡ 0)). inr (subst (IsZeroAvail ws') (sym z.0) (record { whole = al; live = subst (λ y. 0 < y) (sym new_tag) tagged; zero_bits = λ j lj. ap (λ y. bit_at y j) new_avail ∙ bit_at_cat_low t 32 mask j lj ∙ ap (λ y. bit_at y j) z.1 ∙ bit_zero j }))) (notes n q))
            refl refl o.masks;
        numbers = numbers_page ws ws' v.desk w.desk (but_first key ws d kept.words.lawful (nested ws vs kept.slots) m x al area) refl refl o.numbers;
      }

  quiet : Quiet v w
  quiet = record {
    leads = refl;
    books = refl;
    excuses = refl;
    sent = refl;
    taken = refl;
    parcel = refl;
    blocks = λ b. let a = total_by-append (λ (y : Held). lives b y.block) (map (in_motion g) (select moving 32)) v.held in let c = map-total (λ (y : Held). lives b y.block) g (select moving 32) in let z = zeros (select moving 32) in omega arith;
    idle = λ f b. let r = f b in (r.0, r.1, λ l. absurd (true≢false (sym leads ∙ l)));
    whole = λ f p. absurd (true≢false (sym leads ∙ (f p).follows));
  }

  pub publishes : Rule key ws' (set vs id w)
  publishes = record {
    slots = record {
      each = slots_new;
      plain = plain_new ws ws' v.desk w.desk m al tags group_same marks_other (λ n r. r) (subst (Listing ws) desk_was kept.listing) kept.slots.plain g group_new (λ j lj b. plain j lj (subst (λ y. 0 < y) (marks_new j lj) b));
      held = each_set (λ u. Unit {0}) (λ u. (h : Held) → Among h u.held → IsPlace ws' h.place) vs id w (λ j u n e h s. place_kept h.place (held_slot ws vs kept.slots j u h e s))
          (λ h s. ⊎_elim
          (λ (q : Among h (map (in_motion g) (select moving 32))). let r = among_in_motion g (select moving 32) h q in subst (λ (y : Held). IsPlace ws' y.place) (sym r.2) (record { group = sym group_new; whole = al; few = among_select moving 32 r.0 r.1 }))
          (λ (q : Among h v.held). place_kept h.place (held_slot ws vs kept.slots id v h here_v q))
          (among_append (map (in_motion g) (select moving 32)) v.held h s));
      nests = each_set (λ u. Unit {0}) (λ u. (n : Nest) → Among n u.desk.layout.nests → IsPlace ws' n.place) vs id w (λ j u n e y s. place_kept y.place (nest_slot ws vs kept.slots j u y e s)) (λ y s. place_kept y.place (nest_slot ws vs kept.slots id v y here_v s));
    };
    words = record {
      lawful = subst (λ (e : Desk). IsLawful key ws' e.layout) (sym desk_is) (subst (IsLawful key ws') layout_same words_new);
      blocks = each_keep (λ u. (y : Held) → Among y u.held → IsSet y y.block) vs id v w here_v
          (λ f h s. ⊎_elim
          (λ (q : Among h (map (in_motion g) (select moving 32))). let r = among_in_motion g (select moving 32) h q in subst (λ (y : Held). IsSet y y.block) (sym r.2) tt)
          (λ (q : Among h v.held). f h q)
          (among_append (map (in_motion g) (select moving 32)) v.held h s)) kept.words.blocks;
    };
    listing = subst (Listing ws') (sym desk_is) listing_is;
    excuses = quiet_excuses key vs id v w here_v quiet (ap (λ (e : Desk). e.refusals) desk_is ∙ ap (λ (e : Desk). e.refusals) (sym desk_was)) kept.excuses;
    history = quiet_history key vs id v w here_v quiet kept.history;
    knowledge = record {
      desk = subst (Noted ws') (sym desk_is) noted_is;
      each = each_set (λ u. Unit {0}) (λ u. (h : Held) → Among h u.held → IsKnown ws' h) vs id w (λ j u n e h s. known_kept j u h e s)
          (λ h s. ⊎_elim
          (λ (q : Among h (map (in_motion g) (select moving 32))). let r = among_in_motion g (select moving 32) h q in subst (IsKnown ws') (sym r.2) (λ a y z. elim z [ ]))
          (λ (q : Among h v.held). known_kept id v h here_v q)
          (among_append (map (in_motion g) (select moving 32)) v.held h s));
    };
    classes = record {
      each = each_keep (λ u. (y : Held) → Among y u.held → IsServed y y.block) vs id v w here_v
          (λ f h s. ⊎_elim
          (λ (q : Among h (map (in_motion g) (select moving 32))). let r = among_in_motion g (select moving 32) h q in subst (λ (y : Held). IsServed y y.block) (sym r.2) tt)
          (λ (q : Among h v.held). f h q)
          (among_append (map (in_motion g) (select moving 32)) v.held h s)) kept.classes.each;
    };
    hands = quiet_hands vs id v w here_v quiet (ap (λ (e : Desk). e.next) desk_is ∙ ap (λ (e : Desk). e.next) (sym desk_was)) kept.hands
        (each_keep IsDeskless vs id v w here_v (λ f l. absurd (true≢false (sym leads ∙ l))) kept.hands.desks)
        (each_keep IsMoving vs id v w here_v (λ f l b h s. ⊎_elim (λ (q : Among h (map (in_motion g) (select moving 32))). let r = among_in_motion g (select moving 32) h q in subst (λ (y : Held). y.block ≡ None) (sym r.2) refl) (f l b h) (among_append (map (in_motion g) (select moving 32)) v.held h s)) kept.hands.moving);
  }
