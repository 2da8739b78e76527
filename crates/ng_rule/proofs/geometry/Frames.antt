-- What a step on one word leaves as it was.
use Rattle.std.proofs.Common.{◌≡◌, ◌≢◌, ◌⊎◌, ℕ, ◌+◌, ◌-◌, ◌*◌, ◌/◌, ◌%◌, ◌<◌, ◌≤◌, true, false, List, length, set, refl, sym, ap, ◌∙◌, subst, ⊎_elim, inl, inr, arith, true≢false}
use Rattle.std.specs.Prelude.{slice_index}
use Rattle.std.proofs.Math.ListN.{length-set}
use Rattle.std.proofs.lemmas.Bool.{cases_eq, cases_lt}
use Rattle.std.proofs.Common.{◌≡◌, ◌≢◌, ◌⊎◌, ℕ, ◌+◌, ◌*◌, ◌/◌, ◌%◌, ◌<◌, ◌≤◌, true, false, true≢false, List, length, refl, sym, ap, ◌∙◌, subst, ⊎_elim, inl, inr, arith, mul-le-mul_left}
use Rattle.ng_view.specs.Knowledge.{IsOfFreeRun, IsOfFreeMeta}
use Rattle.ng_view.specs.declared.view.Group.{Group}
use Rattle.ng_view.specs.declared.view.Place.{Place}
use Rattle.ng_view.specs.declared.view.Nest.{Nest}
use Rattle.ng_view.specs.declared.view.Run.{Run}
use Rattle.ng_view.specs.declared.view.Layout.{Layout}
use Rattle.ng_view.specs.declared.view.Start.{Start}
use Rattle.ng_view.specs.Lists.{Among}
use Rattle.ng_view.specs.Cells.{cell, tag, last, group_at}
use Rattle.ng_view.specs.Places.{stride, slot_start, Owns, reach, header}
use Rattle.ng_view.specs.Words.{IsLawful, IsAvailWord}
use Rattle.ng_view.specs.Slots.{IsPlace}
use Rattle.ng_view.specs.Knowledge.{IsFree}
use Rattle.ng_view.specs.Layouts.{IsAreaAt, IsOutside, Inside, InArea, OnRun, IsLaid, IsMeta, IsArea, IsFirstPage}
use Rattle.ng_meta.specs.Place.{IsMetaPlace}
use Rattle.ng_rule.proofs.geometry.Lists.{index_same, index_other, at_other}
use Rattle.ng_rule.proofs.geometry.Nesting.{IsSlot, IsLeaf, behind, in_run, own_in_run, own_top, reach_top, off_areas, metas_apart, past_top, header_once, past_own}
use Rattle.ng_rule.proofs.geometry.Strides.{header_cell, some_stride}

-- the upper half of a word is 0, or it is the avail word of a meta
abbrev pub IsUpper : Layout → ℕ → ℕ → Type 0
IsUpper d k x = (x < 4294967296) ⊎ IsAvailWord d k

-- a cell of an area that is no meta's
abbrev pub IsHead : ℕ → Type 0
IsHead b = (b < 24) ⊎ ((4064 ≤ b) × (b < 4096))

pub record Same (ws ws' : List ℕ) (d : Layout) : Type 0 where
  pub size : length ws' ≡ length ws
  pub tags : (m : ℕ) → m % 4 ≡ 0 → tag ws' m ≡ tag ws m
  pub groups : (m : ℕ) → m % 4 ≡ 0 → 0 < tag ws m → group_at ws' m ≡ group_at ws m
  pub bases : (m : ℕ) → m % 4 ≡ 0 → 0 < tag ws m → (cell ws' (cell ws (m + 16)) ≡ cell ws (cell ws (m + 16))) × (cell ws' (cell ws (m + 16) + 4) ≡ cell ws (cell ws (m + 16) + 4))
  pub upper : (k : ℕ) → IsUpper d k (slice_index ws' k)
  pub outside : (a : ℕ) → a % 4 ≡ 0 → 4096 ≤ a → IsOutside d a → cell ws' a ≡ cell ws a
  -- the other cells of a live meta, the low bytes of header cells, and the cells of an area before and behind its metas
  pub fields : (m b : ℕ) → m % 4 ≡ 0 → 0 < tag ws m → b < 40 → b % 4 ≡ 0 → b ≢ 24 → b ≢ 28 → cell ws' (m + b) ≡ cell ws (m + b)
  pub lows : (m i : ℕ) → m % 4 ≡ 0 → 0 < tag ws m → i ≤ last ws m + 1 → cell ws (header (group_at ws m) i) % 256 ≡ 0 → cell ws' (header (group_at ws m) i) % 256 ≡ 0
  pub heads : (r : Run) (b : ℕ) → Among r d.runs → r.area ≡ true → b % 4 ≡ 0 → IsHead b → cell ws' (r.addr + b) ≡ cell ws (r.addr + b)

pub fields_same : (ws ws' : List ℕ) (g : Group) → ((b : ℕ) → b < 40 → b % 4 ≡ 0 → b ≢ 24 → b ≢ 28 → cell ws' (g.meta + b) ≡ cell ws (g.meta + b)) → IsMeta ws g → IsMeta ws' g
fields_same ws ws' g s f = record {
  links = λ b lt al. s b (omega arith) al (omega arith) (omega arith) ∙ f.links b lt al;
  mem_high = s 20 (omega arith) refl (omega arith) (omega arith) ∙ f.mem_high;
  flags_high = s 36 (omega arith) refl (omega arith) (omega arith) ∙ f.flags_high;
  freeable = ap (λ (x : ℕ). x / 32 % 2) (s 32 (omega arith) refl (omega arith) (omega arith)) ∙ f.freeable;
  class = ap (λ (x : ℕ). x / 64 % 64 + 1) (s 32 (omega arith) refl (omega arith) (omega arith)) ∙ f.class;
}

pub area_same : (key : Start) (ws ws' : List ℕ) (d : Layout) (r : Run) → ((b : ℕ) → b % 4 ≡ 0 → IsHead b → cell ws' (r.addr + b) ≡ cell ws (r.addr + b)) → IsArea key ws d r → IsArea key ws' d r
area_same key ws ws' d r s a = record {
  page = a.page;
  check = s 0 refl (inl (omega arith)) ∙ a.check;
  check_high = s 4 refl (inl (omega arith)) ∙ a.check_high;
  next = ⊎_elim (λ (z : cell ws (r.addr + 8) ≡ 0). inl (s 8 refl (inl (omega arith)) ∙ z))
      (λ (z : IsAreaAt d.runs (cell ws (r.addr + 8))). inr (subst (IsAreaAt d.runs) (sym (s 8 refl (inl (omega arith)))) z)) a.next;
  next_high = s 12 refl (inl (omega arith)) ∙ a.next_high;
  nslots = s 16 refl (inl (omega arith)) ∙ a.nslots;
  nslots_high = s 20 refl (inl (omega arith)) ∙ a.nslots_high;
  tail = λ b al lo hi. s b al (inr (lo, hi)) ∙ a.tail b al lo hi;
}

-- no run has a cell of page 0
pub first_outside : (key : Start) (ws : List ℕ) (d : Layout) → IsLawful key ws d → (a : ℕ) → a < 4096 → IsOutside d a
first_outside key ws d w a lt r n i = let s = (w.in_space r n).above in let b = w.range.above in let l = i.0 in omega arith

pub first_same : (key : Start) (ws ws' : List ℕ) → ((a : ℕ) → a % 4 ≡ 0 → a < 4096 → cell ws' a ≡ cell ws a) → IsFirstPage key ws → IsFirstPage key ws'
first_same key ws ws' s f = record {
  active = λ c lt. subst (λ (x : ℕ). (x ≡ 0) ⊎ IsMetaPlace x key.pages) (sym (s (4 * (c + 1)) (omega arith) (omega arith))) (f.active c lt);
  rest = λ a al lt far ne. s a al lt ∙ f.rest a al lt far ne;
}

pub words_same : (key : Start) (ws ws' : List ℕ) (d : Layout) → IsLawful key ws d → Same ws ws' d → IsFirstPage key ws' → IsLawful key ws' d
words_same key ws ws' d w s first = record {
  range = w.range;
  long = s.size ∙ w.long;
  upper = s.upper;
  apart = w.apart;
  in_space = w.in_space;
  carried = λ n t. let k = w.carried n t in record { whole = k.whole; live = subst (λ t. 0 < t) (sym (s.tags n.child k.whole)) k.live; base = ap (λ (g : Group). g.base) (s.groups n.child k.whole k.live) ∙ k.base };
  single = w.single;
  once = w.once;
  groups = λ m al live.
      let live' : 0 < tag ws m = subst (λ t. 0 < t) (s.tags m al) live in
      let l = w.groups m al live' in
      let b = s.bases m al live' in
      subst (IsLaid ws' d) (sym (s.groups m al live'))
      (record {
        in_area = l.in_area;
        low = l.low;
        many = l.many;
        kind = l.kind;
        whole = l.whole;
        base = b.0 ∙ l.base;
        base_high = b.1 ∙ l.base_high;
        lies = l.lies;
        fields = fields_same ws ws' (group_at ws m) (λ b lt bl n n'. s.fields m b al live' lt bl n n') l.fields;
        lows = λ i le. s.lows m i al live' le (l.lows i le);
      });
  areas = λ r n is. area_same key ws ws' d r (λ b bl h. s.heads r b n is bl h) (w.areas r n is);
  first = first;
  outside = λ a al page o. s.outside a al page o ∙ w.outside a al page o;
}

pub place_same : (ws ws' : List ℕ) (d : Layout) → Same ws ws' d → (p : Place) → IsSlot ws p → IsPlace ws' p
place_same ws ws' d s p i = record { group = i.0.group ∙ sym (s.groups p.group.meta i.0.whole (subst (λ (g : Group). 0 < g.tag) i.0.group i.1)); whole = i.0.whole; few = i.0.few }

pub free_same : (ws ws' : List ℕ) (d : Layout) → Same ws ws' d → (a : ℕ) → IsFree ws d a → IsFree ws' d a
free_same ws ws' d s a f = (
  f.0,
  ⊎_elim
      (λ (x : IsOfFreeRun ws d a).
      inl (record {
        run = x.run;
        noted = x.noted;
        plain = x.plain;
        inside = x.inside;
        free = λ m al live e.
            let l : 0 < tag ws m = subst (λ t. 0 < t) (s.tags m al) live in
            x.free m al l (sym (ap (λ (g : Group). g.base) (s.groups m al l)) ∙ e);
      }))
      (λ (x : IsOfFreeMeta ws d a). inr (record { meta = x.meta; whole = x.whole; in_area = x.in_area; free = s.tags x.meta x.whole ∙ x.free; from = x.from; below = x.below }))
      f.1,
)

upper_set : (d : Layout) (ws : List ℕ) (k x : ℕ) → ((j : ℕ) → IsUpper d j (slice_index ws j)) → IsUpper d k x → k < length ws → (j : ℕ) → IsUpper d j (slice_index (set ws k x) j)
upper_set d ws k x h new long j =
    ⊎_elim (λ (e : j ≡ k). subst (λ i. IsUpper d i (slice_index (set ws k x) i)) (sym e) (subst (IsUpper d k) (sym (index_same ws k x long)) new)) (λ (n : j ≢ k). subst (IsUpper d j) (sym (index_other ws k j x n)) (h j)) (cases_eq j k)

module _ (key : Start) (ws : List ℕ) (d : Layout) (words : IsLawful key ws d) (nested : (n : Nest) → Among n d.nests → IsSlot ws n.place) where
  pub index_below : (r : Run) (a : ℕ) → Among r d.runs → Inside r a → a / 4 < length ws
  index_below r a n i = let s2 = (words.in_space r n).below in let s3 = words.range.below in let i1 = i.1 in let l = words.long in omega arith

  -- a cell of a run is none of page 0
  pub zero_home : (a x : ℕ) → a % 4 ≡ 0 → (home : (r : Run) × Among r d.runs × Inside r a) → (b : ℕ) → b % 4 ≡ 0 → b < 4096 → cell (set ws (a / 4) x) b ≡ cell ws b
  zero_home a x al home b bl lt = at_other ws a b x al bl (λ e. first_outside key ws d words b lt home.0 home.1 (subst (Inside home.0) (sym e) home.2))

  -- nor is a meta's
  pub zero_meta : (m c x : ℕ) → m % 4 ≡ 0 → InArea d m → c < 40 → c % 4 ≡ 0 → (b : ℕ) → b % 4 ≡ 0 → b < 4096 → cell (set ws ((m + c) / 4) x) b ≡ cell ws b
  zero_meta m c x al area lc cl = zero_home (m + c) x (omega arith) (area.run, area.noted, (let p = area.place in let o = area.page in let q = area.below in (omega arith, omega arith)))

  pub laid_area : (m : ℕ) → m % 4 ≡ 0 → 0 < tag ws m → InArea d m
  laid_area m al live = (words.groups m al live).in_area

  -- the group's base, with the three cells behind it
  base_in_run : (m b : ℕ) → m % 4 ≡ 0 → 0 < tag ws m → b < 8 → (r : Run) × Among r d.runs × (r.area ≡ false) × Inside r (cell ws (m + 16) + b)
  base_in_run m b al live lt = in_run key ws d words nested (cell ws (m + 16) + b) m al live (omega arith) (omega arith)

  -- a cell that is in no area, and is no group's base
  abbrev pub Own : ℕ → Type 0
  Own a = ((m : ℕ) → m % 4 ≡ 0 → 0 < tag ws m → m ≤ a → a < m + 40 → ⊥) × ((m b : ℕ) → m % 4 ≡ 0 → 0 < tag ws m → b < 8 → cell ws (m + 16) + b ≢ a) × (cell ws a < 4294967296) × ((r : Run) (b : ℕ) → Among r d.runs → r.area ≡ true → IsHead b → r.addr + b ≢ a)

  -- where no area's meta has its avail word there, or where that has no tag, a word is below 2 ^ 32
  pub low_word : (a : ℕ) → a % 4 ≡ 0 → ((m : ℕ) → m % 4 ≡ 0 → InArea d m → m + 24 ≡ a → tag ws m ≡ 0) → cell ws a < 4294967296
  low_word a al off = ⊎_elim (λ (l : cell ws a < 4294967296). l)
      (λ (r : IsAvailWord d (a / 4)).
      let m = r.meta in let ml = r.whole in let e = r.place in let q : m + 24 ≡ a = omega arith in
      let z = off m ml r.in_area q in let w : cell ws (m + 24) ≡ cell ws a = ap (cell ws) q in omega arith)
      (words.upper (a / 4))

  -- a cell of a run that is no area is no area's
  pub off_head : (a : ℕ) → ((r : Run) × Among r d.runs × (r.area ≡ false) × Inside r a) → (r : Run) (b : ℕ) → Among r d.runs → r.area ≡ true → IsHead b → r.addr + b ≢ a
  off_head a home r b n is h e =
      let p = (words.areas r n is).page in
      let q = words.apart r home.0 a n home.1 (⊎_elim (λ (l : b < 24). (omega arith, omega arith)) (λ (l : (4064 ≤ b) × (b < 4096)). let l1 = l.1 in (omega arith, omega arith)) h) home.3 in
      true≢false (sym is ∙ ap (λ (z : Run). z.area) q ∙ home.2)

  -- nor is a meta's cell
  pub meta_head : (a m : ℕ) → InArea d m → m ≤ a → a < m + 40 → (r : Run) (b : ℕ) → Among r d.runs → r.area ≡ true → IsHead b → r.addr + b ≢ a
  meta_head a m i lo hi r b n is h e =
      let p = (words.areas r n is).page in let u = i.place in let v = i.page in let w = i.below in
      let q = words.apart r i.run a n i.noted (⊎_elim (λ (l : b < 24). (omega arith, omega arith)) (λ (l : (4064 ≤ b) × (b < 4096)). let l1 = l.1 in (omega arith, omega arith)) h) (omega arith, omega arith) in
      let f : r.addr ≡ i.run.addr = ap (λ (z : Run). z.addr) q in
      ⊎_elim (λ (l : b < 24). omega arith) (λ (l : (4064 ≤ b) × (b < 4096)). let l0 = l.0 in omega arith) h

  -- a slot has some cell
  pub wide : (m : ℕ) → m % 4 ≡ 0 → 0 < (group_at ws m).tag → 0 < stride (group_at ws m)
  wide m al live = some_stride ws d (group_at ws m) live (words.groups m al live)

  pub own_is : (a : ℕ) (p : Place) → a % 4 ≡ 0 → IsSlot ws p → IsLeaf d p → Owns p a → Own a
  own_is a p al i leaf o =
      let home = own_in_run key ws d words nested a p i o in (
        (λ m ml live low high. off_areas key ws d words nested a m home (laid_area m ml live) low high),
        (λ m b ml live lt e. let h = behind key ws d words nested a m p ml live i leaf o (omega arith) (omega arith) in omega arith),
        low_word a al (λ m ml r e. absurd (off_areas key ws d words nested a m home r (omega arith) (omega arith))),
        off_head a home,
      )

  -- a free cell's run, and that it is no live group's
  pub free_home : (a : ℕ) → IsFree ws d a → (r : Run) × Among r d.runs × Inside r a
  free_home a f = ⊎_elim
      (λ (y : IsOfFreeRun ws d a). (y.run, y.noted, y.inside))
      (λ (y : IsOfFreeMeta ws d a).
      let r = y.in_area in let p = r.place in let o = r.page in let q = r.below in let l = y.from in let h = y.below in (r.run, r.noted, (omega arith, omega arith)))
      f.1

  -- two metas of areas with a common cell are one
  one_meta : (m n a : ℕ) → InArea d m → InArea d n → m ≤ a → a < m + 40 → n ≤ a → a < n + 40 → m ≡ n
  one_meta m n a r s l h l' h' = let b : ℕ = a - m in (metas_apart key ws d words nested m n (a - m) (a - n) r s (omega arith) (omega arith) (omega arith)).0

  pub free_is : (a : ℕ) → IsFree ws d a → Own a
  free_is a f = ⊎_elim
      (λ (y : IsOfFreeRun ws d a). (
        (λ m ml live low high. off_areas key ws d words nested a m (y.run, y.noted, y.plain, y.inside) (laid_area m ml live) low high),
        (λ m b ml live lt e.
            let t = reach_top key ws d words nested a m ml live (omega arith) (omega arith) in
            let s = words.apart t.3.run y.run a t.3.noted y.noted t.4 y.inside in
            y.free t.0 t.1 t.2 (sym t.3.begins ∙ ap (λ (z : Run). z.addr) s)),
        low_word a f.0 (λ m ml r e. absurd (off_areas key ws d words nested a m (y.run, y.noted, y.plain, y.inside) r (omega arith) (omega arith))),
        off_head a (y.run, y.noted, y.plain, y.inside),
      ))
      (λ (y : IsOfFreeMeta ws d a).
      let l = y.from in let h = y.below in (
        (λ m ml live low high. let e = one_meta m y.meta a (laid_area m ml live) y.in_area low high l h in let z : tag ws m ≡ 0 = ap (tag ws) e ∙ y.free in omega arith),
        (λ m b ml live lt e. off_areas key ws d words nested a y.meta (in_run key ws d words nested a m ml live (omega arith) (omega arith)) y.in_area l h),
        low_word a f.0 (λ m ml r e. ap (tag ws) (one_meta m y.meta a r y.in_area (omega arith) (omega arith) l h) ∙ y.free),
        meta_head a y.meta y.in_area l h,
      ))
      f.1

  -- where a cell is the header cell of a slot or a past cell, x has the low byte 0
  abbrev pub IsLow : ℕ → ℕ → Type 0
  IsLow a x = (m i : ℕ) → m % 4 ≡ 0 → 0 < tag ws m → i ≤ last ws m + 1 → header (group_at ws m) i ≡ a → x % 256 ≡ 0

  mul_le : (s i l : ℕ) → i ≤ l → s * i ≤ s * l
  mul_le s i l h = mul-le-mul_left s h

  -- a leaf's own cell is such a cell only where it is the leaf's header cell
  pub own_low : (a x : ℕ) (p : Place) → IsSlot ws p → IsLeaf d p → Owns p a → (a + 4 ≡ slot_start p → x % 256 ≡ 0) → IsLow a x
  own_low a x p i leaf o low m k ml live le e =
      let g = group_at ws m in
      ⊎_elim
      (λ (l : k < last ws m + 1).
      let q : Place = record { group = g; index = k } in
      let many = (words.groups m ml live).many in
      let s : a + 4 ≡ slot_start q = (let x : ℕ = stride g * k in omega arith) in
      low (s ∙ ap slot_start (header_once key ws d words nested wide a p q i leaf o (record { group = refl; whole = ml; few = omega arith }, live, omega arith) s)))
      (λ (l : last ws m + 1 ≤ k).
      let same : k ≡ last ws m + 1 = omega arith in
      let s : a + 4 ≡ g.base + reach g = (let y : ℕ = stride g * k in let z : ℕ = stride g * (last ws m + 1) in let f : y ≡ z = ap (λ (n : ℕ). stride g * n) same in omega arith) in
      low (past_own key ws d words nested wide 65 a m p (omega arith) ml live i leaf o s))
      (cases_lt k (last ws m + 1))

  header_top : (m i : ℕ) → m % 4 ≡ 0 → 0 < tag ws m → i ≤ last ws m + 1 → (n : ℕ) × (n % 4 ≡ 0) × (0 < (group_at ws n).tag) × (on : OnRun d.runs (group_at ws n)) × Inside on.run (header (group_at ws m) i)
  header_top m i ml live le =
      let g = group_at ws m in
      let h = mul_le (stride g) i (last ws m + 1) le in
      let x : ℕ = stride g * i in let y : ℕ = stride g * (last ws m + 1) in
      past_top key ws d words nested 65 (header g i) m (omega arith) ml live (omega arith) (omega arith)

  -- a header cell lies in a run that is no area
  pub header_run : (m i : ℕ) → m % 4 ≡ 0 → 0 < tag ws m → i ≤ last ws m + 1 → (r : Run) × Among r d.runs × (r.area ≡ false) × Inside r (header (group_at ws m) i)
  header_run m i ml live le = let t = header_top m i ml live le in (t.3.run, t.3.noted, t.3.plain, t.4)

  -- and a free cell is none
  pub free_low : (a x : ℕ) → IsFree ws d a → IsLow a x
  free_low a x f m i ml live le e =
      let t = header_top m i ml live le in
      let j : Inside t.3.run a = subst (Inside t.3.run) e t.4 in
      absurd (⊎_elim
      (λ (y : IsOfFreeRun ws d a).
      y.free t.0 t.1 t.2 (sym t.3.begins ∙ ap (λ (z : Run). z.addr) (words.apart t.3.run y.run a t.3.noted y.noted j y.inside)))
      (λ (y : IsOfFreeMeta ws d a). off_areas key ws d words nested a y.meta (t.3.run, t.3.noted, t.3.plain, j) y.in_area y.from y.below)
      f.1)

  pub header_al : (m i : ℕ) → m % 4 ≡ 0 → 0 < tag ws m → header (group_at ws m) i % 4 ≡ 0
  header_al m i ml live = let h = header_cell (group_at ws m) i (words.groups m ml live).whole in let x : ℕ = header (group_at ws m) i in omega (arith, h)

  pub same_own : (a x : ℕ) → a % 4 ≡ 0 → Own a → IsLow a x → (home : (r : Run) × Among r d.runs × Inside r a) → a / 4 < length ws → x < 4294967296 → Same ws (set ws (a / 4) x) d
  same_own a x al o low home long fits = record {
    size = length-set ws (a / 4) x;
    tags = tags;
    groups = λ m ml live.
        let area = laid_area m ml live in
        λ t. record {
          meta = m;
          base = at_other ws a (m + 16) x al (omega arith) (λ e. o.0 m ml live (omega arith) (omega arith)) t;
          tag = tags m ml t;
          last = at_other ws a (m + 32) x al (omega arith) (λ e. o.0 m ml live (omega arith) (omega arith)) t % 32;
          maplen = at_other ws a (m + 32) x al (omega arith) (λ e. o.0 m ml live (omega arith) (omega arith)) t / 4096;
        };
    bases = λ m ml live.
        let g = (words.groups m ml live).whole in
        (at_other ws a (cell ws (m + 16)) x al (omega arith) (λ e. o.1 m 0 ml live (omega arith) (omega arith)), at_other ws a (cell ws (m + 16) + 4) x al (omega arith) (o.1 m 4 ml live (omega arith)));
    upper = upper_set d ws (a / 4) x words.upper (inl fits) long;
    outside = λ b bl page out. at_other ws a b x al bl (λ e. out home.0 home.1 (subst (Inside home.0) (sym e) home.2));
    fields = λ m b ml live lt bl n n'. at_other ws a (m + b) x al (omega arith) (λ e. o.0 m ml live (omega arith) (omega arith));
    lows = λ m i ml live le old.
        ⊎_elim
        (λ (e : header (group_at ws m) i ≡ a). ap (λ y. cell (set ws (a / 4) x) y % 256) e ∙ ap (λ (y : ℕ). y % 256) (index_same ws (a / 4) x long) ∙ low m i ml live le e)
        (λ (n : header (group_at ws m) i ≢ a). ap (λ (y : ℕ). y % 256) (at_other ws a (header (group_at ws m) i) x al (header_al m i ml live) n) ∙ old)
        (cases_eq (header (group_at ws m) i) a);
    heads = λ r b n is bl h. at_other ws a (r.addr + b) x al (let q = (words.in_space r n).whole in omega arith) (o.3 r b n is h);
  }
    where
      tags : (m : ℕ) → m % 4 ≡ 0 → tag (set ws (a / 4) x) m ≡ tag ws m
      tags m ml =
          ⊎_elim
          (λ (e : m + 24 ≡ a). let new : cell (set ws (a / 4) x) (m + 24) ≡ x = ap (cell (set ws (a / 4) x)) e ∙ index_same ws (a / 4) x long in let old : cell ws (m + 24) ≡ cell ws a = ap (cell ws) e in let lw = o.2 in omega arith)
          (λ (n : m + 24 ≢ a). ap (λ (y : ℕ). y / 4294967296) (at_other ws a (m + 24) x al (omega arith) n))
          (cases_eq (m + 24) a)

  pub meta_below : (m c : ℕ) → InArea d m → c < 40 → (m + c) / 4 < length ws
  meta_below m c r lt = index_below r.run (m + c) r.noted (let p = r.place in let o = r.page in let b = r.below in (omega arith, omega arith))

  -- a step on one of the masks of a live group
  pub same_mask : (m c x : ℕ) → m % 4 ≡ 0 → 0 < tag ws m → ((c ≡ 24) × (x / 4294967296 ≡ tag ws m)) ⊎ ((c ≡ 28) × (x < 4294967296)) → Same ws (set ws ((m + c) / 4) x) d
  same_mask m c x ml live kind =
      let area = laid_area m ml live in
      let al : (m + c) % 4 ≡ 0 = ⊎_elim (λ (k : (c ≡ 24) × (x / 4294967296 ≡ tag ws m)). let e = k.0 in omega arith) (λ (k : (c ≡ 28) × (x < 4294967296)). let e = k.0 in omega arith) kind in
      let small : c < 40 = ⊎_elim (λ (k : (c ≡ 24) × (x / 4294967296 ≡ tag ws m)). let e = k.0 in omega arith) (λ (k : (c ≡ 28) × (x < 4294967296)). let e = k.0 in omega arith) kind in
      let long = meta_below m c area small in
      let field : (n b : ℕ) → n % 4 ≡ 0 → 0 < tag ws n → b < 40 → b % 4 ≡ 0 → b ≢ c → cell (set ws ((m + c) / 4) x) (n + b) ≡ cell ws (n + b) =
      λ n b nl liven lt bl ne. at_other ws (m + c) (n + b) x al (omega arith) (λ e. ne (metas_apart key ws d words nested n m b c (laid_area n nl liven) area lt small e).1) in
      let ne16 : 16 ≢ c = λ e. ⊎_elim (λ (k : (c ≡ 24) × (x / 4294967296 ≡ tag ws m)). let f = k.0 in omega arith) (λ (k : (c ≡ 28) × (x < 4294967296)). let f = k.0 in omega arith) kind in
      let ne32 : 32 ≢ c = λ e. ⊎_elim (λ (k : (c ≡ 24) × (x / 4294967296 ≡ tag ws m)). let f = k.0 in omega arith) (λ (k : (c ≡ 28) × (x < 4294967296)). let f = k.0 in omega arith) kind in
      let off : (n b : ℕ) → n % 4 ≡ 0 → 0 < tag ws n → b < 8 → cell ws (n + 16) + b ≢ m + c =
      λ n b nl liven lt e. off_areas key ws d words nested (cell ws (n + 16) + b) m (base_in_run n b nl liven lt) area (omega arith) (omega arith) in
      let tags = mask_tags m c x ml live kind area long al in
      record {
        size = length-set ws ((m + c) / 4) x;
        tags = tags;
        groups = λ n nl liven. λ t. record {
          meta = n;
          base = field n 16 nl liven (omega arith) (omega arith) ne16 t;
          tag = tags n nl t;
          last = field n 32 nl liven (omega arith) (omega arith) ne32 t % 32;
          maplen = field n 32 nl liven (omega arith) (omega arith) ne32 t / 4096;
        };
        bases = λ n nl liven.
            let g = (words.groups n nl liven).whole in
            (at_other ws (m + c) (cell ws (n + 16)) x al (omega arith) (λ e. off n 0 nl liven (omega arith) (omega arith)), at_other ws (m + c) (cell ws (n + 16) + 4) x al (omega arith) (off n 4 nl liven (omega arith)));
        upper = upper_set d ws ((m + c) / 4) x words.upper
            (⊎_elim (λ (k : (c ≡ 24) × (x / 4294967296 ≡ tag ws m)). let f = k.0 in inr (record { meta = m; whole = ml; in_area = area; place = omega arith })) (λ (k : (c ≡ 28) × (x < 4294967296)). inl k.1) kind) long;
        outside = λ b bl page out. at_other ws (m + c) b x al bl (λ e. out area.run area.noted (let p = area.place in let o = area.page in let q = area.below in (omega arith, omega arith)));
        fields = λ n b nl liven lt bl n24 n28. field n b nl liven lt bl (λ e. ⊎_elim (λ (k : (c ≡ 24) × (x / 4294967296 ≡ tag ws m)). n24 (e ∙ k.0)) (λ (k : (c ≡ 28) × (x < 4294967296)). n28 (e ∙ k.0)) kind);
        lows = λ n i nl liven le old.
            ap (λ (y : ℕ). y % 256) (at_other ws (m + c) (header (group_at ws n) i) x al (header_al n i nl liven) (λ e. off_areas key ws d words nested (header (group_at ws n) i) m (header_run n i nl liven le) area (omega arith) (omega arith))) ∙ old;
        heads = λ r b n is bl h. at_other ws (m + c) (r.addr + b) x al (let q = (words.in_space r n).whole in omega arith) (meta_head (m + c) m area (omega arith) (omega arith) r b n is h);
      }
    where
      mask_tags : (m c x : ℕ) → m % 4 ≡ 0 → 0 < tag ws m → ((c ≡ 24) × (x / 4294967296 ≡ tag ws m)) ⊎ ((c ≡ 28) × (x < 4294967296)) → InArea d m → (m + c) / 4 < length ws → (m + c) % 4 ≡ 0 → (n : ℕ) → n % 4 ≡ 0 → tag (set ws ((m + c) / 4) x) n ≡ tag ws n
      mask_tags m c x ml live kind area long al n nl =
          ⊎_elim
          (λ (e : n + 24 ≡ m + c).
          let new : cell (set ws ((m + c) / 4) x) (n + 24) ≡ x = ap (cell (set ws ((m + c) / 4) x)) e ∙ index_same ws ((m + c) / 4) x long in
          ⊎_elim
          (λ (k : (c ≡ 24) × (x / 4294967296 ≡ tag ws m)).
          let f = k.0 in let t = k.1 in let same : n ≡ m = omega arith in
          ap (λ (y : ℕ). y / 4294967296) new ∙ t ∙ ap (tag ws) (sym same))
          (λ (k : (c ≡ 28) × (x < 4294967296)).
          let f = k.0 in let fits = k.1 in
          ⊎_elim
          (λ (l : 0 < tag ws n). absurd (let p = (metas_apart key ws d words nested n m 24 c (laid_area n nl l) area (omega arith) (omega arith) e).1 in omega arith))
          (λ (l : tag ws n ≤ 0). let z : x / 4294967296 ≡ 0 = omega arith in ap (λ (y : ℕ). y / 4294967296) new ∙ z ∙ (let y : ℕ = tag ws n in omega arith))
          (cases_lt 0 (tag ws n)))
          kind)
          (λ (ne : n + 24 ≢ m + c). ap (λ (y : ℕ). y / 4294967296) (at_other ws (m + c) (n + 24) x al (omega arith) ne))
          (cases_eq (n + 24) (m + c))

  -- a free cell is no cell of a live meta
  pub free_meta : (m c x a : ℕ) → m % 4 ≡ 0 → 0 < tag ws m → c < 40 → c % 4 ≡ 0 → IsFree ws d a → cell (set ws ((m + c) / 4) x) a ≡ cell ws a
  free_meta m c x a ml live lc cl f =
      at_other ws (m + c) a x (omega arith) f.0 (λ e.
      ⊎_elim
      (λ (y : IsOfFreeRun ws d a).
      off_areas key ws d words nested a m (y.run, y.noted, y.plain, y.inside) (laid_area m ml live) (omega arith) (omega arith))
      (λ (y : IsOfFreeMeta ws d a).
      let n = y.meta in let l = y.from in let h = y.below in
      let b : ℕ = a - n in let e' : n + (a - n) ≡ m + c = omega arith in
      let q = (metas_apart key ws d words nested n m (a - n) c y.in_area (laid_area m ml live) (omega arith) lc e').0 in
      let z : tag ws m ≡ 0 = ap (tag ws) (sym q) ∙ y.free in omega arith)
      f.1)

  -- nor a slot's own
  pub free_not_own : (a : ℕ) (p : Place) → IsSlot ws p → Owns p a → IsFree ws d a → ⊥
  free_not_own a p i o f =
      ⊎_elim
      (λ (y : IsOfFreeRun ws d a).
      let t = own_top key ws d words nested a p i o in
      let r = words.apart t.3.run y.run a t.3.noted y.noted t.4 y.inside in
      y.free t.0 t.1 t.2 (sym t.3.begins ∙ ap (λ (z : Run). z.addr) r))
      (λ (y : IsOfFreeMeta ws d a). off_areas key ws d words nested a y.meta (own_in_run key ws d words nested a p i o) y.in_area y.from y.below)
      f.1

  pub free_own : (a x b : ℕ) (p : Place) → IsSlot ws p → Owns p a → a % 4 ≡ 0 → IsFree ws d b → cell (set ws (a / 4) x) b ≡ cell ws b
  free_own a x b p i o al f = at_other ws a b x al f.0 (λ e. free_not_own b p i (subst (Owns p) (sym e) o) f)
