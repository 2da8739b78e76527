-- The head of a group in a slot, and the headers of its slots, as they are written and cleared.
use Rattle.std.proofs.Common.{◌≡◌, ◌≢◌, ◌⊎◌, ℕ, ◌+◌, ◌-◌, ◌*◌, ◌/◌, ◌%◌, ◌^◌, ◌<◌, ◌≤◌, length, refl, sym, ap, ◌∙◌, subst, ⊎_elim, inl, inr, mul-le-mul_left, arith}
use Rattle.std.proofs.lemmas.Bool.{cases_eq, cases_lt}
use Rattle.ng_class.specs.Class.{IsLeastClass, unit_table, units_of}
use Rattle.ng_class.specs.Slot.{stride_of}
use Rattle.ng_class.proofs.Classes.{units_of_rises}
use Rattle.ng_class.proofs.Slots.{stride_of_least, stride_of_several}
use Rattle.ng_header.specs.Header.{IsInRange, cell_with}
use Rattle.ng_header.specs.declared.header.Ib.{Ib}
use Rattle.ng_rule.proofs.geometry.Strides.{times_whole}
use Rattle.ng_rule.proofs.geometry.Lists.{find_among, is_at-true}
use Rattle.ng_view.specs.Places.{IsClass, size_of, stride}
use Rattle.ng_view.specs.declared.view.Group.{Group}
use Rattle.ng_view.specs.declared.view.View.{View}
use Rattle.ng_view.specs.Stores.{FitsMotion, Stores}
use Rattle.ng_build.specs.Drafts.{draft_group}
use Rattle.ng_build.specs.Nestings.{AreHeadersLow, HasCarrier, HasHead, OnlySlot, SeesIn, StoresBefore, recalling}
use Rattle.ng_build.specs.declared.draft.Draft.{Draft}
use Rattle.ng_build.specs.declared.nesting.Carrier.{Carrier}
use Rattle.ng_build.specs.Written.{HasHeaders, KeepsIn}
use Rattle.ng_build.proofs.Storing.{stores_both, stores_none, stores_one}
use Rattle.ng_build.proofs.Slots.{HasSlotAt, Writes, slot_after, slot_both, slot_fits, slot_found, slot_none, slot_writes}

pub carrier_at : (v : View) (c : Carrier) (g : Group) → HasCarrier v c g → HasSlotAt v c.meta c.index g.base c.stride
carrier_at v c g has = record { slot = has.slot; found = has.found; begins = has.begins; step = has.step }

pub head_at : (v : View) (m i base : ℕ) (has : HasHead v m i base) → HasSlotAt v m i base (stride has.slot.place.group)
head_at v m i base has = record { slot = has.slot; found = has.found; begins = has.begins; step = refl }

pub carrier_after : (v w : View) (c : Carrier) (g : Group) → HasCarrier v c g → OnlySlot v c.meta c.index w → HasCarrier w c g
carrier_after v w c g has o = record {
  slot = recalling o.cells has.slot;
  found = slot_found v w c.meta c.index has.slot has.found o;
  storage = has.storage;
  step = has.step;
  within = has.within;
  few = has.few;
  begins = has.begins;
  nested = has.nested;
  fits = has.fits;
  lower = has.lower;
}

-- ---- the three cells at a group's base become these
module _ (v : View) (m i base room : ℕ) (has : HasSlotAt v m i base room) (whole : base % 16 ≡ 0) (roomy : 16 ≤ room) where
  pub head_fits : (k x : ℕ) → k < 12 → k % 4 ≡ 0 → FitsMotion v (base + k) x
  head_fits k x lt al = slot_fits v m i base room has (base + k) (omega arith) (omega arith) (omega arith) x (λ e. absurd (omega arith))

  pub base_fits : (x : ℕ) → FitsMotion v base x
  base_fits x = slot_fits v m i base room has base (omega arith) (omega arith) (omega arith) x (λ e. absurd (omega arith))

  module _ (w1 w2 w3 : View) (x y z : ℕ) (s1 : Stores v base x w1) where
    p1 : Writes v m i base x w1
    p1 = slot_writes v m i base room has base (omega arith) (omega arith) (omega arith) w1 x s1

    pub head_1 : HasSlotAt w1 m i base room
    head_1 = slot_after v w1 m i base room has p1.only

    module _ (s2 : Stores w1 (base + 4) y w2) where
      p2 : Writes w1 m i (base + 4) y w2
      p2 = slot_writes w1 m i base room head_1 (base + 4) (omega arith) (omega arith) (omega arith) w2 y s2

      pub head_2 : HasSlotAt w2 m i base room
      head_2 = slot_after w1 w2 m i base room head_1 p2.only

      module _ (s3 : Stores w2 (base + 8) z w3) where
        p3 : Writes w2 m i (base + 8) z w3
        p3 = slot_writes w2 m i base room head_2 (base + 8) (omega arith) (omega arith) (omega arith) w3 z s3

        pub head_only : OnlySlot v m i w3
        head_only = slot_both v w2 w3 m i (slot_both v w1 w2 m i p1.only p2.only) p3.only

        pub head_stores : (to : ℕ) → (base < to) ⊎ (x ≡ 0) → (base + 4 < to) ⊎ (y ≡ 0) → (base + 8 < to) ⊎ (z ≡ 0) → StoresBefore v w3 to
        head_stores to b1 b2 b3 = stores_both v w2 w3 to
            (stores_both v w1 w2 to (stores_one v w1 to (record { at = base; value = x; behind = length v.readings }) p1.noted b1) (stores_one w1 w2 to (record { at = base + 4; value = y; behind = length w1.readings }) p2.noted b2))
            (stores_one w2 w3 to (record { at = base + 8; value = z; behind = length w2.readings }) p3.noted b3)

        pub head_base : SeesIn w3 m i base x
        head_base = p3.kept base x (λ q. omega arith) (p2.kept base x (λ q. omega arith) p1.here)

        pub head_high : SeesIn w3 m i (base + 4) y
        head_high = p3.kept (base + 4) y (λ q. omega arith) p2.here

        pub head_active : SeesIn w3 m i (base + 8) z
        head_active = p3.here

        -- what is known in front of them still is
        pub head_front : (a n : ℕ) → a < base → SeesIn v m i a n → SeesIn w3 m i a n
        head_front a n below s = p3.kept a n (λ q. omega arith) (p2.kept a n (λ q. omega arith) (p1.kept a n (λ q. omega arith) s))

-- ---- the header of the carrier
units_24 : units_of 24 ≡ 146
unfolding unit_table
units_24 = refl

-- a class that is the least for a nested group has at most 146 units
few_units : (n class : ℕ) → n ≤ 2044 → IsLeastClass n class → units_of class ≤ 146
few_units n class small is =
    let limit : units_of 24 ≡ 146 = units_24 in
    ⊎_elim
    (λ (l : class < 24). let r = units_of_rises class 24 l (omega arith) in omega arith)
    (λ (l : 24 ≤ class). ⊎_elim
    (λ (e : class ≡ 24). let same : units_of class ≡ units_of 24 = ap units_of e in omega arith)
    (λ (ne : class ≢ 24). absurd (let r = is.least 24 (omega arith) in omega arith))
    (cases_eq class 24))
    (cases_lt class 24)

-- and so the slots of a group of such a class are near its first
near : (p : Group) (i n : ℕ) → i ≤ p.last → p.last < 32 → n ≤ 2044 → IsClass p.tag n → stride p * i < 1048576
unfolding stride
near p i n within few small is = ⊎_elim
    (λ (some : 0 < p.last).
    let class : ℕ = is.1 in
    let e : stride p ≡ 16 * units_of (p.tag - 1) = stride_of_several (p.tag - 1) p.last p.maplen some in
    let same : units_of (p.tag - 1) ≡ units_of class = ap units_of (let t : p.tag ≡ class + 1 = is.2 in let q : p.tag - 1 ≡ class = omega arith in q) in
    let u = few_units n class small is.3 in
    let m : stride p * i ≤ stride p * 31 = mul-le-mul_left (stride p) (let l : i ≤ 31 = omega arith in l) in
    omega arith)
    (λ (none : p.last ≤ 0). let z : stride p * i ≡ stride p * 0 = ap (λ k. stride p * k) (let q : i ≡ 0 = omega arith in q) in omega arith)
    (cases_lt 0 p.last)

module _ (v : View) (c : Carrier) (g : Group) (has : HasCarrier v c g) where
  index : has.slot.place.index ≡ c.index
  index = (is_at-true c.meta c.index has.slot.place (find_among c.meta c.index v.held has.slot has.found).1).1

  at : g.base ≡ c.storage + stride has.slot.place.group * has.slot.place.index
  at =
      let b : g.base ≡ has.slot.place.group.base + 16 + stride has.slot.place.group * has.slot.place.index = has.begins in
      let s = has.storage in
      omega arith

  pub offset_low : (g.base - c.storage) / 16 < 2 ^ 16
  offset_low =
      let e = at in
      let n = near has.slot.place.group has.slot.place.index (size_of g + 12) has.within has.few (let s = has.nested.small in omega arith) has.nested.parent in
      let p : 2 ^ 16 ≡ 65536 = refl in
      omega arith

  pub in_range : (ib : Ib) → ib.index ≡ c.index → ib.reserved ≡ 6 → ib.offset ≡ (g.base - c.storage) / 16 → IsInRange ib
  in_range ib same reserved offset = record {
    index = (let w = has.within in let f = has.few in let i = index in omega arith);
    reserved = omega arith;
    offset = subst (λ n. n < 2 ^ 16) (sym offset) offset_low;
  }

  -- the carrier has room for the group's head and its first slot
  pub roomy : 0 < stride g → 16 < c.stride
  roomy some =
      let one : stride g * 1 ≤ stride g * (g.last + 1) = mul-le-mul_left (stride g) (let l : 1 ≤ g.last + 1 = omega arith in l) in
      let f = has.fits in let s = has.step in omega arith

  pub carrier_base : 16 ≤ g.base
  carrier_base = let e = at in let s = has.storage in omega arith

pub least_stride : (d : Draft) → d.class < 48 → 16 ≤ stride (draft_group d)
unfolding stride
least_stride d low = stride_of_least (d.class + 1 - 1) d.last d.maplen (inl (omega arith))

pub carrier_roomy : (v : View) (c : Carrier) (d : Draft) → HasCarrier v c (draft_group d) → 16 < c.stride
carrier_roomy v c d has = let low : d.class + 1 < 49 = has.nested.low in let s = least_stride d (omega arith) in roomy v c (draft_group d) has (omega arith)

low_byte : (ib : Ib) → ib.check ≡ 0 → cell_with ib % 256 ≡ 0
low_byte ib none = let p : 256 ^ 2 ≡ 65536 = refl in omega arith

pub header_fits : (v : View) (c : Carrier) (g : Group) (ib : Ib) (x : ℕ) → HasCarrier v c g → g.base % 16 ≡ 0 → ib.check ≡ 0 → x ≡ cell_with ib → 0 < c.stride → FitsMotion v (g.base - 4) x
header_fits v c g ib x has whole none is some =
    let b = carrier_base v c g has in
    slot_fits v c.meta c.index g.base c.stride (carrier_at v c g has) (g.base - 4) (omega arith) (omega arith) (omega arith) x (λ e. let l = low_byte ib none in omega arith)

pub header_writes : (v w : View) (c : Carrier) (g : Group) (x : ℕ) → HasCarrier v c g → g.base % 16 ≡ 0 → 0 < c.stride → Stores v (g.base - 4) x w → Writes v c.meta c.index (g.base - 4) x w
header_writes v w c g x has whole some told =
    let b = carrier_base v c g has in
    slot_writes v c.meta c.index g.base c.stride (carrier_at v c g has) (g.base - 4) (omega arith) (omega arith) (omega arith) w x told

-- ---- the headers of the group's slots
pub step_is : (d : Draft) (s : ℕ) → d.maplen ≡ 0 → s ≡ stride_of d.class d.last 0 → s ≡ stride (draft_group d)
unfolding stride
step_is d s none e = e ∙ ap (λ n. stride_of d.class d.last n) (sym none) ∙ ap (λ n. stride_of n d.last d.maplen) (let q : d.class ≡ d.class + 1 - 1 = omega arith in q)

pub headers_fit : (v : View) (c : Carrier) (d : Draft) (s : ℕ) → HasCarrier v c (draft_group d) → s ≡ stride_of d.class d.last 0 → 16 + s * (d.last + 1) ≤ c.stride
headers_fit v c d s has e =
    let same : s ≡ stride (draft_group d) = step_is d s has.nested.unmapped e in
    let t : s * (d.last + 1) ≡ stride (draft_group d) * (d.last + 1) = ap (λ n. n * (d.last + 1)) same in
    let f : 16 + stride (draft_group d) * (d.last + 1) ≤ stride has.slot.place.group = has.fits in
    let r = has.step in
    omega arith

one_step : (s j : ℕ) → s * (j + 1) ≡ s * j + s
one_step s j = grind arith

-- these headers are known to be 0
pub record WritesHeaders (v : View) (m i base step k : ℕ) (w : View) : Type 0 where
  pub only : OnlySlot v m i w
  pub lows : (j : ℕ) → j < k → SeesIn w m i (base + 12 + step * j) 0
  pub kept : KeepsIn v w m i (base + 12)
  pub stores : StoresBefore v w (base + 12)

pub no_headers : (v : View) (m i base step room : ℕ) → HasSlotAt v m i base room → WritesHeaders v m i base step 0 v
no_headers v m i base step room has = record { only = slot_none v m i has.slot has.found; lows = λ j lt. absurd (omega arith); kept = λ a x lt s. s; stores = stores_none v v (base + 12) refl }

module _ (v w : View) (m i base step room last count k : ℕ) (has : HasSlotAt v m i base room) (whole : base % 16 ≡ 0) (aligned : step % 16 ≡ 0) (least : 16 ≤ step) (headers : HasHeaders step last room count) (less : k < count) (done : WritesHeaders v m i base step k w) where
  still : HasSlotAt w m i base room
  still = slot_after v w m i base room has done.only

  pub next_whole : (base + 12 + step * k) % 4 ≡ 0
  next_whole = let t = times_whole step k aligned in omega arith

  pub next_below : base + 12 + step * k + 4 < base + room
  next_below = let o = headers.own k less in omega arith

  pub next_fits : FitsMotion w (base + 12 + step * k) 0
  next_fits = slot_fits w m i base room still (base + 12 + step * k) next_whole (omega arith) next_below 0 (λ e. refl)

  module _ (u : View) (told : Stores w (base + 12 + step * k) 0 u) where
    p : Writes w m i (base + 12 + step * k) 0 u
    p = slot_writes w m i base room still (base + 12 + step * k) next_whole (omega arith) next_below u 0 told

    pub one_header : WritesHeaders v m i base step (k + 1) u
    one_header = record {
      only = slot_both v w u m i done.only p.only;
      lows = λ j lt. ⊎_elim
          (λ (e : j ≡ k). subst (λ n. SeesIn u m i (base + 12 + step * n) 0) (sym e) p.here)
          (λ (ne : j ≢ k).
          let earlier : j < k = ⊎_elim (λ (l : j < k). l) (λ (l : k ≤ j). absurd (ne (omega arith))) (cases_lt j k) in
          let before : j + 1 ≤ k = omega arith in
          let m1 : step * (j + 1) ≤ step * k = mul-le-mul_left step before in
          let m2 : step * (j + 1) ≡ step * j + step = one_step step j in
          p.kept (base + 12 + step * j) 0 (λ q. omega arith) (done.lows j earlier))
          (cases_eq j k);
      kept = λ b x lt s. p.kept b x (λ q. omega arith) (done.kept b x lt s);
      stores = stores_both v w u (base + 12) done.stores (stores_one w u (base + 12) (record { at = base + 12 + step * k; value = 0; behind = length w.readings }) p.noted (inr refl));
    }

pub headers_low : (v w : View) (m i room count k : ℕ) (d : Draft) (step : ℕ) → step ≡ stride (draft_group d) → HasHeaders step d.last room count → count ≤ k → WritesHeaders v m i d.base step k w → AreHeadersLow w m i (draft_group d) room
headers_low v w m i room count k d step is headers all done j le = ⊎_elim
    (λ (l : j < count). inl (subst (λ s. SeesIn w m i (d.base + 12 + s * j) 0) is (done.lows j (omega arith))))
    (λ (e : 16 + step * j ≡ room). inr (subst (λ s. 16 + s * j ≡ room) is e))
    (headers.all j le)

-- ---- the carrier once its header is written
module _ (v w : View) (c : Carrier) (d : Draft) (x : ℕ) (has : HasCarrier v c (draft_group d)) (whole : d.base % 16 ≡ 0) (told : Stores v (d.base - 4) x w) where
  header_written : Writes v c.meta c.index (d.base - 4) x w
  header_written = let room = carrier_roomy v c d has in header_writes v w c (draft_group d) x has whole (omega arith) told

  pub header_only : OnlySlot v c.meta c.index w
  header_only = header_written.only

  pub header_stores : StoresBefore v w (d.base + 12)
  header_stores = stores_one v w (d.base + 12) (record { at = d.base - 4; value = x; behind = length v.readings }) header_written.noted (inl (omega arith))

  pub header_seen : SeesIn w c.meta c.index (d.base - 4) x
  header_seen = header_written.here

  pub headed : HasSlotAt w c.meta c.index d.base c.stride
  headed = slot_after v w c.meta c.index d.base c.stride (carrier_at v c (draft_group d) has) header_written.only
