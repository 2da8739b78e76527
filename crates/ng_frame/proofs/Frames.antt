-- The frame that a put leaves.
use Rattle.std.proofs.Common.{◌≡◌, ◌≢◌, ◌⊎◌, ℕ, ◌+◌, ◌-◌, ◌*◌, ◌/◌, ◌%◌, ◌<◌, ◌≤◌, refl, sym, ap, ◌∙◌, subst, inl, inr, arith}
use Rattle.std.specs.Prelude.{Some, max}
use Rattle.ng_rule.proofs.geometry.Lists.{find_among, find_edit}
use Rattle.ng_header.specs.Bytes.{byte_of}
use Rattle.ng_header.specs.Cycle.{cycle_of}
use Rattle.ng_rule.proofs.hand.Load.{still_knows}
use Rattle.ng_terms.specs.Heap.{extent}
use Rattle.ng_view.specs.Blocks.{Knows}
use Rattle.ng_view.specs.Frame.{IsGiven, IsShift, IsTrailer, KnowsByte, field_of, slack_of}
use Rattle.ng_view.specs.Lists.{edit, find}
use Rattle.ng_view.specs.Places.{slot_end, slot_start}
use Rattle.ng_view.specs.Steps.{given, learnt, loaded, stored, with_block, wrote}
use Rattle.ng_view.specs.Tells.{Tells}
use Rattle.ng_view.specs.declared.view.Held.{Held}
use Rattle.ng_view.specs.declared.view.Place.{Place}
use Rattle.ng_view.specs.declared.view.Start.{Start}
use Rattle.ng_view.specs.declared.view.View.{View}
use Rattle.ng_space.specs.Blocks.{HasFramed, IsReady, OfSlot, offset_in}
use Rattle.ng_space.specs.Callers.{Caller}
use Rattle.ng_space.specs.Tokens.{HasSlot, LiesAt, Token}
use Rattle.ng_space.proofs.Holding.{find-loaded}
use Rattle.ng_space.specs.Leaving.{KeepsCells, Leaves, LiesStill, Stays}
use Rattle.ng_frame.specs.Puts.{IsNarrowOrFirst, IsPlace, IsWhole, KnowsWide, asked_for, place_of, put_at}
use Rattle.ng_frame.proofs.Bytes.{byte_made, zero_kept}
use Rattle.ng_frame.proofs.Places.{multiple_bounds}
use Rattle.ng_space.proofs.Leaving.{stays_loaded, stays_stored, stays_then}
use Rattle.ng_space.proofs.LeavingFrames.{all_leaves, leaves_loaded, leaves_stored, leaves_then}

-- what holds of the slot that is found
pub of_found : (hand : Caller) (slot : Token) (h : Held) (P : Held → Type 0) → find slot.meta slot.index hand.view.held ≡ Some h → P h → OfSlot hand slot P
of_found hand slot h P found p k e = let q : h ≡ k = cc in subst P q p

-- the slot lies where the token says
pub lies : (hand : Caller) (slot : Token) → HasSlot hand slot → OfSlot hand slot (λ h. LiesAt h.place slot)
lies hand slot has = of_found hand slot has.held (λ h. LiesAt h.place slot) has.found has.place

-- ---- one byte is made 0: its cell is loaded, and stored without it
module _ (old mid new : Caller) (slot : Token) (has : HasSlot old slot) (at word cell : ℕ) (loads : mid.view ≡ loaded old.view (4 * (at / 4)) word) (stores : new.view ≡ stored mid.view slot.meta slot.index (4 * (at / 4)) cell) (still : HasSlot mid slot) where
  abbrev a : ℕ
  a = 4 * (at / 4)

  found : find slot.meta slot.index new.view.held ≡ Some (wrote a cell (learnt a word has.held))
  found = ap (λ (u : View). find slot.meta slot.index u.held) stores ∙ find_edit slot.meta slot.index (wrote a cell) mid.view.held (learnt a word has.held) (λ y. refl) (ap (λ (u : View). find slot.meta slot.index u.held) loads ∙ find-loaded old.view a word slot.meta slot.index has.held has.found)

  pub cleared_zero : byte_of cell (at % 4) ≡ 0 → OfSlot new slot (KnowsByte at 0)
  cleared_zero zero_byte = of_found new slot (wrote a cell (learnt a word has.held)) (KnowsByte at 0) found (byte_made (learnt a word has.held) at cell 0 zero_byte)

  pub cleared_zeros : (key : Start) → Tells key old.view a word → byte_of cell (at % 4) ≡ 0 → ((b : ℕ) → b < 4 → b ≢ at % 4 → byte_of cell b ≡ byte_of (word % 4294967296) b) → (y : ℕ) → OfSlot old slot (KnowsByte y 0) → OfSlot new slot (KnowsByte y 0)
  cleared_zeros key told zero_byte others y known =
      let t = told.slots has.held (find_among slot.meta slot.index old.view.held has.held has.found).0 in
      of_found new slot (wrote a cell (learnt a word has.held)) (KnowsByte y 0) found (zero_kept has.held at word cell y t.known zero_byte others (known has.held has.found))

  pub cleared_own : Stays slot.meta slot.index old.view new.view (KeepsCells (λ b. b ≢ a))
  cleared_own = stays_then (λ b. Unit {0}) (λ b. b ≢ a) (λ b. b ≢ a) slot.meta slot.index old.view mid.view new.view (λ b ne. (tt, ne)) (stays_loaded old.view mid.view a word slot.meta slot.index loads) (stays_stored mid.view new.view slot.meta slot.index a cell stores)

  pub cleared_leaves : Leaves slot old.view new.view
  cleared_leaves =
      leaves_then slot old.view mid.view new.view (all_leaves slot old.view mid.view (leaves_loaded old.view mid.view a word loads))
      (leaves_stored mid new slot a cell still stores)

-- ---- a store in the slot
module _ (old new : Caller) (slot : Token) (h : Held) (found : find slot.meta slot.index old.view.held ≡ Some h) (a x : ℕ) (stores : new.view ≡ stored old.view slot.meta slot.index a x) where
  stored_found : find slot.meta slot.index new.view.held ≡ Some (wrote a x h)
  stored_found = ap (λ (u : View). find slot.meta slot.index u.held) stores ∙ find_edit slot.meta slot.index (wrote a x) old.view.held h (λ y. refl) found

  pub stored_knows : OfSlot new slot (Knows a x)
  stored_knows = of_found new slot (wrote a x h) (Knows a x) stored_found (inl refl)

  pub stored_byte : (y b : ℕ) → 4 * (y / 4) ≢ a → OfSlot old slot (KnowsByte y b) → OfSlot new slot (KnowsByte y b)
  stored_byte y b ne known =
      let k = known h found in
      of_found new slot (wrote a x h) (KnowsByte y b) stored_found (k.0, still_knows a x (4 * (y / 4)) k.0 h ne k.1, k.2)

  -- the mark at the slot's start
  pub marked : (p : ℕ) → LiesAt h.place slot → IsWhole slot → a ≡ slot.start - 4 → x ≡ 57344 + (p - slot.start) / 16 % 65536 * 65536 → OfSlot new slot (λ h. IsShift h p)
  marked p place is front value =
      let y = wrote a x h in
      let start : slot.start ≡ slot_start h.place = place.start in
      let some_front = is.front in
      let far : ℕ = (p - slot.start) / 16 % 65536 in
      let small : far < 65536 = omega arith in
      of_found new slot y (λ h. IsShift h p) stored_found (inr (a, x, (let e : a + 4 ≡ slot.start = omega arith in e ∙ start), inl refl, omega (arith, value), omega (arith, value), (let e : x / 65536 ≡ far = omega (arith, value, small) in e ∙ ap (λ s. (p - s) / 16 % 65536) start)))

-- a cell that a step keeps is known after it
pub knows_still : (old new : Caller) (slot : Token) (h : Held) (P : ℕ → Type 0) (a x : ℕ) → find slot.meta slot.index old.view.held ≡ Some h → Stays slot.meta slot.index old.view new.view (KeepsCells P) → P a → OfSlot old slot (Knows a x) → OfSlot new slot (Knows a x)
knows_still old new slot h P a x found stays p known =
    let k = stays h found in of_found new slot k.0 (Knows a x) k.1 (k.2.cells a x p (known h found))

-- ---- trailers
pub short_trailer : (hand : Caller) (slot : Token) (r e : ℕ) → e ≡ slot.end → 0 < r → r < 5 → OfSlot hand slot (λ h. LiesAt h.place slot) → OfSlot hand slot (KnowsByte (e - r) 0) → OfSlot hand slot (λ h. IsTrailer h r)
short_trailer hand slot r e is some_bytes few place zero h found =
    let end = is ∙ (place h found).end in inr (inl (some_bytes, few, subst (λ t. KnowsByte (t - r) 0 h) end (zero h found)))

pub long_trailer : (hand : Caller) (slot : Token) (r e : ℕ) → e ≡ slot.end → 4 < r → OfSlot hand slot (λ h. LiesAt h.place slot) → OfSlot hand slot (KnowsByte (e - r) 0) → OfSlot hand slot (Knows (e - 4) r) → OfSlot hand slot (KnowsByte (e - 5) 0) → OfSlot hand slot (λ h. IsTrailer h r)
long_trailer hand slot r e is many place zero number fifth h found =
    let end = is ∙ (place h found).end in
    inr (inr (many, subst (λ t. KnowsByte (t - r) 0 h) end (zero h found), subst (λ t. Knows (t - 4) r h) end (number h found), subst (λ t. KnowsByte (t - 5) 0 h) end (fifth h found)))

-- ---- what is known of a frame stays so while other cells are stored
pub shift_kept : (P : ℕ → Type 0) (h k : Held) (slot : Token) (p : ℕ) → ((a : ℕ) → a + 4 ≡ slot.start → P a) → LiesAt h.place slot → KeepsCells P h k → IsShift h p → IsShift k p
shift_kept P h k slot p kept place keeps (inl e) = inl (e ∙ ap slot_start (sym keeps.place))
shift_kept P h k slot p kept place keeps (inr s) =
    let start = place.start in let front = s.2 in let back : h.place ≡ k.place = sym keeps.place in
    inr (s.0, s.1, front ∙ ap slot_start back, keeps.cells s.0 s.1 (kept s.0 (omega arith)) s.3, s.4, s.5, s.6 ∙ ap (λ (q : Place). (p - slot_start q) / 16 % 65536) back)

trailer_kept : (P : ℕ → Type 0) (h k : Held) (slot : Token) (p r : ℕ) → ((a : ℕ) → p ≤ a → P a) → p % 16 ≡ 0 → p + r ≤ slot.end → slot.end % 16 ≡ 12 → LiesAt h.place slot → KeepsCells P h k → IsTrailer h r → IsTrailer k r
trailer_kept P h k slot p r kept whole within last place keeps trailer = subst (λ (q : Place). IsTrailer (record k { place = q }) r) (sym keeps.place) (here trailer)
  where
    e : ℕ
    e = slot_end h.place

    end : slot.end ≡ e
    end = place.end

    byte : (y : ℕ) → p ≤ y → KnowsByte y 0 h → KnowsByte y 0 k
    byte y from b = (b.0, keeps.cells (4 * (y / 4)) b.0 (kept (4 * (y / 4)) (omega (arith, whole))) b.1, b.2)

    here : IsTrailer h r → IsTrailer (record k { place = h.place }) r
    here (inl none) = inl none
    here (inr (inl few)) = inr (inl (few.0, few.1, byte (e - r) (omega (arith, end)) few.2))
    here (inr (inr many)) = let long = many.0 in inr (inr (long, byte (e - r) (omega (arith, end)) many.1, keeps.cells (e - 4) r (kept (e - 4) (omega (arith, end, long, whole, last))) many.2, byte (e - 5) (omega (arith, end, long)) many.3))

-- ---- wide offsets
-- where the distance to the start has 16 bits, so has the offset
pub never_wide : (slot : Token) (start p : ℕ) → start ≡ slot.start → IsNarrowOrFirst slot → slot.start ≤ p → p < slot.start + slot.room → ((p - start) / 16 < 65536) → 65536 ≤ offset_in slot p → ⊥
never_wide slot start p is (inl first) from roomy near far = omega (arith, is, first, from, near, far)
never_wide slot start p is (inr narrow) from roomy near far = omega (arith, narrow, roomy, far)

-- where it has more, the distance is the offset
pub widened : (hand : Caller) (slot : Token) (start p : ℕ) → start ≡ slot.start → IsNarrowOrFirst slot → slot.start ≤ p → p < slot.start + slot.room → 65536 ≤ (p - start) / 16 → OfSlot hand slot (Knows (p - 8) ((p - start) / 16)) → OfSlot hand slot (KnowsWide slot p)
widened hand slot start p is (inl first) from roomy far known h found wide =
    let same : (p - start) / 16 ≡ offset_in slot p = ap (λ s. (p - s) / 16) (is ∙ first) in (omega (arith, is, far), subst (λ o. Knows (p - 8) o h) same (known h found))
widened hand slot start p is (inr narrow) from roomy far known h found wide = absurd (omega (arith, narrow, roomy, wide))

-- the frame of a put: the mark, the trailer, and the wide offset
pub ready : (one two hand : Caller) (slot : Token) (n align p : ℕ) → IsWhole slot → IsPlace slot n align p
    → HasSlot one slot → OfSlot one slot (λ h. IsShift h p)
    → Stays slot.meta slot.index one.view two.view (KeepsCells (λ a. a < slot.start)) → HasSlot two slot → OfSlot two slot (λ h. IsTrailer h ((slot.end - p) - n))
    → Stays slot.meta slot.index two.view hand.view (KeepsCells (λ a. (a < slot.start) ⊎ (p ≤ a))) → OfSlot hand slot (KnowsWide slot p) → OfSlot hand slot (IsReady slot p n)
ready one two hand slot n align p is place first shift trailing second trailer widening wide h found =
    let b = trailing first.held first.found in
    let c = widening second.held second.found in
    let same_two : b.0 ≡ second.held = cc in
    let same : c.0 ≡ h = cc in
    let within = place.within in
    let shift_two : IsShift second.held p = subst (λ y. IsShift y p) same_two (shift_kept (λ a. a < slot.start) first.held b.0 slot p (λ a e. omega (arith, e)) first.place b.2 (shift first.held first.found)) in
    record {
      whole = place.whole;
      from = place.from;
      roomy = place.roomy;
      within = place.within;
      wide = wide h found;
      trailer = subst (λ y. IsTrailer y ((slot.end - p) - n)) same (trailer_kept (λ a. (a < slot.start) ⊎ (p ≤ a)) second.held c.0 slot p ((slot.end - p) - n) (λ a le. inr le) place.whole (omega (arith, within)) is.end second.place c.2 (trailer second.held second.found));
      shift = subst (λ y. IsShift y p) same (shift_kept (λ a. (a < slot.start) ⊎ (p ≤ a)) second.held c.0 slot p (λ a e. inl (omega (arith, e))) second.place c.2 shift_two);
    }

-- ---- a put
-- the place is the first from the offset on that is a multiple of the align
pub given_by_cycle : (hand : Caller) (slot : Token) (o n align x counter : ℕ) → IsWhole slot → asked_for n align + 4 ≤ slot.room → o ≡ cycle_of (field_of x) ((slot.room - 4 - asked_for n align) / 16) counter → HasFramed hand (put_at slot n align o)
    → OfSlot hand slot (λ h. IsGiven h (place_of slot align o) n align x counter)
given_by_cycle hand slot o n align x counter is fits cycles has = of_found hand slot has.has.held (λ h. IsGiven h p n align x counter) has.has.found (record {
  fits = (let room = has.has.place.room in omega (arith, room, fits));
  framed = has.framed;
  put = subst (λ q. (p % unit ≡ 0) × (slot_start has.has.held.place + 16 * q ≤ p) × (p < slot_start has.has.held.place + 16 * q + unit)) same here;
})
  where
    unit : ℕ
    unit = max align 16

    p : ℕ
    p = place_of slot align o

    same : o ≡ cycle_of (field_of x) (slack_of has.has.held (asked_for n align)) counter
    same = let room = has.has.place.room in cycles ∙ (λ k. cycle_of (field_of x) ((room k - 4 - asked_for n align) / 16) counter)

    here : (p % unit ≡ 0) × (slot_start has.has.held.place + 16 * o ≤ p) × (p < slot_start has.has.held.place + 16 * o + unit)
    here = let start : slot.start ≡ slot_start has.has.held.place = has.has.place.start in let m = multiple_bounds (slot.start + 16 * o) unit (omega arith) in (m.0, subst (λ s. s + 16 * o ≤ p) start m.1, subst (λ s. p < s + 16 * o + unit) start m.2)

-- the slot of the block lies where it did
pub given_still : (v one two three w : View) (slot : Token) (P Q S : ℕ → Type 0) (p n a k x : ℕ) → Stays slot.meta slot.index v one (KeepsCells P)
    → Stays slot.meta slot.index one two (KeepsCells Q) → Stays slot.meta slot.index two three (KeepsCells S) → w ≡ given three slot.meta slot.index p n a k x
    → Stays slot.meta slot.index v w LiesStill
given_still v one two three w slot P Q S p n a k x mark trailer wide gives h found =
    let b = mark h found in
    let c = trailer b.0 b.1 in
    let d = wide c.0 c.1 in (
      with_block (Some (extent p n a)) (wrote (p - 4) x d.0),
      ap (λ (u : View). find slot.meta slot.index u.held) gives
          ∙ find_edit slot.meta slot.index (with_block (Some (extent p n a))) (edit slot.meta slot.index (wrote (p - 4) x) three.held) (wrote (p - 4) x d.0) (λ y. refl)
          (find_edit slot.meta slot.index (wrote (p - 4) x) three.held d.0 (λ y. refl) d.1),
      d.2.place ∙ c.2.place ∙ b.2.place,
    )
