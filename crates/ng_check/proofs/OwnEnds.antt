-- The end of a block's own slot, and what the hand is sure of round it.
use Rattle.std.proofs.Common.{◌≡◌, ◌≢◌, ⊎_elim, ℕ, zero, suc, ◌+◌, ◌-◌, ◌*◌, ◌/◌, ◌%◌, ◌^◌, ◌<◌, ◌≤◌, Bool, true, false, cond, ◌||◌, eq-eqb, ne_eqb, ltb-true, ltb-false, refl, sym, ap, ◌∙◌, subst, arith}
use Rattle.std.specs.Prelude.{Some, None, Result, Ok, Err, nat_lt}
use Rattle.std.specs.Option.{option_and_then}
use Rattle.std.proofs.lemmas.Bool.{cases_eq}
use Rattle.ng_class.specs.Slot.{end_at, start_at, stride_of}
use Rattle.ng_header.specs.Bytes.{byte_of}
use Rattle.ng_header.specs.Reading.{is_bad_reserved, reserved_by, reserved_in}
use Rattle.ng_header.specs.declared.reading.NominalFault.{NominalFault}
use Rattle.ng_header.specs.declared.reading.NominalFault.TheVariants as nominal
use Rattle.ng_view.specs.Places.{Owns, slot_end, slot_start, stride}
use Rattle.ng_view.specs.declared.view.Group.{Group}
use Rattle.ng_view.specs.declared.view.Held.{Held}
use Rattle.ng_view.specs.declared.view.Start.{Start}
use Rattle.ng_rule.proofs.geometry.Strides.{stride_whole, times_whole}
use Rattle.ng_space.proofs.Reading as reading
use Rattle.ng_frame.specs.Judging.{IsSure, IsSureByte}
use Rattle.ng_check.specs.Cells.{AreOnce}
use Rattle.ng_check.specs.Checks as checks
use Rattle.ng_check.specs.Queries as query
use Rattle.ng_check.specs.Queries.{Query, both, byte, cell, is_class}
use Rattle.ng_check.proofs.Loaded.{learnt_in_turn, sure_loaded}
use Rattle.ng_check.proofs.Options.{both_some, map_some, some_is, then_some}
use Rattle.ng_check.proofs.OwnCells.{IsOwn, above_page, inside, own_base, own_fields, own_index, owns, where_true}
use Rattle.ng_check.proofs.OwnTests.{Never}

-- ---- bytes of a word and of its low half
pub low_byte : (w b : ℕ) → b < 4 → byte_of (w % 4294967296) b ≡ byte_of w b
low_byte w zero lt = omega arith
low_byte w (suc zero) lt = omega arith
low_byte w (suc (suc zero)) lt = omega arith
low_byte w (suc (suc (suc zero))) lt = omega arith
low_byte w (suc (suc (suc (suc b)))) lt = absurd (omega arith)

-- ---- the reserved number
pub ok_is : {A B : Type 0} (x y : A) → ◌≡◌ {A = Result A B} (Ok x) (Ok y) → x ≡ y
ok_is x y e = cc

pub err_ok : {A B : Type 0} (x : B) (y : A) → ◌≡◌ {A = Result A B} (Err x) (Ok y) → ⊥
err_ok x y e = absurd (cc)

or_false : (a b : Bool) → (a || b) ≡ false → b ≡ false
or_false true b e = absurd (cc)
or_false false b e = e

pub within_gap : (f w x gap r : ℕ) → reserved_in f w x gap ≡ Ok r → r ≤ gap
within_gap f w x gap r e = by_test (is_bad_reserved f w x gap) refl e
  where
    by_test : (b : Bool) → is_bad_reserved f w x gap ≡ b → cond b (Err nominal.BadReserved) (Ok (reserved_by f w)) ≡ Ok r → r ≤ gap
    by_test true is e = absurd (err_ok nominal.BadReserved r e)
    by_test false is e = subst (λ n. n ≤ gap) (ok_is (reserved_by f w) r e) (ltb-false gap (reserved_by f w) (or_false _ _ is))

pub only_bad : (f w x gap : ℕ) (fault : NominalFault) → reserved_in f w x gap ≡ Err fault → fault ≡ nominal.BadReserved
only_bad f w x gap fault e = by_test (is_bad_reserved f w x gap) e
  where
    by_test : (b : Bool) → cond b (Err nominal.BadReserved) (Ok (reserved_by f w)) ≡ Err fault → fault ≡ nominal.BadReserved
    by_test true e = cc
    by_test false e = absurd (cc)

-- what the cells round a slot's end tell, of which the hand is sure
pub record IsFramedBy (k : Held) (at gap : ℕ) (res : Result ℕ NominalFault) : Type 0 where
  pub header : ℕ
  pub word : ℕ
  pub fifth : ℕ
  pub front : IsSure (at - 4) header k
  pub number : header / 8192 % 8 ≡ 5 → IsSure (at + gap - 4) word k × IsSureByte (at + gap - 5) fifth k
  pub told : res ≡ reserved_in (header / 8192 % 8) (word % 4294967296) fifth gap

module _ (key : Start) (h : Held) (q : Query) (own : IsOwn key h q) (once : AreOnce q.cells) where
  abbrev g : Group
  g = h.place.group

  abbrev i : ℕ
  i = h.place.index

  abbrev e : ℕ
  e = slot_end h.place

  abbrev gap : ℕ
  gap = e - q.addr

  abbrev k : Held
  k = learnt_in_turn h q.cells

  -- ---- the slot
  pub own_stride : (s : ℕ) → query.stride q ≡ Some s → s ≡ stride g
  unfolding query.stride
  own_stride s is =
      let f = then_some (λ f. cond (is_class f) (Some (stride_of f.class f.last f.maplen)) None) (query.fields q) s is in
      sym (where_true (is_class f.0) (stride_of f.0.class f.0.last f.0.maplen) s f.2) ∙ reading.stride_is h.place f.0 (own_fields key h q own f.0 f.1)

  pub own_start : (n : ℕ) → query.start q ≡ Some n → n ≡ slot_start h.place
  unfolding query.start
  own_start n is =
      let f = then_some (λ b. both (start_at (b + 16)) (query.stride q) (query.index q)) (query.base q) n is in
      let p = both_some (start_at (f.0 + 16)) (query.stride q) (query.index q) n f.2 in
      sym p.4 ∙ reading.start_is h.place f.0 p.1 p.0 (sym (own_base key h q own f.0 f.1)) (sym (own_index key h q own p.1 p.3)) (own_stride p.0 p.2)

  pub own_slot_end : (n : ℕ) → query.slot_end q ≡ Some n → n ≡ e
  unfolding query.slot_end
  own_slot_end n is =
      let f = then_some (λ b. both (end_at (b + 16)) (query.stride q) (query.index q)) (query.base q) n is in
      let p = both_some (end_at (f.0 + 16)) (query.stride q) (query.index q) n f.2 in
      sym p.4 ∙ reading.end_is h.place f.0 p.1 p.0 (sym (own_base key h q own f.0 f.1)) (sym (own_index key h q own p.1 p.3)) (own_stride p.0 p.2)

  pub own_end : (n : ℕ) → query.end q ≡ Some n → n ≡ e
  unfolding query.end
  own_end n is =
      let f = then_some (λ e. cond (nat_lt e (4096 * q.pages)) (Some e) None) (query.slot_end q) n is in
      sym (where_true (nat_lt f.0 (4096 * q.pages)) f.0 n f.2) ∙ own_slot_end f.0 f.1

  pub end_after : q.addr < e
  end_after = let first = own.first in omega (arith, first)

  pub end_inside : e < 4096 * q.pages
  end_inside = let a = inside key h q own in let same = own.pages in let b = above_page key h q own in let after = end_after in omega (arith, a, b, same, after)

  pub whole_end : e % 16 ≡ 12
  whole_end =
      let step = stride_whole g in let times = times_whole (stride g) i step in let base = own.lies.whole in let after = end_after in
      let s : ℕ = stride g in let t : ℕ = s * i in
      let first = own.first in omega (arith, step, times, base, first)

  pub ends : q.addr + gap ≡ e
  ends = let after = end_after in omega (arith, after)

  -- ---- of what the hand is sure
  sure : (a x : ℕ) → (is : cell q a ≡ Some x) → Owns h.place a → IsSure a (own.cells a x is).word k
  sure a x is o = let t = own.cells a x is in sure_loaded q.cells h a t.word once t.there o t.tells.known

  owns_behind : (a : ℕ) → q.addr ≤ a + 4 → a < e → Owns h.place a
  owns_behind a from below =
      let start = own.from in let first = own.first in owns key h q own a (omega (arith, start, from)) (omega (arith, below, first))

  pub sure_byte : (y b : ℕ) → byte q y ≡ Some b → q.addr ≤ y → y < e → IsSureByte y b k
  unfolding byte
  sure_byte y b is from below =
      let m = map_some (λ x. byte_of x (y % 4)) (cell q (4 * (y / 4))) b is in
      let t = own.cells (4 * (y / 4)) m.0 m.1 in (
        t.word,
        sure (4 * (y / 4)) m.0 m.1 (owns_behind (4 * (y / 4)) (omega (arith, from)) (omega (arith, below))),
        sym (low_byte t.word (y % 4) (omega arith)) ∙ ap (λ x. byte_of x (y % 4)) (sym t.low) ∙ m.2,
      )

  -- the fourteenth check never fails
  pub never_end_byte : Never (checks.end_byte q)
  unfolding checks.end_byte query.last byte
  never_end_byte failed =
      let f = map_some (nat_lt 0) (query.last q) true failed in
      let n = then_some (byte q) (query.end q) f.0 f.1 in
      let m = map_some (λ x. byte_of x (n.0 % 4)) (cell q (4 * (n.0 / 4))) f.0 n.2 in
      let t = own.cells (4 * (n.0 / 4)) m.0 m.1 in
      let same = own_end n.0 n.1 in let whole = whole_end in
      let first = own.first in
      let at : 4 * (n.0 / 4) + 4 ≡ slot_start h.place + stride g = omega (arith, same, whole, first) in
      let zero : t.word % 256 ≡ 0 = t.tells.end at in
      let place : n.0 % 4 ≡ 0 = omega (arith, same, whole) in
      let low = t.low in
      let is : f.0 ≡ m.0 % 256 = sym m.2 ∙ ap (byte_of m.0) place ∙ (let d : m.0 / 2 ^ (8 * 0) % 256 ≡ m.0 % 256 = omega arith in d) in
      let some_bits = ltb-true 0 f.0 f.2 in
      omega (arith, zero, low, is, some_bits)

  -- ---- the frame
  in_front : (x : ℕ) → (is : query.header q ≡ Some x) → (w : ℕ) × IsSure (q.addr - 4) w k × (x ≡ w % 4294967296)
  unfolding query.header
  in_front x is =
      let t = own.cells (q.addr - 4) x is in let above = above_page key h q own in let after = end_after in
      (t.word, sure (q.addr - 4) x is (owns_behind (q.addr - 4) (omega (arith, above)) (omega (arith, after))), t.low)

  last_word : (w : ℕ) → query.word q ≡ Some w → (x : ℕ) × IsSure (q.addr + gap - 4) x k × (w ≡ x % 4294967296)
  unfolding query.word
  last_word w is =
      let f = then_some (λ e. cell q (e - 4)) (query.end q) w is in
      let same : f.0 ≡ q.addr + gap = own_end f.0 f.1 ∙ sym ends in
      let there : cell q (q.addr + gap - 4) ≡ Some w = subst (λ n. cell q (n - 4) ≡ Some w) same f.2 in
      let t = own.cells (q.addr + gap - 4) w there in
      let at = ends in let whole = whole_end in let from = own.whole in let after = end_after in
      (t.word, sure (q.addr + gap - 4) w there (owns_behind (q.addr + gap - 4) (omega (arith, at, after)) (omega (arith, at, after))), t.low)

  fifth_byte : (b : ℕ) → query.fifth q ≡ Some b → IsSureByte (q.addr + gap - 5) b k
  unfolding query.fifth
  fifth_byte b is =
      let f = then_some (λ e. byte q (e - 5)) (query.end q) b is in
      let same : f.0 ≡ q.addr + gap = own_end f.0 f.1 ∙ sym ends in
      let at = ends in let whole = whole_end in let from = own.whole in let after = end_after in
      sure_byte (q.addr + gap - 5) b (subst (λ n. byte q (n - 5) ≡ Some b) same f.2) (omega (arith, at, whole, from, after)) (omega (arith, at, after))

  pub own_reserved : (res : Result ℕ NominalFault) → query.reserved q ≡ Some res → IsFramedBy k q.addr gap res
  unfolding query.reserved query.field query.reserved_with
  own_reserved res is =
      let f = then_some (λ f. option_and_then (query.reserved_with q f) (query.end q)) (query.field q) res is in
      let n = then_some (query.reserved_with q f.0) (query.end q) res f.2 in
      let same : n.0 ≡ e = own_end n.0 n.1 in
      let x = map_some (λ h. h / 8192 % 8) (query.header q) f.0 f.1 in
      let w = in_front x.0 x.1 in
      let low = w.2 in
      let field : w.0 / 8192 % 8 ≡ f.0 = (let a = x.2 in omega (arith, low, a)) in
      ⊎_elim
      (λ (five : f.0 ≡ 5).
      let p = both_some (λ w x. reserved_in f.0 w x (n.0 - q.addr)) (query.word q) (query.fifth q) res
      (subst (λ b. cond b (both (λ w x. reserved_in f.0 w x (n.0 - q.addr)) (query.word q) (query.fifth q)) (Some (reserved_in f.0 0 0 (n.0 - q.addr))) ≡ Some res) (eq-eqb f.0 5 five) n.2) in
      let last = last_word p.0 p.2 in
      record {
        header = w.0;
        word = last.0;
        fifth = p.1;
        front = w.1;
        number = λ five. (last.1, fifth_byte p.1 p.3);
        told = sym p.4 ∙ (λ j. reserved_in (sym field j) (last.2 j) p.1 (same j - q.addr));
      })
      (λ (ne : f.0 ≢ 5).
      let is : Some (reserved_in f.0 0 0 (n.0 - q.addr)) ≡ Some res =
      subst (λ b. cond b (both (λ w x. reserved_in f.0 w x (n.0 - q.addr)) (query.word q) (query.fifth q)) (Some (reserved_in f.0 0 0 (n.0 - q.addr))) ≡ Some res) (ne_eqb f.0 5 ne) n.2 in
      record {
        header = w.0;
        word = 0;
        fifth = 0;
        front = w.1;
        number = λ five. absurd (ne (sym field ∙ five));
        told = sym (some_is (reserved_in f.0 0 0 (n.0 - q.addr)) res is) ∙ ap (λ m. reserved_in f.0 0 0 (m - q.addr)) same ∙ ap (λ m. reserved_in m 0 0 gap) (sym field);
      })
      (cases_eq f.0 5)
