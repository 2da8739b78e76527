-- The verdict on a block's frame, by the words that were loaded of it.
use Rattle.ng_view.specs.Lists.{Among}
use Rattle.std.proofs.Common.{◌≡◌, ℕ, ◌+◌, ◌-◌, ◌*◌, ◌/◌, ◌%◌, ◌<◌, ◌≤◌, cond, true, ◌∷◌, sym, ap, ◌∙◌, subst, inl, inr, refl, arith, ◌&&◌, le-leb, ⊎_elim, ◌⊎◌, Bool, false}
use Rattle.std.specs.Prelude.{Option, Some, Ok, Result}
use Rattle.ng_header.specs.Bytes.{byte_of}
use Rattle.ng_header.specs.Reading.{reserved_in}
use Rattle.ng_header.specs.declared.reading.NominalFault.{NominalFault}
use Rattle.ng_view.specs.Blocks.{Knows}
use Rattle.ng_view.specs.Places.{Owns, owns_at, slot_start, stride}
use Rattle.ng_view.specs.Steps.{learnt}
use Rattle.ng_view.specs.declared.view.Held.{Held}
use Rattle.ng_view.specs.declared.view.Place.{Place}
use Rattle.ng_space.specs.Blocks.{BlockToken}
use Rattle.ng_space.proofs.Leaving.{learns_cell}
use Rattle.ng_space.specs.Tokens.{LiesAt, Token}
use Rattle.ng_frame.specs.Inspects.{field_in, fifth_in, gap_of, number_in}
use Rattle.ng_frame.specs.Judging.{AreSure, IsJudged, IsSure, IsSureByte, verdict_by}
use Rattle.ng_frame.specs.Puts.{IsWhole}
use Rattle.ng_frame.specs.declared.words.Words.{Words}

pub some_is : {A : Type 0} (x y : A) → ◌≡◌ {A = Option A} (Some x) (Some y) → x ≡ y
some_is x y e = cc

owns_true : (p : Place) (a : ℕ) → Owns p a → owns_at p a ≡ true
owns_true p a o = let first = o.0 in let second = o.1 in λ k. le-leb (slot_start p) (a + 4) first k && le-leb (a + 5) (slot_start p + stride p.group) (omega arith) k

-- a cell of the slot's own is known once it was loaded
pub learnt_knows : (a x : ℕ) (h : Held) → Owns h.place a → Knows a x (learnt a x h)
learnt_knows a x h owns =
    subst (λ b. Among {A = ℕ × ℕ} (a, x) (cond b ((a, x) ∷ h.cells) h.cells)) (sym (owns_true h.place a owns)) (inl refl)

-- and what was known is
pub learnt_keeps : (a x b y : ℕ) (h : Held) → Knows b y h → Knows b y (learnt a x h)
learnt_keeps a x b y h knows = (learns_cell a x h).cells b y tt knows

-- an address between the start of a slot and its end is one of the slot's own
pub owns_within : (p : Place) (slot : Token) (a : ℕ) → LiesAt p slot → IsWhole slot → slot.start ≤ a + 4 → a < slot.end → Owns p a
owns_within p slot a at is from below =
    let start = at.start in let end = at.end in let some_bytes = is.some in (omega arith, omega arith)

-- a value that is known after a load is the one that was found, or was known before
known_back : (a x b y : ℕ) (h : Held) → Knows b y (learnt a x h) → (◌≡◌ {A = ℕ × ℕ} (b, y) (a, x)) ⊎ Knows b y h
known_back a x b y h = by_owner (owns_at h.place a)
  where
    by_owner : (t : Bool) → Among {A = ℕ × ℕ} (b, y) (cond t ((a, x) ∷ h.cells) h.cells) → (◌≡◌ {A = ℕ × ℕ} (b, y) (a, x)) ⊎ Knows b y h
    by_owner true there = there
    by_owner false there = inr there

-- a load, which finds what is known, makes sure of its cell
pub sure_new : (a x : ℕ) (h : Held) → Owns h.place a → ((y : ℕ) → Knows a y h → x ≡ y) → IsSure a x (learnt a x h)
sure_new a x h owns told = record {
  known = learnt_knows a x h owns;
  only = λ y knows. ⊎_elim
      (λ (same : ◌≡◌ {A = ℕ × ℕ} (a, y) (a, x)). ap (λ (c : ℕ × ℕ). c.1) same)
      (λ (was : Knows a y h). sym (told y was))
      (known_back a x a y h knows);
}

-- and leaves sure what was
pub sure_keeps : (a x b z : ℕ) (h : Held) → ((y : ℕ) → Knows a y h → x ≡ y) → IsSure b z h → IsSure b z (learnt a x h)
sure_keeps a x b z h told sure = record {
  known = learnt_keeps a x b z h sure.known;
  only = λ y knows. ⊎_elim
      (λ (same : ◌≡◌ {A = ℕ × ℕ} (b, y) (a, x)).
      let there : b ≡ a = ap (λ (c : ℕ × ℕ). c.0) same in
      ap (λ (c : ℕ × ℕ). c.1) same ∙ told z (subst (λ (c : ℕ). Knows c z h) there sure.known))
      (λ (was : Knows b y h). sure.only y was)
      (known_back a x b y h knows);
}

-- ---- the slot of a block
module _ (block : BlockToken) (w : Words) (is : IsWhole block.slot) (from : block.slot.start ≤ block.at) (within : block.at ≤ block.slot.end) where
  abbrev e : ℕ
  e = block.slot.end

  -- the cells of its frame are its own
  owns : (p : Place) (a : ℕ) → LiesAt p block.slot → block.slot.start ≤ a + 4 → a < e → Owns p a
  owns p a lies = owns_within p block.slot a lies is

  pub owns_header : (p : Place) → LiesAt p block.slot → Owns p (block.at - 4)
  owns_header p lies = let front = is.front in owns p (block.at - 4) lies (omega arith) (omega arith)

  pub owns_last : (p : Place) → LiesAt p block.slot → Owns p (e - 4)
  owns_last p lies = let front = is.front in let some_bytes = is.some in owns p (e - 4) lies (omega arith) (omega arith)

  pub owns_fifth : (p : Place) → LiesAt p block.slot → Owns p (e - 8)
  owns_fifth p lies = let front = is.front in let end = is.end in let start = is.start in let some_bytes = is.some in owns p (e - 8) lies (omega arith) (omega arith)

  pub owns_mark : (p : Place) (y : ℕ) → LiesAt p block.slot → block.at ≤ y → y < e → Owns p (4 * (y / 4))
  owns_mark p y lies low below = let start = is.start in owns p (4 * (y / 4)) lies (omega arith) (omega arith)

  -- the verdict by its words, of which the hand is sure
  pub judged_by : (h : Held) (mark gap : ℕ) (verdict : Result ℕ NominalFault) → block.at + gap ≡ e → AreSure block w h
      → ((r : ℕ) → reserved_in (field_in w) (number_in w) (fifth_in w) gap ≡ Ok r → 0 < r → IsSureByte (e - r) mark h)
      → verdict ≡ verdict_by gap mark (reserved_in (field_in w) (number_in w) (fifth_in w) gap)
      → IsJudged h block.at (gap_of block) verdict
  judged_by h mark gap verdict ends sure first told =
      let same : gap ≡ gap_of block = omega arith in
      let start = is.start in let whole = is.end in let some_bytes = is.some in
      let at_end : block.at + gap_of block ≡ e = omega arith in
      let third : (e - 5) % 4 ≡ 3 = omega arith in
      let there : e - 8 ≡ 4 * ((e - 5) / 4) = omega arith in
      record {
        header = w.header;
        word = w.last;
        fifth = fifth_in w;
        mark = mark;
        whole = omega arith;
        front = sure.header;
        number = λ five. (
          subst (λ a. IsSure (a - 4) w.last h) (sym at_end) sure.last,
          subst (λ a. IsSureByte (a - 5) (fifth_in w) h) (sym at_end) (w.fifth, subst (λ a. IsSure a w.fifth h) there sure.fifth, ap (byte_of w.fifth) third),
        );
        first = λ r is_r some_r. subst (λ a. IsSureByte (a - r) mark h) (sym at_end) (first r (subst (λ n. reserved_in (field_in w) (number_in w) (fifth_in w) n ≡ Ok r) (sym same) is_r) some_r);
        told = subst (λ n. verdict ≡ verdict_by n mark (reserved_in (field_in w) (number_in w) (fifth_in w) n)) same told;
      }
