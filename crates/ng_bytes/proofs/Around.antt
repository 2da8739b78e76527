-- What is known of a slot around the bytes that change.
use Rattle.std.proofs.Common.{◌≡◌, ◌≢◌, ◌⊎◌, ℕ, ◌+◌, ◌-◌, ◌*◌, ◌/◌, ◌%◌, ◌<◌, ◌≤◌, refl, sym, ap, ◌∙◌, subst, ⊎_elim, inl, inr, arith}
use Rattle.std.proofs.lemmas.Bool.{cases_eq}
use Rattle.ng_header.specs.Bytes.{byte_of}
use Rattle.ng_frame.specs.Contents.{KeepsAround}
use Rattle.ng_rule.proofs.hand.Load.{carries_more, still_knows}
use Rattle.ng_space.specs.Leaving.{Learns}
use Rattle.ng_space.proofs.Leaving.{learns_cell}
use Rattle.ng_view.specs.Blocks.{Knows}
use Rattle.ng_view.specs.Frame.{Frames, IsFramed, IsShift, IsTrailer, KnowsByte}
use Rattle.ng_view.specs.Places.{slot_end, slot_start}
use Rattle.ng_view.specs.Steps.{learnt, wrote}
use Rattle.ng_view.specs.declared.view.Held.{Held}

-- ---- a cell is loaded, and stored with some of its bytes changed
module _ (h : Held) (c word value first behind : ℕ) (whole : c % 4 ≡ 0) (some_bytes : first < behind) (from : c ≤ first) (to : behind ≤ c + 4)
    (told : (z : ℕ) → Knows c z h → word ≡ z)
    (same : (j : ℕ) → j < 4 → (c + j < first) ⊎ (behind ≤ c + j) → byte_of value j ≡ byte_of word j) where
  -- a cell outside of them is another
  apart : (a : ℕ) → (a + 4 ≤ first) ⊎ (behind ≤ a) → a ≢ c
  apart a (inl before) e = absurd (omega (arith, before, e, some_bytes, to))
  apart a (inr after) e = absurd (omega (arith, after, e, some_bytes, from))

  byte_at : (y b : ℕ) → (y < first) ⊎ (behind ≤ y) → (k : KnowsByte y b h) → 4 * (y / 4) ≡ c → byte_of value (y % 4) ≡ b
  byte_at y b out k here =
      let low : y % 4 < 4 = omega arith in
      let place : y ≡ c + y % 4 = omega (arith, here) in
      let word_is : word ≡ k.0 = told k.0 (subst (λ a. Knows a k.0 h) here k.1) in
      same (y % 4) low (subst (λ z. (z < first) ⊎ (behind ≤ z)) place out) ∙ ap (λ w. byte_of w (y % 4)) word_is ∙ k.2

  still_byte : (y b : ℕ) → (y < first) ⊎ (behind ≤ y) → KnowsByte y b h → KnowsByte y b (wrote c value (learnt c word h))
  still_byte y b out k = ⊎_elim
      (λ (here : 4 * (y / 4) ≡ c). (value, inl (ap (λ (a : ℕ). (a, value)) here), byte_at y b out k here))
      (λ (ne : 4 * (y / 4) ≢ c). (k.0, still_knows c value (4 * (y / 4)) k.0 (learnt c word h) ne ((learns_cell c word h).cells (4 * (y / 4)) k.0 tt k.1), k.2))
      (cases_eq (4 * (y / 4)) c)

  pub part_around : KeepsAround first behind h (wrote c value (learnt c word h))
  part_around = record {
    place = refl;
    block = refl;
    cells = λ a x out k. still_knows c value a x (learnt c word h) (apart a out) ((learns_cell c word h).cells a x tt k);
    bytes = still_byte;
  }

-- ---- steps
-- no cell is forgotten
pub learns_around : (first behind : ℕ) (h k : Held) → Learns h k → KeepsAround first behind h k
learns_around first behind h k l = record {
  place = l.place;
  block = l.block;
  cells = λ a x out s. l.cells a x tt s;
  bytes = λ y b out s. (s.0, l.cells (4 * (y / 4)) s.0 tt s.1, s.2);
}

pub around_then : (first behind : ℕ) (h k l : Held) → KeepsAround first behind h k → KeepsAround first behind k l → KeepsAround first behind h l
around_then first behind h k l one two = record {
  place = two.place ∙ one.place;
  block = two.block ∙ one.block;
  cells = λ a x out s. two.cells a x out (one.cells a x out s);
  bytes = λ y b out s. two.bytes y b out (one.bytes y b out s);
}

-- more bytes may have changed
pub around_wider : (f b first behind : ℕ) (h k : Held) → first ≤ f → b ≤ behind → KeepsAround f b h k → KeepsAround first behind h k
around_wider f b first behind h k low high keeps = record {
  place = keeps.place;
  block = keeps.block;
  cells = λ a x out s. keeps.cells a x (cell_out a out) s;
  bytes = λ y x out s. keeps.bytes y x (byte_out y out) s;
}
  where
    cell_out : (a : ℕ) → (a + 4 ≤ first) ⊎ (behind ≤ a) → (a + 4 ≤ f) ⊎ (b ≤ a)
    cell_out a (inl before) = inl (omega (arith, before, low))
    cell_out a (inr after) = inr (omega (arith, after, high))

    byte_out : (y : ℕ) → (y < first) ⊎ (behind ≤ y) → (y < f) ⊎ (b ≤ y)
    byte_out y (inl before) = inl (omega (arith, before, low))
    byte_out y (inr after) = inr (omega (arith, after, high))

-- ---- a frame stays known where only the block's own bytes change
module _ (h k : Held) (first behind p n : ℕ) (keeps : KeepsAround first behind h k) (from : p ≤ first) (to : behind ≤ p + n) where
  abbrev y : Held
  y = record k { place = h.place }

  byte : (a : ℕ) → p + n ≤ a → KnowsByte a 0 h → KnowsByte a 0 y
  byte a after s = keeps.bytes a 0 (inr (omega (arith, to, after))) s

  trailer : (r : ℕ) → p + n + r ≡ slot_end h.place → IsTrailer h r → IsTrailer y r
  trailer r ends (inl none) = inl none
  trailer r ends (inr (inl few)) = inr (inl (few.0, few.1, byte (slot_end h.place - r) (omega (arith, ends)) few.2))
  trailer r ends (inr (inr many)) =
      let more = many.0 in
      inr (inr (
        many.0,
        byte (slot_end h.place - r) (omega (arith, ends)) many.1,
        keeps.cells (slot_end h.place - 4) r (inr (omega (arith, ends, more, to))) many.2,
        byte (slot_end h.place - 5) (omega (arith, ends, more)) many.3,
      ))

  shift : slot_start h.place ≤ p → IsShift h p → IsShift y p
  shift start (inl front) = inl front
  shift start (inr s) =
      let front = s.2 in
      inr (s.0, s.1, s.2, keeps.cells s.0 s.1 (inl (omega (arith, front, start, from))) s.3, s.4, s.5, s.6)

  frames : (x : ℕ) → Frames h p n x → Frames y p n x
  frames x f =
      let within = f.within in record {
        whole = f.whole;
        from = f.from;
        roomy = f.roomy;
        within = f.within;
        carries = carries_more h y p x refl (λ a z q s. keeps.cells a z (inl (omega (arith, q, from))) s) f.carries;
        field = f.field;
        trailer = trailer (slot_end h.place - p - n) (omega (arith, within)) f.trailer;
        shift = shift f.from f.shift;
      }

  pub around_framed : IsFramed h p n → IsFramed k p n
  around_framed f =
      let front = f.2 in
      subst (λ (z : Held). IsFramed z p n) (λ i. record k { place = sym keeps.place i })
      (f.0, f.1, f.2, keeps.cells f.0 f.1 (inl (omega (arith, front, from))) f.3, frames f.1 f.4)
