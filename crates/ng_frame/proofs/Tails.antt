-- What stands behind a block whose length changes.
use Rattle.std.proofs.Common.{◌≡◌, ◌≢◌, ℕ, ◌+◌, ◌-◌, ◌*◌, ◌/◌, ◌%◌, ◌<◌, ◌≤◌, refl, sym, ap, ◌∙◌, subst, ⊎_elim, arith}
use Rattle.std.proofs.lemmas.Bool.{cases_eq}
use Rattle.std.specs.Prelude.{Some}
use Rattle.ng_header.specs.Bytes.{byte_of}
use Rattle.ng_rule.proofs.geometry.Lists.{find_among, find_edit}
use Rattle.ng_view.specs.Frame.{IsTrailer, KnowsByte}
use Rattle.ng_view.specs.Lists.{find}
use Rattle.ng_view.specs.Steps.{learnt, loaded, stored, wrote}
use Rattle.ng_view.specs.Tells.{Tells}
use Rattle.ng_view.specs.declared.view.Start.{Start}
use Rattle.ng_view.specs.declared.view.View.{View}
use Rattle.ng_space.specs.Blocks.{BlockToken, HasBlock, OfSlot}
use Rattle.ng_space.specs.Callers.{Caller}
use Rattle.ng_space.specs.Leaving.{KeepsCells, Stays}
use Rattle.ng_space.specs.Tokens.{LiesAt, Token}
use Rattle.ng_space.proofs.Holding.{find-loaded}
use Rattle.ng_space.proofs.Leaving.{stays_loaded, stays_stored, stays_then}
use Rattle.ng_frame.specs.Besides.{LeavesBesides}
use Rattle.ng_frame.specs.Puts.{IsWhole}
use Rattle.ng_frame.proofs.Besides.{besides_load, besides_store, besides_then}
use Rattle.ng_frame.proofs.Bytes.{byte_kept, byte_made}
use Rattle.ng_frame.proofs.Frames.{knows_still, long_trailer, of_found, short_trailer, stored_byte, stored_knows}

-- ---- one byte behind a block is made 0: its cell is loaded, and stored without it
module _ (old mid new : Caller) (block : BlockToken) (has : HasBlock old block) (at word cell : ℕ) (loads : mid.view ≡ loaded old.view (4 * (at / 4)) word) (stores : new.view ≡ stored mid.view block.slot.meta block.slot.index (4 * (at / 4)) cell) where
  abbrev a : ℕ
  a = 4 * (at / 4)

  abbrev m : ℕ
  m = block.slot.meta

  abbrev i : ℕ
  i = block.slot.index

  found : find m i new.view.held ≡ Some (wrote a cell (learnt a word has.held))
  found = ap (λ (u : View). find m i u.held) stores ∙ find_edit m i (wrote a cell) mid.view.held (learnt a word has.held) (λ y. refl) (ap (λ (u : View). find m i u.held) loads ∙ find-loaded old.view a word m i has.held has.found)

  pub cut_zero : byte_of cell (at % 4) ≡ 0 → OfSlot new block.slot (KnowsByte at 0)
  cut_zero zero_byte = of_found new block.slot (wrote a cell (learnt a word has.held)) (KnowsByte at 0) found (byte_made (learnt a word has.held) at cell 0 zero_byte)

  pub cut_others : (key : Start) → Tells key old.view a word → ((b : ℕ) → b < 4 → b ≢ at % 4 → byte_of cell b ≡ byte_of (word % 4294967296) b) → (y b : ℕ) → y ≢ at → OfSlot old block.slot (KnowsByte y b) → OfSlot new block.slot (KnowsByte y b)
  cut_others key told others y b other known =
      let t = told.slots has.held (find_among m i old.view.held has.held has.found).0 in
      of_found new block.slot (wrote a cell (learnt a word has.held)) (KnowsByte y b) found (byte_kept has.held at word cell y b t.known others other (known has.held has.found))

  pub cut_own : Stays m i old.view new.view (KeepsCells (λ b. b ≢ a))
  cut_own = stays_then (λ b. Unit {0}) (λ b. b ≢ a) (λ b. b ≢ a) m i old.view mid.view new.view (λ b ne. (tt, ne)) (stays_loaded old.view mid.view a word m i loads) (stays_stored mid.view new.view m i a cell stores)

  pub cut_leaves : LeavesBesides block.slot old.view new.view
  cut_leaves = besides_then block.slot old.view mid.view new.view (besides_load block.slot old.view mid.view a word loads) (besides_store block.slot mid.view new.view a cell stores)

-- ---- the trailer behind a block
-- the slot lies where the token says
block_lies : (hand : Caller) (block : BlockToken) → HasBlock hand block → OfSlot hand block.slot (λ h. LiesAt h.place block.slot)
block_lies hand block has = of_found hand block.slot has.held (λ h. LiesAt h.place block.slot) has.found has.place

-- a byte that was 0 is so still once another is made 0
zero_still : (old new : Caller) (slot : Token) (at y : ℕ) → OfSlot new slot (KnowsByte at 0) → ((z b : ℕ) → z ≢ at → OfSlot old slot (KnowsByte z b) → OfSlot new slot (KnowsByte z b))
    → OfSlot old slot (KnowsByte y 0) → OfSlot new slot (KnowsByte y 0)
zero_still old new slot at y zero others known = ⊎_elim
    (λ (same : y ≡ at). subst (λ z. OfSlot new slot (KnowsByte z 0)) (sym same) zero)
    (λ (ne : y ≢ at). others y 0 ne known)
    (cases_eq y at)

module _ (block : BlockToken) (e r : ℕ) (end : e ≡ block.slot.end) (is : IsWhole block.slot) (whole : block.at % 16 ≡ 0) (within : block.at + r ≤ block.slot.end) where
  pub tail_short : (hand : Caller) → HasBlock hand block → 0 < r → r < 5 → OfSlot hand block.slot (KnowsByte (e - r) 0) → OfSlot hand block.slot (λ h. IsTrailer h r)
  tail_short hand has some_bytes few zero = short_trailer hand block.slot r e end some_bytes few (block_lies hand block has) zero

  pub tail_first : (a : ℕ) → a < block.at → a ≢ 4 * ((e - r) / 4)
  tail_first a lt same = omega (arith, end, whole, within, same, lt)

  -- of five bytes and more
  module _ (many : 5 ≤ r) (one two three : Caller) (has : HasBlock one block) (still : HasBlock three block) (stores : two.view ≡ stored one.view block.slot.meta block.slot.index (e - 4) r) (fifth : OfSlot three block.slot (KnowsByte (e - 5) 0))
      (others : (y b : ℕ) → y ≢ e - 5 → OfSlot two block.slot (KnowsByte y b) → OfSlot three block.slot (KnowsByte y b)) (own : Stays block.slot.meta block.slot.index two.view three.view (KeepsCells (λ a. a ≢ 4 * ((e - 5) / 4)))) where
    abbrev slot : Token
    slot = block.slot

    last : e % 16 ≡ 12
    last = ap (λ n. n % 16) end ∙ is.end

    there : find slot.meta slot.index two.view.held ≡ Some (wrote (e - 4) r has.held)
    there = ap (λ (u : View). find slot.meta slot.index u.held) stores ∙ find_edit slot.meta slot.index (wrote (e - 4) r) one.view.held has.held (λ y. refl) has.found

    byte : (y b : ℕ) → 4 * (y / 4) ≢ e - 4 → OfSlot one slot (KnowsByte y b) → OfSlot two slot (KnowsByte y b)
    byte y b = stored_byte one two slot has.held has.found (e - 4) r stores y b

    pub tail_long : OfSlot one slot (KnowsByte (e - r) 0) → OfSlot three slot (λ h. IsTrailer h r)
    tail_long zero =
        long_trailer three slot r e end many (block_lies three block still)
        (zero_still two three slot (e - 5) (e - r) fifth others (byte (e - r) 0 (λ same. omega (arith, last, within, end, many, same)) zero))
        (knows_still two three slot (wrote (e - 4) r has.held) (λ a. a ≢ 4 * ((e - 5) / 4)) (e - 4) r there own (λ same. omega (arith, last, same)) (stored_knows one two slot has.held has.found (e - 4) r stores))
        fifth

    pub tail_bytes : (y b : ℕ) → y < e - r → OfSlot one slot (KnowsByte y b) → OfSlot three slot (KnowsByte y b)
    tail_bytes y b lt known = others y b (λ same. omega (arith, lt, many, same)) (byte y b (λ same. omega (arith, lt, many, same)) known)

    pub tail_own : Stays slot.meta slot.index one.view three.view (KeepsCells (λ a. a < block.at))
    tail_own = stays_then (λ a. a ≢ e - 4) (λ a. a ≢ 4 * ((e - 5) / 4)) (λ a. a < block.at) slot.meta slot.index one.view two.view three.view
        (λ a lt. ((λ same. omega (arith, last, end, whole, within, many, lt, same)), (λ same. omega (arith, last, end, whole, within, many, lt, same))))
        (stays_stored one.view two.view slot.meta slot.index (e - 4) r stores) own
