-- What the header cell at a slot's start tells of the slot's block.
use Rattle.std.proofs.Common.{◌≡◌, ◌≢◌, ℕ, ◌+◌, ◌-◌, ◌/◌, ◌%◌, sym, ap, ◌∙◌, subst, inl, inr, arith}
use Rattle.std.specs.Prelude.{Some}
use Rattle.ng_rule.proofs.geometry.Lists.{find_among}
use Rattle.ng_view.specs.Blocks.{Knows}
use Rattle.ng_view.specs.Frame.{IsShift}
use Rattle.ng_view.specs.Lists.{find}
use Rattle.ng_view.specs.Places.{slot_start}
use Rattle.ng_view.specs.Steps.{learnt, loaded}
use Rattle.ng_view.specs.Tells.{Tells}
use Rattle.ng_view.specs.declared.view.Held.{Held}
use Rattle.ng_view.specs.declared.view.Start.{Start}
use Rattle.ng_view.specs.declared.view.View.{View}
use Rattle.ng_space.specs.Blocks.{BlockToken, HasBlock, HasFramed, OfSlot}
use Rattle.ng_space.specs.Callers.{Caller}
use Rattle.ng_space.proofs.Holding.{find-loaded}
use Rattle.ng_space.proofs.Leaving.{learns_cell}
use Rattle.ng_frame.specs.Judging.{IsSure}
use Rattle.ng_frame.specs.Located.{TellsDistance}
use Rattle.ng_frame.specs.Puts.{IsWhole}
use Rattle.ng_frame.proofs.Frames.{of_found, shift_kept}
use Rattle.ng_frame.proofs.Judged.{owns_within, sure_new}

-- a block that begins at its slot's start
pub mark_first : (hand : Caller) (block : BlockToken) (has : HasBlock hand block) → block.at ≡ block.slot.start → OfSlot hand block.slot (λ h. IsShift h block.at)
mark_first hand block has same = of_found hand block.slot has.held (λ h. IsShift h block.at) has.found (inl (same ∙ has.place.start))

-- the cell was loaded
module _ (key : Start) (old new : Caller) (block : BlockToken) (has : HasBlock old block) (is : IsWhole block.slot) (start w : ℕ) (begins : start ≡ block.slot.start) (loads : new.view ≡ loaded old.view (start - 4) w) (told : Tells key old.view (start - 4) w) where
  abbrev a : ℕ
  a = start - 4

  abbrev h : Held
  h = learnt a w has.held

  found : find block.slot.meta block.slot.index new.view.held ≡ Some h
  found = ap (λ (v : View). find block.slot.meta block.slot.index v.held) loads ∙ find-loaded old.view a w block.slot.meta block.slot.index has.held has.found

  sure : IsSure a w h
  sure =
      let t = told.slots has.held (find_among block.slot.meta block.slot.index old.view.held has.held has.found).0 in
      let front = is.front in let some_bytes = is.some in
      sure_new a w has.held (owns_within has.held.place block.slot a has.place is (omega (arith, begins)) (omega (arith, begins))) t.known

  first : start ≡ slot_start has.held.place
  first = begins ∙ has.place.start

  pub mark_told : TellsDistance w ((block.at - start) / 16) → OfSlot new block.slot (λ k. IsShift k block.at)
  mark_told tells =
      let front = is.front in
      of_found new block.slot h (λ k. IsShift k block.at) found
      (inr (a, w, (let e : a + 4 ≡ start = omega (arith, begins, front) in e ∙ first), sure.known, tells.check, tells.mark, tells.offset ∙ ap (λ s. (block.at - s) / 16 % 65536) first))

  by_shift : block.at ≢ start → IsShift h block.at → TellsDistance w ((block.at - start) / 16)
  by_shift ne (inl same) = absurd (ne (same ∙ sym first))
  by_shift ne (inr s) =
      let front = s.2 in
      let cell : s.0 ≡ a = (let begin = first in omega (arith, front, begin)) in
      let word : s.1 ≡ w = sure.only s.1 (subst (λ b. Knows b s.1 h) cell s.3) in record {
        check = ap (λ x. x % 256) (sym word) ∙ s.4;
        mark = ap (λ x. x / 256 % 256) (sym word) ∙ s.5;
        offset = ap (λ x. x / 65536) (sym word) ∙ s.6 ∙ ap (λ b. (block.at - b) / 16 % 65536) (sym first);
      }

  pub mark_back : block.at ≢ start → OfSlot new block.slot (λ k. IsShift k block.at) → TellsDistance w ((block.at - start) / 16)
  mark_back ne shift = by_shift ne (shift h found)

  -- the mark of a known frame
  pub mark_framed : HasFramed old block → OfSlot new block.slot (λ k. IsShift k block.at)
  mark_framed f =
      let mine : Held = f.has.held in
      let there = f.has.found in let here = has.found in
      let same : mine ≡ has.held = cc in
      of_found new block.slot h (λ k. IsShift k block.at) found
      (shift_kept (λ b. Unit {0}) has.held h block.slot block.at (λ b e. tt) has.place (learns_cell a w has.held) (subst (λ k. IsShift k block.at) same f.framed.4.shift))
