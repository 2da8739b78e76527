-- A block's frame once its length has changed.
use Rattle.std.proofs.Common.{◌≡◌, ◌⊎◌, ℕ, ◌+◌, ◌-◌, ◌*◌, ◌/◌, ◌%◌, ◌<◌, ◌≤◌, refl, sym, ap, ◌∙◌, subst, inl, inr, arith}
use Rattle.std.specs.Prelude.{Option, Some}
use Rattle.ng_terms.specs.Heap.{extent}
use Rattle.ng_terms.specs.declared.entry.Extent.{Extent}
use Rattle.ng_rule.proofs.geometry.Lists.{find_among, find_edit}
use Rattle.ng_rule.proofs.hand.Load.{still_knows}
use Rattle.ng_view.specs.Blocks.{IsBlock, IsHeader, IsNarrow, IsSet, IsWide, Knows}
use Rattle.ng_view.specs.Frame.{IsShift, IsTrailer, KnowsByte}
use Rattle.ng_view.specs.Lists.{edit, find}
use Rattle.ng_view.specs.Steps.{loaded, regiven, with_block, wrote}
use Rattle.ng_view.specs.Tells.{Tells}
use Rattle.ng_view.specs.declared.view.Held.{Held}
use Rattle.ng_view.specs.declared.view.Place.{Place}
use Rattle.ng_view.specs.declared.view.Start.{Start}
use Rattle.ng_view.specs.declared.view.View.{View}
use Rattle.ng_space.specs.Blocks.{BlockToken, HasBlock, IsReady, OfSlot, Serves, offset_in}
use Rattle.ng_space.specs.Callers.{Caller}
use Rattle.ng_space.specs.Leaving.{KeepsCells, LiesStill, Stays}
use Rattle.ng_space.specs.Placed.{IsSmall}
use Rattle.ng_space.proofs.Leaving.{stays_loaded, stays_then}
use Rattle.ng_frame.specs.Contents.{KeepsBytes}
use Rattle.ng_frame.specs.Puts.{IsWhole}
use Rattle.ng_frame.proofs.Frames.{of_found, shift_kept}
use Rattle.ng_frame.proofs.Judged.{owns_within}

-- the class of the slot may serve what it might
pub serves_still : (old new : Caller) (block : BlockToken) (P : ℕ → Type 0) (n : ℕ) → HasBlock old block → Stays block.slot.meta block.slot.index old.view new.view (KeepsCells P)
    → OfSlot old block.slot (Serves n 16) → OfSlot new block.slot (Serves n 16)
serves_still old new block P n has stays serves h found =
    let k = stays has.held has.found in
    let same : k.0 ≡ h = cc in
    subst (Serves n 16) same (subst (λ (p : Place). Serves n 16 (record k.0 { place = p })) (sym k.2.place) (serves has.held has.found))

-- what a load tells of a block that a hand has
pub told_block : (key : Start) (hand : Caller) (block : BlockToken) (a w : ℕ) (has : HasBlock hand block) → Tells key hand.view a w → IsBlock has.held (extent block.at block.len block.align)
told_block key hand block a w has told =
    let t = told.slots has.held (find_among block.slot.meta block.slot.index hand.view.held has.held has.found).0 in
    subst (λ (o : Option Extent). IsSet has.held o) has.live t.block

-- ---- the header was loaded, and then a trailer was stored
module _ (key : Start) (old one two : Caller) (block : BlockToken) (has : HasBlock old block) (w : ℕ) (loads : one.view ≡ loaded old.view (block.at - 4) w) (own : Stays block.slot.meta block.slot.index one.view two.view (KeepsCells (λ a. a < block.at))) where
  abbrev m : ℕ
  m = block.slot.meta

  abbrev i : ℕ
  i = block.slot.index

  abbrev h : Held
  h = has.held

  pub since : Stays m i old.view two.view (KeepsCells (λ a. a < block.at))
  since = stays_then (λ a. Unit {0}) (λ a. a < block.at) (λ a. a < block.at) m i old.view one.view two.view (λ a lt. (tt, lt)) (stays_loaded old.view one.view (block.at - 4) w m i loads) own

  module _ (told : Tells key old.view (block.at - 4) w) (small : IsSmall old.view (block.at - 4) w) (is : IsWhole block.slot) (whole : block.at % 16 ≡ 0) (from : block.slot.start ≤ block.at) where
    -- the cell before the header has a wide offset
    wide_known : (k : Held) → KeepsCells (λ a. a < block.at) h k → block.at ≤ block.slot.end → 65536 ≤ offset_in block.slot block.at → (block.slot.start < block.at) × Knows (block.at - 8) (offset_in block.slot block.at) k
    wide_known k keeps below far = by_offset (told_block key old block (block.at - 4) w has told).header
      where
        storage : block.slot.storage ≡ h.place.group.base + 16
        storage = has.place.storage

        by_offset : IsHeader h block.at → (block.slot.start < block.at) × Knows (block.at - 8) (offset_in block.slot block.at) k
        by_offset header = by_kind header.carries.offset
          where
            there : header.cell ≡ block.at - 4
            there = let front = header.front in omega (arith, front)

            fits : header.value < 4294967296
            fits =
                let among = (find_among m i old.view.held h has.found).0 in
                let front = is.front in
                let less = small h among (owns_within h.place block.slot (block.at - 4) has.place is (omega arith) (omega (arith, below, from, front))) in
                let same : w ≡ header.value = (told.slots h among).known header.value (subst (λ a. Knows a header.value h) there header.known) in omega (arith, less, same)

            by_kind : IsNarrow h block.at header.value ⊎ IsWide h block.at header.value → (block.slot.start < block.at) × Knows (block.at - 8) (offset_in block.slot block.at) k
            by_kind (inl narrow) = absurd (let place = narrow.offset in omega (arith, place, fits, storage, far))
            by_kind (inr wide) =
                let behind = wide.behind in let start = has.place.start in let front = wide.front in let place = wide.place in
                let cell : wide.cell ≡ block.at - 8 = omega (arith, front) in
                let offset : wide.offset ≡ offset_in block.slot block.at = omega (arith, place, storage) in
                (omega (arith, behind, start), subst (λ a. Knows a (offset_in block.slot block.at) k) cell (subst (λ o. Knows wide.cell o k) offset (keeps.cells wide.cell wide.offset (omega (arith, front)) wide.known)))

    pub resize_ready : (n : ℕ) → block.at + n ≤ block.slot.end → OfSlot old block.slot (λ h. IsShift h block.at) → OfSlot two block.slot (λ h. IsTrailer h ((block.slot.end - block.at) - n)) → OfSlot two block.slot (IsReady block.slot block.at n)
    resize_ready n within shift trailer k found =
        let stays = since h has.found in
        let same : stays.0 ≡ k = cc in
        let roomy = (told_block key old block (block.at - 4) w has told).roomy in
        let start = has.place.start in let room = has.place.room in record {
          whole = whole;
          from = from;
          roomy = omega (arith, roomy, start, room);
          within = within;
          wide = subst (λ y. 65536 ≤ offset_in block.slot block.at → (block.slot.start < block.at) × Knows (block.at - 8) (offset_in block.slot block.at) y) same (wide_known stays.0 stays.2 (omega (arith, within)));
          trailer = trailer k found;
          shift = subst (λ y. IsShift y block.at) same (shift_kept (λ a. a < block.at) h stays.0 block.slot block.at (λ a e. omega (arith, e, from)) has.place stays.2 (shift h has.found));
        }

-- ---- and then the block got its length
module _ (one two new : Caller) (block : BlockToken) (n k x : ℕ) (gives : new.view ≡ regiven two.view block.slot.meta block.slot.index block.at n k x) where
  -- the slot then
  regiven_found : (h : Held) → find block.slot.meta block.slot.index two.view.held ≡ Some h → find block.slot.meta block.slot.index new.view.held ≡ Some (with_block (Some (extent block.at n 16)) (wrote (block.at - 4) x h))
  regiven_found h found =
      ap (λ (u : View). find block.slot.meta block.slot.index u.held) gives
      ∙ find_edit block.slot.meta block.slot.index (with_block (Some (extent block.at n 16))) (edit block.slot.meta block.slot.index (wrote (block.at - 4) x) two.view.held) (wrote (block.at - 4) x h) (λ y. refl)
      (find_edit block.slot.meta block.slot.index (wrote (block.at - 4) x) two.view.held h (λ y. refl) found)

  pub regiven_still : (old : View) (P : ℕ → Type 0) → Stays block.slot.meta block.slot.index old two.view (KeepsCells P) → Stays block.slot.meta block.slot.index old new.view LiesStill
  regiven_still old P stays h found = let y = stays h found in (with_block (Some (extent block.at n 16)) (wrote (block.at - 4) x y.0), regiven_found y.0 y.1, y.2.place)

  pub regiven_bytes : (old : Caller) (w : ℕ) → one.view ≡ loaded old.view (block.at - 4) w → Stays block.slot.meta block.slot.index one.view two.view (KeepsCells (λ a. a < block.at)) → block.at % 16 ≡ 0 → 4 ≤ block.at
      → ((y b : ℕ) → y < block.at + n → OfSlot one block.slot (KnowsByte y b) → OfSlot two block.slot (KnowsByte y b))
      → Stays block.slot.meta block.slot.index old.view new.view (KeepsBytes block.at (block.at + n))
  regiven_bytes old w loads own whole front bytes h found =
      let first = stays_loaded old.view one.view (block.at - 4) w block.slot.meta block.slot.index loads h found in
      let second = own first.0 first.1 in (
        with_block (Some (extent block.at n 16)) (wrote (block.at - 4) x second.0),
        regiven_found second.0 second.1,
        record {
          place = second.2.place ∙ first.2.place;
          bytes = λ y b from below known.
              let there : KnowsByte y b second.0 = bytes y b below (of_found one block.slot first.0 (KnowsByte y b) first.1 (known.0, first.2.cells (4 * (y / 4)) known.0 tt known.1, known.2)) second.0 second.1 in
              (there.0, still_knows (block.at - 4) x (4 * (y / 4)) there.0 second.0 (λ same. omega (arith, same, from, whole, front)) there.1, there.2);
        },
      )
