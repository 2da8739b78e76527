-- What a resize comes to, by what was looked at and what was done then.
use Rattle.std.proofs.Common.{◌≡◌, ◌≢◌, ℕ, ◌+◌, ◌*◌, ◌/◌, min, sym, ap, ◌∙◌, subst, arith}
use Rattle.std.specs.Prelude.{◌↔◌, Result, Ok, Err}
use Rattle.ng_frame.proofs.Tokens.{block_stays, framed_stays}
use Rattle.ng_group.specs.Hands.{IsApart}
use Rattle.ng_heap.specs.Keeps.{KeepsFrames}
use Rattle.ng_space.specs.Blocks.{BlockToken, HasBlock, HasFramed, OfSlot}
use Rattle.ng_space.specs.Callers.{Caller}
use Rattle.ng_space.specs.Leaving.{KeepsBook, KeepsRest, Leaves, LeavesAll, Stays}
use Rattle.ng_space.proofs.Leaving.{rest_then}
use Rattle.ng_space.proofs.LeavingFrames.{all_leaves, leaves_then}
use Rattle.ng_view.specs.Frame.{KnowsByte}
use Rattle.ng_resize.specs.Fitting.{StaysInPlace}
use Rattle.ng_resize.specs.Moving.{KeepsFirst}
use Rattle.ng_resize.specs.Resizing.{IsLeft, IsResized, KeepsApart, with_len}
use Rattle.ng_resize.specs.Steps.{HasMoved}
use Rattle.ng_frame.specs.Contents.{KeepsBytes}
use Rattle.ng_resize.proofs.KeepLemmas.{apart_own, apart_then, byte_stays, others_framed}

-- ---- the block is as it was
module _ (before after : Caller) (block : BlockToken) (number : after.number ≡ before.number) (leaves : LeavesAll before.view after.view) where
  pub left_is : (left : BlockToken) → left ≡ block → HasBlock before block → IsLeft before block left after
  left_is left same has = record {
    same = same;
    has = block_stays before after number block (leaves.all.slots block.slot.meta block.slot.index) has;
    framed = λ f. framed_stays before after number block (leaves.all.slots block.slot.meta block.slot.index) f;
    leaves = leaves;
  }

  pub left_apart : KeepsApart block before.view after.view
  left_apart m i ne = leaves.all.slots m i

  pub left_others : (other : BlockToken) → IsApart other.slot block.slot → HasFramed before other → HasFramed after other
  left_others = others_framed before after block number left_apart

  pub left_frames : KeepsFrames before after
  left_frames = record { number = number; each = leaves.each }

-- ---- the block has its length where it stood
module _ (before looked after : Caller) (block : BlockToken) (n : ℕ) (has : HasBlock before block) (book : KeepsBook before looked)
    (looks : LeavesAll before.view looked.view) (own : Leaves block.slot looked.view after.view) where
  pub here_leaves : Leaves block.slot before.view after.view
  here_leaves = leaves_then block.slot before.view looked.view after.view (all_leaves block.slot before.view looked.view looks) own

  pub here_apart : KeepsApart block before.view after.view
  here_apart = apart_own block before.view looked.view after.view looks.all.slots own

  pub here_others : after.number ≡ looked.number → (other : BlockToken) → IsApart other.slot block.slot → HasFramed before other → HasFramed after other
  here_others number = others_framed before after block (number ∙ book.number) here_apart

  pub here_frames : after.number ≡ looked.number → KeepsFrames before after
  here_frames number = record { number = number ∙ book.number; each = here_leaves.each }

  -- what was known of its bytes is so still
  pub here_bytes : Stays block.slot.meta block.slot.index looked.view after.view (KeepsBytes block.at (block.at + n))
      → Stays block.slot.meta block.slot.index before.view after.view (KeepsBytes block.at (block.at + n))
  here_bytes stays h found =
      let k = looks.all.slots block.slot.meta block.slot.index h found in
      let l = stays k.0 k.1 in (
        l.0,
        l.1,
        record {
          place = l.2.place ∙ k.2.place;
          bytes = λ y b low high known. l.2.bytes y b low high (known.0, k.2.cells (4 * (y / 4)) known.0 tt known.1, known.2);
        },
      )

  pub here_kept : (new : BlockToken) (len : ℕ) → new ≡ with_len n block
      → Stays block.slot.meta block.slot.index looked.view after.view (KeepsBytes block.at (block.at + n))
      → KeepsFirst (min len n) before block after new
  here_kept new len is stays = subst (λ (b : BlockToken). KeepsFirst (min len n) before block after b) (sym is) kept
    where
      kept : KeepsFirst (min len n) before block after (with_len n block)
      kept i b below known k found =
          let l = here_bytes stays has.held has.found in
          let same : l.0 ≡ k = cc in
          subst (KnowsByte (block.at + i) b) same (l.2.bytes (block.at + i) b (omega arith) (omega (arith, below)) (known has.held has.found))

ok_is : {A B : Type 0} (x y : A) → ◌≡◌ {A = Result A B} (Ok x) (Ok y) → x ≡ y
ok_is x y e = cc

err_ok : {A B : Type 0} (x : B) (y : A) → ◌≡◌ {A = Result A B} (Err x) (Ok y) → ⊥
err_ok x y e = absurd (cc)

pub here_stays : {B : Type 0} (before : Caller) (block new : BlockToken) (n : ℕ) → new ≡ with_len n block → OfSlot before block.slot (StaysInPlace n block)
    → OfSlot before block.slot (λ h. ◌≡◌ {A = Result BlockToken B} (Ok new) (Ok (with_len n block)) ↔ StaysInPlace n block h)
here_stays before block new n is rule h found = (λ same. rule h found, λ stays. ap Ok is)

-- ---- it moved
pub moved_stays : {B : Type 0} (before : Caller) (block new : BlockToken) (n : ℕ) → new.at ≢ block.at → OfSlot before block.slot (λ h. ¬ StaysInPlace n block h)
    → OfSlot before block.slot (λ h. ◌≡◌ {A = Result BlockToken B} (Ok new) (Ok (with_len n block)) ↔ StaysInPlace n block h)
moved_stays before block new n elsewhere rule h found =
    (λ same. absurd (elsewhere (ap (λ (b : BlockToken). b.at) (ok_is new (with_len n block) same))), λ stays. absurd (rule h found stays))

pub refused_stays : {B : Type 0} (before : Caller) (block : BlockToken) (why : B) (n : ℕ) → OfSlot before block.slot (λ h. ¬ StaysInPlace n block h)
    → OfSlot before block.slot (λ h. ◌≡◌ {A = Result BlockToken B} (Err why) (Ok (with_len n block)) ↔ StaysInPlace n block h)
refused_stays before block why n rule h found = (λ same. absurd (err_ok why (with_len n block) same), λ stays. absurd (rule h found stays))

module _ (before looked after : Caller) (block new : BlockToken) (n count : ℕ) (has : HasBlock before block) (book : KeepsBook before looked)
    (looks : LeavesAll before.view looked.view) (moved : HasMoved n count looked block new after) where
  pub moved_resized : IsResized n before block new after
  moved_resized = record {
    len = moved.resized.len;
    align = moved.resized.align;
    framed = moved.resized.framed;
    apart = λ other ne had. moved.resized.apart other ne (block_stays before looked book.number other (looks.all.slots other.slot.meta other.slot.index) had);
  }

  pub moved_first : KeepsFirst count before block after new
  moved_first i b below known =
      moved.kept i b below (byte_stays before looked block.slot has.held (block.at + i) b has.found (looks.all.slots block.slot.meta block.slot.index) known)

  pub moved_apart : KeepsApart block before.view after.view
  moved_apart = apart_then block before.view looked.view after.view (λ m i ne. looks.all.slots m i) moved.apart

  pub moved_number : after.number ≡ before.number
  moved_number = moved.entered.number ∙ book.number

  pub moved_others : (other : BlockToken) → IsApart other.slot block.slot → HasFramed before other → HasFramed after other
  moved_others = others_framed before after block moved_number moved_apart

  pub moved_frames : KeepsFrames before after
  moved_frames = record { number = moved_number; each = λ framed. moved.each (looks.each framed) }

  pub moved_rest : KeepsRest before.view after.view
  moved_rest = rest_then before.view looked.view after.view looks.rest moved.rest
