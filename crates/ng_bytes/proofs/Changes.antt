-- What a hand has of a block once some of its bytes have changed.
use Rattle.std.proofs.Common.{◌≡◌, ◌⊎◌, ℕ, ◌+◌, ◌*◌, ◌/◌, ◌%◌, ◌<◌, ◌≤◌, refl, sym, ap, ◌∙◌, subst, ⊎_elim, inl}
use Rattle.std.specs.Prelude.{Option, Some}
use Rattle.ng_terms.specs.Heap.{extent}
use Rattle.ng_terms.specs.declared.entry.Extent.{Extent}
use Rattle.ng_header.specs.Bytes.{byte_of}
use Rattle.ng_frame.specs.Contents.{KeepsAround}
use Rattle.ng_frame.proofs.Frames.{of_found}
use Rattle.ng_frame.proofs.Judged.{some_is}
use Rattle.ng_rule.proofs.geometry.Lists.{among_edit, find_among, find_edit}
use Rattle.ng_space.specs.Blocks.{BlockToken, HasBlock, HasFramed, OfSlot}
use Rattle.ng_space.specs.Callers.{Caller}
use Rattle.ng_space.specs.Leaving.{AreFramed, HasFrame, KeepsBook, Leaves, LeavesAll, Stays}
use Rattle.ng_space.proofs.Holding.{find-loaded}
use Rattle.ng_space.proofs.Leaving.{loaded_others, loaded_rest, others_then, rest_then, stored_others, stored_rest}
use Rattle.ng_space.proofs.LeavingFrames.{all_leaves, leaves_then, loaded_each}
use Rattle.ng_view.specs.Frame.{IsFramed, KnowsByte}
use Rattle.ng_view.specs.Lists.{Among, find}
use Rattle.ng_view.specs.Steps.{learnt, loaded, stored, wrote}
use Rattle.ng_view.specs.declared.view.Held.{Held}
use Rattle.ng_view.specs.declared.view.View.{View}
use Rattle.ng_bytes.specs.Steps.{Changes}
use Rattle.ng_bytes.proofs.Around.{around_framed, around_then, around_wider, learns_around}

-- ---- a cell of the block is loaded, and stored with some of its bytes changed
module _ (old mid new : Caller) (block : BlockToken) (has : HasBlock old block) (c word value first behind : ℕ)
    (loads : mid.view ≡ loaded old.view c word) (stores : new.view ≡ stored mid.view block.slot.meta block.slot.index c value)
    (keeps : KeepsAround first behind has.held (wrote c value (learnt c word has.held))) where
  abbrev m : ℕ
  m = block.slot.meta

  abbrev i : ℕ
  i = block.slot.index

  abbrev last : Held
  last = wrote c value (learnt c word has.held)

  mid_found : find m i mid.view.held ≡ Some (learnt c word has.held)
  mid_found = ap (λ (u : View). find m i u.held) loads ∙ find-loaded old.view c word m i has.held has.found

  pub last_found : find m i new.view.held ≡ Some last
  last_found = ap (λ (u : View). find m i u.held) stores ∙ find_edit m i (wrote c value) mid.view.held (learnt c word has.held) (λ y. refl) mid_found

  around : Stays m i old.view new.view (KeepsAround first behind)
  around h found = (last, last_found, subst (λ (k : Held). KeepsAround first behind k last) (some_is has.held h (sym has.found ∙ found)) keeps)

  -- its frame stays known
  own : block.at ≤ first → behind ≤ block.at + block.len → AreFramed old.view → HasFrame last
  own from to framed b live =
      let was = framed has.held (find_among m i old.view.held has.held has.found).0 b live in
      let both : ◌≡◌ {A = Option Extent} (Some b) (Some (extent block.at block.len block.align)) = sym live ∙ has.live in
      let is : b ≡ extent block.at block.len block.align = some_is b (extent block.at block.len block.align) both in
      around_framed has.held last first behind b.at b.len keeps
      (subst (λ (e : Extent). e.at ≤ first) (sym is) from) (subst (λ (e : Extent). behind ≤ e.at + e.len) (sym is) to) was

  each : block.at ≤ first → behind ≤ block.at + block.len → AreFramed old.view → AreFramed new.view
  each from to framed k there = ⊎_elim
      (λ (was : Among k mid.view.held). loaded_each old.view mid.view c word loads framed k was)
      (λ (q : k ≡ last). subst HasFrame (sym q) (own from to framed))
      (among_edit m i (wrote c value) mid.view.held (learnt c word has.held) k mid_found (subst (λ (u : View). Among k u.held) stores there))

  leaves : block.at ≤ first → behind ≤ block.at + block.len → Leaves block.slot old.view new.view
  leaves from to = record {
    others = others_then block.slot old.view mid.view new.view (loaded_others block.slot old.view mid.view c word loads)
        (stored_others block.slot mid.view new.view c value stores);
    rest = rest_then old.view mid.view new.view (loaded_rest old.view mid.view c word loads)
        (stored_rest mid.view new.view m i c value stores);
    each = each from to;
  }

  pub stored_changes : block.at ≤ first → behind ≤ block.at + block.len → HasBlock new block → KeepsBook old new → Changes first behind block old new
  stored_changes from to still book = record { around = around; has = still; leaves = leaves from to; book = book }

  -- and the bytes that were stored are known
  pub stored_byte : (y b : ℕ) → 4 * (y / 4) ≡ c → byte_of value (y % 4) ≡ b → OfSlot new block.slot (KnowsByte y b)
  stored_byte y b here is =
      of_found new block.slot last (KnowsByte y b) last_found (value, inl (ap (λ (a : ℕ). (a, value)) here), is)

-- ---- other steps
pub book_then : (one two three : Caller) → KeepsBook one two → KeepsBook two three → KeepsBook one three
book_then one two three first second = record {
  number = second.number ∙ first.number;
  spare = second.spare ∙ first.spare;
  entries = second.entries ∙ first.entries;
}

-- no slot changes
pub learns_changes : (first behind : ℕ) (block : BlockToken) (old new : Caller) → HasBlock new block → LeavesAll old.view new.view → KeepsBook old new
    → Changes first behind block old new
learns_changes first behind block old new has leaves book = record {
  around = λ h found. (let k = leaves.all.slots block.slot.meta block.slot.index h found in (k.0, k.1, learns_around first behind h k.0 k.2));
  has = has;
  leaves = all_leaves block.slot old.view new.view leaves;
  book = book;
}

-- ---- one after the other
pub wider_changes : (f b first behind : ℕ) (block : BlockToken) (old new : Caller) → first ≤ f → b ≤ behind → Changes f b block old new
    → Changes first behind block old new
wider_changes f b first behind block old new low high ch = record {
  around = λ h found. (let k = ch.around h found in (k.0, k.1, around_wider f b first behind h k.0 low high k.2));
  has = ch.has;
  leaves = ch.leaves;
  book = ch.book;
}

pub changes_then : (first behind : ℕ) (block : BlockToken) (one two three : Caller) → Changes first behind block one two
    → Changes first behind block two three → Changes first behind block one three
changes_then first behind block one two three c d = record {
  around = λ h found. (let k = c.around h found in let l = d.around k.0 k.1 in (l.0, l.1, around_then first behind h k.0 l.0 k.2 l.2));
  has = d.has;
  leaves = leaves_then block.slot one.view two.view three.view c.leaves d.leaves;
  book = book_then one two three c.book d.book;
}

-- ---- what stays
module _ (first behind : ℕ) (block : BlockToken) (old new : Caller) (ch : Changes first behind block old new) where
  pub changes_framed : block.at ≤ first → behind ≤ block.at + block.len → HasFramed old block → HasFramed new block
  changes_framed from to f =
      let k = ch.around f.has.held f.has.found in
      let same : k.0 ≡ ch.has.held = some_is k.0 ch.has.held (sym k.1 ∙ ch.has.found) in record {
        has = ch.has;
        framed = subst (λ (h : Held). IsFramed h block.at block.len) same
            (around_framed f.has.held k.0 first behind block.at block.len k.2 from to f.framed);
      }

  pub changes_byte : HasBlock old block → (y b : ℕ) → (y < first) ⊎ (behind ≤ y) → OfSlot old block.slot (KnowsByte y b)
      → OfSlot new block.slot (KnowsByte y b)
  changes_byte has y b out known =
      let k = ch.around has.held has.found in
      of_found new block.slot k.0 (KnowsByte y b) k.1 (k.2.bytes y b out (known has.held has.found))
