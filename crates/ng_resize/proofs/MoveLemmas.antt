-- A block that moves: a new one is made, bytes are copied to it, and the old one is freed.
use Rattle.std.proofs.Common.{[], ◌∷◌, ◌≡◌, ◌≢◌, ℕ, ◌+◌, ◌*◌, ◌/◌, ◌%◌, ◌^◌, sym, ap, ◌∙◌, subst}
use Rattle.ng_frame.specs.Judging.{IsSureByte}
use Rattle.ng_frame.proofs.Tokens.{framed_kept}
use Rattle.ng_heap.proofs.StayLemmas.{fresh_slots}
use Rattle.ng_space.specs.Blocks.{BlockToken, HasBlock, HasFramed, OfSlot}
use Rattle.ng_space.specs.Callers.{Caller}
use Rattle.ng_space.specs.Leaving.{AreFramed, Entered, KeepsRest, KeepsSlots, Leaves}
use Rattle.ng_space.proofs.Leaving.{others_then, rest_then}
use Rattle.ng_terms.specs.declared.entry.Entry.TheVariants.{Give, Take}
use Rattle.ng_view.specs.Frame.{KnowsByte}
use Rattle.ng_view.specs.declared.view.Held.{Held}
use Rattle.ng_view.specs.declared.view.View.{View}
use Rattle.ng_resize.specs.Moving.{Copies, KeepsFirst, Moves}
use Rattle.ng_resize.specs.Refusals.{EnteredAll}
use Rattle.ng_resize.specs.Resizing.{IsResized, KeepsApart}
use Rattle.ng_resize.specs.Steps.{HasMoved}
use Rattle.ng_heap.specs.Making.{IsMade}
use Rattle.ng_resize.proofs.EntryLemmas.{entered_two}
use Rattle.ng_resize.proofs.KeepLemmas.{apart_flip, apart_own, byte_stays}

-- a byte that is known is the one of which a hand is sure
sure_is : (y b c : ℕ) (h : Held) → KnowsByte y b h → IsSureByte y c h → c ≡ b
sure_is y b c h known sure = sym sure.2 ∙ ap (λ x. x / 2 ^ (8 * (y % 4)) % 256) (sym (sure.1.only known.0 known.1)) ∙ known.2

-- ---- made, and copied to
module _ (before made copied : Caller) (old new : BlockToken) (n count : ℕ) (has : HasBlock before old) (is : IsMade n 16 before new made)
    (makes : Leaves new.slot before.view made.view) (copies : Copies old new count made copied) where
  pub copied_leaves : Leaves new.slot before.view copied.view
  copied_leaves = record {
    others = others_then new.slot before.view made.view copied.view makes.others copies.leaves.others;
    rest = rest_then before.view made.view copied.view makes.rest copies.leaves.rest;
    each = λ framed. copies.leaves.each (makes.each framed);
  }

  pub copied_slots : KeepsSlots before.view copied.view
  copied_slots = fresh_slots before new.slot is.fresh copied.view copied_leaves.others

  -- ---- and freed
  module _ (after : Caller) (frees : Leaves old.slot copied.view after.view) (gives : Entered before made (Give n 16 new.at))
      (takes : Entered copied after (Take old.at)) (framed : HasFramed copied new) where
    moved_apart : KeepsApart old before.view after.view
    moved_apart = apart_own old before.view copied.view after.view copied_slots frees

    moved_rest : KeepsRest before.view after.view
    moved_rest = rest_then before.view copied.view after.view copied_leaves.rest frees.rest

    moved_each : AreFramed before.view → AreFramed after.view
    moved_each all = frees.each (copied_leaves.each all)

    moved_framed : HasFramed after new
    moved_framed = framed_kept copied after old.slot takes.number frees.others new (apart_flip old.slot new.slot (is.fresh.blocks old has)) framed

    moved_resized : IsResized n before old new after
    moved_resized = record { len = is.len; align = is.align; framed = moved_framed; apart = λ other ne had. is.fresh.blocks other had }

    moved_elsewhere : new.at ≢ old.at
    moved_elsewhere same = is.apart old has (sym same)

    moved_entered : EnteredAll before after (Give n 16 new.at ∷ Take old.at ∷ [])
    moved_entered = entered_two before copied after (Give n 16 new.at) (Take old.at) (record {
      number = copies.book.number ∙ gives.number;
      spare = ap (λ s. s + 1) copies.book.spare ∙ gives.spare;
      entries = copies.book.entries ∙ gives.entries;
    }) takes

    -- what was known of the bytes that were copied
    pub moved_kept : KeepsFirst count before old after new
    moved_kept i b below known =
        byte_stays copied after new.slot framed.has.held (new.at + i) b framed.has.found
        (frees.others.slots new.slot.meta new.slot.index (apart_flip old.slot new.slot (is.fresh.blocks old has)))
        there
      where
        there : OfSlot copied new.slot (KnowsByte (new.at + i) b)
        there k found =
            let h = copied_slots old.slot.meta old.slot.index has.held has.found in
            let one = copies.bytes h.0 k h.1 found i below in
            let here = byte_stays before copied old.slot has.held (old.at + i) b has.found (copied_slots old.slot.meta old.slot.index) known h.0 h.1 in
            let same : one.0 ≡ b = sure_is (old.at + i) b one.0 h.0 here one.1 in
            subst (λ x. KnowsByte (new.at + i) x k) same one.2

    pub has_moved : HasMoved n count before old new after
    has_moved = record {
      resized = moved_resized;
      elsewhere = moved_elsewhere;
      kept = moved_kept;
      entered = moved_entered;
      apart = moved_apart;
      rest = moved_rest;
      each = moved_each;
    }

-- the same of an equal number of bytes
pub moves_as : {S : Type 0} (making : Caller → BlockToken → Caller → S → Type 0) (freeing : S → Caller → View → Type 0)
    (before : Caller) (old : BlockToken) (count other : ℕ) (new : BlockToken) (after : Caller) → count ≡ other
    → Moves making freeing before old count new after → Moves making freeing before old other new after
moves_as making freeing before old count other new after same moves = subst (λ k. Moves making freeing before old k new after) same moves
