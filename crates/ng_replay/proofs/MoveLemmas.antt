-- What an op tells of its hand.
use Rattle.std.proofs.Common.{◌≡◌, Option, Some, None, IfSome, ap, sym, ◌∙◌, subst, ⊎_elim, inl, inr}
use Rattle.ng_space.specs.Leaving.{AreFramed, KeepsOthers, KeepsRest, KeepsSlots}
use Rattle.ng_space.proofs.Leaving.{rest_itself}
use Rattle.ng_frame.proofs.Tokens.{framed_kept, framed_stays}
use Rattle.ng_group.specs.Hands.{IsApart}
use Rattle.ng_heap.specs.Keeps.{IsFresh, KeepsFrames}
use Rattle.ng_space.specs.Blocks.{BlockToken, HasFramed}
use Rattle.ng_space.specs.Callers.{Caller}
use Rattle.ng_space.specs.Tokens.{Token}
use Rattle.ng_replay.specs.Serving.{IsApartFrom}

pub IsApart-flip : (slot other : Token) → IsApart slot other → IsApart other slot
IsApart-flip slot other apart = ⊎_elim (λ meta. inl (λ e. meta (sym e))) (λ index. inr (λ e. index (sym e))) apart

-- a fresh block is apart from each that the hand had
pub IsApartFrom-fresh : (before : Caller) (made : Option BlockToken) (other : BlockToken) → IfSome made (λ block. IsFresh before block.slot)
    → HasFramed before other → IsApartFrom made other
IsApartFrom-fresh before None other fresh had = tt
IsApartFrom-fresh before (Some block) other fresh had = fresh.blocks other had.has

-- a framed block stays so where its slot does
pub HasFramed-kept : (before after : Caller) → after.number ≡ before.number → KeepsSlots before.view after.view
    → (block : BlockToken) → HasFramed before block → HasFramed after block
HasFramed-kept before after number slots block = framed_stays before after number block (slots block.slot.meta block.slot.index)

pub HasFramed-beside : (before after : Caller) (slot : Token) → after.number ≡ before.number → KeepsOthers slot before.view after.view
    → (other : BlockToken) → IsApart other.slot slot → HasFramed before other → HasFramed after other
HasFramed-beside before after slot number others other apart = framed_kept before after slot number others other apart

-- one step after the other, and none
pub KeepsFrames-then : (one two three : Caller) → KeepsFrames one two → KeepsFrames two three → KeepsFrames one three
KeepsFrames-then one two three first second = record {
  number = second.number ∙ first.number;
  each = λ framed. second.each (first.each framed);
}

pub KeepsFrames-same : (before after : Caller) → after ≡ before → KeepsFrames before after
KeepsFrames-same before after same = record {
  number = ap (λ (hand : Caller). hand.number) same;
  each = λ framed. subst (λ (hand : Caller). AreFramed hand.view) (sym same) framed;
}

pub KeepsRest-same : (before after : Caller) → after ≡ before → KeepsRest before.view after.view
KeepsRest-same before after same = subst (λ (hand : Caller). KeepsRest before.view hand.view) (sym same) (rest_itself before.view)
