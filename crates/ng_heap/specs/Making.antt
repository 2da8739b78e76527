-- What a request comes to.
use Rattle.std.specs.Prelude.{◌≡◌, ◌≢◌, ℕ, ◌*◌, ◌-◌, ◌%◌, Result, Ok, Err}
use Rattle.ng_group.specs.Hands.{GainsExcuse, GainsSlot}
use Rattle.ng_terms.specs.Heap.{IsTooLarge}
use Rattle.ng_terms.specs.declared.entry.Entry.{Entry}
use Rattle.ng_terms.specs.declared.entry.Entry.TheVariants.{Give, NoMemory, TooLarge}
use Rattle.ng_terms.specs.declared.refusal.AllocRefusal.{AllocRefusal}
use Rattle.ng_terms.specs.declared.refusal.AllocRefusal.TheVariants as refusal
use Rattle.ng_space.specs.Blocks.{BlockToken, HasBlock, HasFramed, OfSlot}
use Rattle.ng_space.specs.Callers.{Caller}
use Rattle.ng_space.specs.Entries.{Enters}
use Rattle.ng_space.specs.Leaving.{Leaves}
use Rattle.ng_space.specs.Passed.{EntersNoMemory}
use Rattle.ng_view.specs.Frame.{IsGiven}
use Rattle.ng_view.specs.Steps.{loaded}
use Rattle.ng_view.specs.declared.view.View.{View}
use Rattle.ng_heap.specs.Keeps.{IsFresh}

-- the entry of a request of n bytes with an align
abbrev pub request_entry : ℕ → ℕ → Result BlockToken AllocRefusal → Entry
request_entry n align (Ok block) = Give n align block.at
request_entry n align (Err (refusal.NoMemory excuse)) = NoMemory n excuse
request_entry n align (Err refusal.TooLarge) = TooLarge 1 n align

-- the entry of a request of so many elements of a size
abbrev pub calloc_entry : ℕ → ℕ → Result BlockToken AllocRefusal → Entry
calloc_entry count size (Ok block) = Give (count * size) 16 block.at
calloc_entry count size (Err (refusal.NoMemory excuse)) = NoMemory (count * size) excuse
calloc_entry count size (Err refusal.TooLarge) = TooLarge count size 16

-- the hand has a framed block of n bytes with the align, in a slot apart from those that it had, and at an address
-- apart from those of its blocks
pub record IsMade (n alignment : ℕ) (before : Caller) (block : BlockToken) (after : Caller) : Type 0 where
  pub len : block.len ≡ n
  pub align : block.align ≡ alignment
  pub framed : HasFramed after block
  pub fresh : IsFresh before block.slot
  pub apart : (other : BlockToken) → HasBlock before other → other.at ≢ block.at

-- the word in front of the slot's start was loaded, and by the low half that was found the block is where it belongs; since then
-- nothing of the view changed but the slot, the book, what was read and what was stored, and each store came behind that load
pub record IsPutBy (came : View) (block : BlockToken) (counter : ℕ) (after : Caller) : Type 0 where
  pub word : ℕ
  pub leaves : Leaves block.slot (loaded came (block.slot.start - 4) word) after.view
  pub given : OfSlot after block.slot (λ h. IsGiven h block.at block.len block.align (word % 4294967296) counter)

-- the slot came, with no cell stored, and then the block was put into it
pub record IsGivenNow (before : View) (block : BlockToken) (counter : ℕ) (after : Caller) : Type 0 where
  pub came : View
  pub gains : GainsSlot block.slot.meta block.slot.index before came
  pub puts : IsPutBy came block counter after

-- the excuse of a refused map call came into the hand, and went with the entry of the request
pub record SpendsExcuse (n : ℕ) (before : Caller) (excuse : ℕ) (after : View) : Type 0 where
  pub came : View
  pub gains : GainsExcuse excuse before.view came
  pub enters : EntersNoMemory came before.number n excuse after

-- the request is too large, and that was entered, with nothing else done
pub record RefusesLarge (count size align : ℕ) (before : Caller) (after : View) : Type 0 where
  pub large : IsTooLarge count size align
  pub enters : Enters before.view before.number (TooLarge count size align) after

-- no memory comes with the number of an excuse that came in this call; a request that is too large asks for none
abbrev pub RefusesNow : ℕ → ℕ → Caller → AllocRefusal → View → Type 0
RefusesNow n align before (refusal.NoMemory excuse) after = SpendsExcuse n before excuse after
RefusesNow n align before refusal.TooLarge after = RefusesLarge 1 n align before after

-- so it is of a request of so many elements of a size
abbrev pub RefusesProduct : ℕ → ℕ → Caller → AllocRefusal → View → Type 0
RefusesProduct count size before (refusal.NoMemory excuse) after = SpendsExcuse (count * size) before excuse after
RefusesProduct count size before refusal.TooLarge after = RefusesLarge count size 16 before after
