-- A block that moves into a slot of its own length.
use Rattle.std.specs.Prelude.{◌≡◌, ℕ, ◌+◌, ◌<◌, Some}
use Rattle.ng_group.specs.States.{State}
use Rattle.ng_heap.specs.Causes.{BuildsFor}
use Rattle.ng_heap.specs.Freeing.{Frees}
use Rattle.ng_heap.specs.Making.{IsGivenNow}
use Rattle.ng_policy.specs.declared.ask.Ask.{Ask}
use Rattle.ng_space.specs.Blocks.{BlockToken, OfSlot}
use Rattle.ng_space.specs.Callers.{Caller}
use Rattle.ng_space.specs.Leaving.{KeepsBook, Leaves, Stays}
use Rattle.ng_view.specs.Frame.{KnowsByte}
use Rattle.ng_view.specs.Lists.{find}
use Rattle.ng_view.specs.declared.view.Held.{Held}
use Rattle.ng_view.specs.declared.view.View.{View}
use Rattle.ng_bytes.specs.Contents.{AreCopied}
use Rattle.ng_frame.specs.Contents.{KeepsAround}
use Rattle.ng_heap.specs.Making.{IsMade}

-- each of the first bytes of a block that was known is known of another block after, at the same distance
abbrev pub KeepsFirst : ℕ → Caller → BlockToken → Caller → BlockToken → Type 0
KeepsFirst count before old after new = (i b : ℕ) → i < count
    → OfSlot before old.slot (KnowsByte (old.at + i) b) → OfSlot after new.slot (KnowsByte (new.at + i) b)

-- the first bytes of a block were copied to another, in whose slot alone was stored
pub record Copies (old new : BlockToken) (count : ℕ) (before after : Caller) : Type 0 where
  pub bytes : (h k : Held) → find old.slot.meta old.slot.index after.view.held ≡ Some h
      → find new.slot.meta new.slot.index after.view.held ≡ Some k → AreCopied old.at new.at count h k
  pub around : Stays new.slot.meta new.slot.index before.view after.view (KeepsAround new.at (new.at + count))
  pub leaves : Leaves new.slot before.view after.view
  pub book : KeepsBook before after

-- a block of n bytes was given
pub record Makes (n : ℕ) (before : Caller) (new : BlockToken) (after : Caller) : Type 0 where
  pub made : IsMade n 16 before new after
  pub given : (counter : ℕ) × IsGivenNow before.view new counter after

-- by the core, which came to be so
pub record MakesIn {M P : Type 0} (counts : Ask → ℕ → Type 0) (core : State M P) (n : ℕ)
    (before : Caller) (new : BlockToken) (after : Caller) (core_after : State M P) : Type 0 where
  pub made : IsMade n 16 before new after
  pub builds : BuildsFor counts core core_after n after new.slot
  pub given : IsGivenNow before.view new core_after.counter after

-- what a move tells of the core: nothing
abbrev pub makes_alone : ℕ → Caller → BlockToken → Caller → Unit {0} → Type 0
makes_alone n before new after core = Makes n before new after

abbrev pub frees_alone : BlockToken → Unit {0} → Caller → View → Type 0
frees_alone block core before after = Frees before block after

-- the new block was made, the first bytes of the old one were copied to it, and the old one was freed. S is what the core is
-- between the make and the free
pub record Moves {S : Type 0} (making : Caller → BlockToken → Caller → S → Type 0) (freeing : S → Caller → View → Type 0)
    (before : Caller) (old : BlockToken) (count : ℕ) (new : BlockToken) (after : Caller) : Type 0 where
  pub made : Caller
  pub core : S
  pub makes : making before new made core
  pub copied : Caller
  pub copies : Copies old new count made copied
  pub frees : freeing core copied after.view
  pub kept : KeepsFirst count before old after new
