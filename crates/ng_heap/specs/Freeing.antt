-- What comes of a free without the lock.
use Rattle.std.specs.Prelude.{◌≡◌, Bool, List}
use Rattle.ng_frame.specs.Inspects.{Takes}
use Rattle.ng_group.specs.Returning.{ReturnsOfHand}
use Rattle.ng_group.specs.States.{State}
use Rattle.ng_mapper.specs.Runs as mapper
use Rattle.ng_mask.specs.Pushes.{HasPushCause}
use Rattle.ng_mask.specs.declared.outcome.Push.{Push}
use Rattle.ng_mask.specs.declared.outcome.Push.TheVariants as push
use Rattle.ng_policy.specs.declared.ask.Spare.{Spare}
use Rattle.ng_space.specs.Blocks.{BlockToken}
use Rattle.ng_space.specs.Callers.{Caller}
use Rattle.ng_space.specs.Tokens.{Token}
use Rattle.ng_view.specs.Steps.{pushed}
use Rattle.ng_view.specs.declared.view.View.{View}
use Rattle.ng_heap.specs.declared.freeing.Unlocked.{Unlocked}
use Rattle.ng_heap.specs.declared.freeing.Unlocked.TheVariants.{Done, Left}

-- where the slot was left, it is so
abbrev pub OnLeft : {X : Type 0} → Unlocked X → (Token → Type 0) → Type 0
OnLeft Done P = Unit {0}
OnLeft (Left slot needs) P = P slot

-- the push's answer for the free's
abbrev pub pushed_as : {X : Type 0} → Unlocked X → Push X
pushed_as Done = push.Done
pushed_as (Left slot needs) = push.Left slot needs

-- the block was taken out of its slot, and what was found then in the masks of the slot's group accounts for the answer
pub record FreesUnlocked {X : Type 0} (before : Caller) (block : BlockToken) (answer : Unlocked X) (after : View) : Type 0 where
  pub taken : View
  pub takes : Takes before.view block before.number taken
  pub pushes : HasPushCause taken block.slot.meta block.slot.index (pushed_as answer) after

-- a slot that was pushed is back in its group, and one that the push left went out of the hand then
abbrev pub GoesBack : Unlocked (Unit {0}) → View → View → Type 0
GoesBack Done left after = after ≡ left
GoesBack (Left slot needs) left after = after ≡ pushed left slot.meta slot.index

-- the block was taken out of its slot, which was pushed, and went back where the push left it
pub record Frees (before : Caller) (block : BlockToken) (after : View) : Type 0 where
  pub freed : Unlocked (Unit {0})
  pub left : View
  pub frees : FreesUnlocked before block freed left
  pub of_block : OnLeft freed (λ slot. slot ≡ block.slot)
  pub back : GoesBack freed left after

-- the core took a slot that the push left, and did nothing with one that was pushed
abbrev pub Settles : {M P : Type 0} → (Spare → Bool → Type 0) → (M → List mapper.Run) → State M P → State M P → Unlocked (Unit {0}) → Type 0
Settles keeps runs before after Done = after ≡ before
Settles keeps runs before after (Left slot needs) = ReturnsOfHand keeps runs before after slot.meta slot.index

-- the block was freed, and its slot was settled under the lock where the push left it
pub record FreesIn {M P : Type 0} (keeps : Spare → Bool → Type 0) (runs : M → List mapper.Run) (before : Caller) (block : BlockToken)
    (core core_after : State M P) (after : View) : Type 0 where
  pub hand : Frees before block after
  pub settles : Settles keeps runs core core_after hand.freed
