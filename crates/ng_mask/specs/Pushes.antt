-- Why a push answers as it does, by the words that it found.
use Rattle.std.specs.Prelude.{◌≡◌, ◌≢◌, ℕ, zero, suc, ◌+◌, ◌%◌, ◌^◌, ◌<◌, bit_or, Some}
use Rattle.ng_class.specs.Mask.{all_bits_of}
use Rattle.ng_space.specs.Leaving.{Leaves, LeavesAll}
use Rattle.ng_space.specs.Tokens.{Token}
use Rattle.ng_view.specs.Lists.{find}
use Rattle.ng_view.specs.Steps.{loaded, pushed, read}
use Rattle.ng_view.specs.declared.view.Held.{Held}
use Rattle.ng_view.specs.declared.view.View.{View}
use Rattle.ng_mask.specs.declared.outcome.Needs.{Needs}
use Rattle.ng_mask.specs.declared.outcome.Needs.TheVariants as needs
use Rattle.ng_mask.specs.declared.outcome.Push.{Push}
use Rattle.ng_mask.specs.declared.outcome.Push.TheVariants.{Done, Left}

-- the slot of a push: its meta and index, and the last index of its group
pub record Pushed : Type 0 where
  pub meta : ℕ
  pub index : ℕ
  pub last : ℕ

-- the two masks and the slot's bit are all bits of the group
abbrev pub Fills : Pushed → ℕ → ℕ → Type 0
Fills slot freed avail = bit_or (bit_or freed avail) (2 ^ slot.index) ≡ all_bits_of slot.last

-- the freed mask and then the avail mask were loaded, as the low halves of two words
pub record Loads (slot : Pushed) (freed avail : ℕ) (before after : View) : Type 0 where
  pub first : ℕ
  pub second : ℕ
  pub freed_is : freed ≡ first % 2 ^ 32
  pub avail_is : avail ≡ second % 2 ^ 32
  pub view : after ≡ loaded (loaded before (slot.meta + 28) first) (slot.meta + 24) second

-- the masks leave room for the slot: freed isn't 0, and the group isn't full with the slot
pub record MayPush (slot : Pushed) (freed avail : ℕ) : Type 0 where
  pub some_freed : 0 < freed
  pub others : Fills slot freed avail → ⊥

-- such masks were loaded, and an exchange found another freed word
pub record LosesOnce (slot : Pushed) (before after : View) : Type 0 where
  pub freed : ℕ
  pub avail : ℕ
  pub between : View
  pub loads : Loads slot freed avail before between
  pub may : MayPush slot freed avail
  pub found : ℕ
  pub changed : found ≢ freed
  pub view : after ≡ read between (slot.meta + 28) found

-- so many exchanges were lost, one after the other
abbrev pub Loses : Pushed → ℕ → View → View → Type 0
Loses slot zero before after = before ≡ after
Loses slot (suc n) before after =
    (between : View) × Loses slot n before between × LosesOnce slot between after

-- fewer than 32 exchanges were lost, and then these masks were loaded
pub record LastLoads (slot : Pushed) (freed avail : ℕ) (before after : View) : Type 0 where
  pub lost : ℕ
  pub few : lost < 32
  pub between : View
  pub loses : Loses slot lost before between
  pub loads : Loads slot freed avail between after

-- the exchange after the last loads set the slot's bit
pub record Sets (slot : Pushed) (before after : View) : Type 0 where
  pub freed : ℕ
  pub avail : ℕ
  pub between : View
  pub loads : LastLoads slot freed avail before between
  pub may : MayPush slot freed avail
  pub view : after ≡ read (pushed between slot.meta slot.index) (slot.meta + 28) freed

-- the last freed mask loaded is 0
pub record FindsNone (slot : Pushed) (before after : View) : Type 0 where
  pub avail : ℕ
  pub loads : LastLoads slot 0 avail before after

-- the last masks loaded and the slot's bit fill the group
pub record FindsFull (slot : Pushed) (freed avail : ℕ) (before after : View) : Type 0 where
  pub loads : LastLoads slot freed avail before after
  pub some_freed : 0 < freed
  pub fills : Fills slot freed avail

-- what the slot needs follows from the masks that were loaded
abbrev pub HasNeedsCause : Pushed → Needs → View → View → Type 0
HasNeedsCause slot needs.First before after = FindsNone slot before after
HasNeedsCause slot (needs.Last freed avail) before after = FindsFull slot freed avail before after
HasNeedsCause slot needs.Lost before after = Loses slot 32 before after

abbrev pub Answers : {X : Type 0} → Pushed → Push X → View → View → Type 0
Answers slot Done before after = Sets slot before after
Answers slot (Left token needs) before after = HasNeedsCause slot needs before after

-- the group's last index was read in its flags, and what was found then accounts for the answer
pub record HasPushCause {X : Type 0} (before : View) (meta index : ℕ) (answer : Push X) (after : View) : Type 0 where
  pub flags : ℕ
  pub last : ℕ
  pub of_group : (h : Held) → find meta index before.held ≡ Some h → h.place.group.last ≡ last
  pub answers : Answers (record { meta = meta; index = index; last = last }) answer (loaded before (meta + 32) flags) after

-- where the slot was left, it is so
abbrev pub OnLeft : {X : Type 0} → Push X → (Token → Type 0) → Type 0
OnLeft Done P = Unit {0}
OnLeft (Left token needs) P = P token

-- the push leaves all of the hand but the slot that was put into the mask
abbrev pub PushLeaves : {X : Type 0} → Token → Push X → View → View → Type 0
PushLeaves slot Done before after = Leaves slot before after
PushLeaves slot (Left token needs) before after = LeavesAll before after
