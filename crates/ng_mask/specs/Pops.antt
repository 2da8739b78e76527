-- Why a pop answers as it does, by the words that it found.
use Rattle.std.specs.Prelude.{◌≡◌, ◌≢◌, ℕ, zero, suc, ◌+◌, ◌/◌, ◌%◌, ◌^◌, ◌<◌}
use Rattle.ng_space.specs.Leaving.{Leaves, LeavesAll}
use Rattle.ng_space.specs.Masks.{Pops}
use Rattle.ng_space.specs.Tokens.{Token}
use Rattle.ng_view.specs.Steps.{loaded, read}
use Rattle.ng_view.specs.declared.view.View.{View}
use Rattle.ng_mask.specs.declared.outcome.Pop.{Pop}
use Rattle.ng_mask.specs.declared.outcome.Pop.TheVariants.{Won, Bare, Other, Lost}

-- the avail word is that of a group of the class, with some bit set
pub record HasSlots (class word : ℕ) : Type 0 where
  pub tag : word / 2 ^ 32 ≡ class + 1
  pub mask : 0 < word % 2 ^ 32

-- an avail word with slots was loaded, and an exchange found another
pub record LosesOnce (meta class : ℕ) (before after : View) : Type 0 where
  pub seen : ℕ
  pub found : ℕ
  pub slots : HasSlots class seen
  pub changed : found ≢ seen
  pub view : after ≡ read (loaded before (meta + 24) seen) (meta + 24) found

-- so many exchanges were lost, one after the other
abbrev pub Loses : ℕ → ℕ → ℕ → View → View → Type 0
Loses meta class zero before after = before ≡ after
Loses meta class (suc n) before after =
    (between : View) × Loses meta class n before between × LosesOnce meta class between after

-- fewer than 32 exchanges were lost, and then the avail word was loaded
pub record LastLoads (meta class seen : ℕ) (before after : View) : Type 0 where
  pub lost : ℕ
  pub few : lost < 32
  pub between : View
  pub loses : Loses meta class lost before between
  pub view : after ≡ loaded between (meta + 24) seen

-- a slot was won by the exchange after the last load
pub record Wins (meta class index : ℕ) (before after : View) : Type 0 where
  pub seen : ℕ
  pub between : View
  pub loads : LastLoads meta class seen before between
  pub slots : HasSlots class seen
  pub pops : Pops between meta seen index after

-- the last word loaded is that of a group of the class with no bit set
pub record FindsBare (meta class : ℕ) (before after : View) : Type 0 where
  pub seen : ℕ
  pub loads : LastLoads meta class seen before after
  pub tag_is : seen / 2 ^ 32 ≡ class + 1
  pub mask : seen % 2 ^ 32 ≡ 0

-- the last word loaded has another tag
pub record FindsOther (meta class tag : ℕ) (before after : View) : Type 0 where
  pub seen : ℕ
  pub loads : LastLoads meta class seen before after
  pub tag_is : seen / 2 ^ 32 ≡ tag
  pub other : tag ≢ class + 1

-- the words that the pop found account for its answer
abbrev pub HasPopCause : {X : Type 0} → View → ℕ → ℕ → Pop X → View → Type 0
HasPopCause before meta class (Won slot) after = Wins meta class slot.index before after
HasPopCause before meta class Bare after = FindsBare meta class before after
HasPopCause before meta class (Other tag) after = FindsOther meta class tag before after
HasPopCause before meta class Lost after = Loses meta class 32 before after

-- where a slot was won, it is so
abbrev pub OnWon : {X : Type 0} → Pop X → (Token → Type 0) → Type 0
OnWon (Won slot) P = P slot
OnWon Bare P = Unit {0}
OnWon (Other tag) P = Unit {0}
OnWon Lost P = Unit {0}

-- the pop leaves all of the hand but the slot that was won
abbrev pub PopLeaves : {X : Type 0} → Pop X → View → View → Type 0
PopLeaves (Won slot) before after = Leaves slot before after
PopLeaves Bare before after = LeavesAll before after
PopLeaves (Other tag) before after = LeavesAll before after
PopLeaves Lost before after = LeavesAll before after
