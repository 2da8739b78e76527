-- What comes of a malloc without the lock.
use Rattle.std.specs.Prelude.{◌≡◌, ◌≢◌, ℕ, ◌+◌, ◌*◌, ◌<◌, ◌≤◌}
use Rattle.ng_class.specs.Class.{IsLeastClass}
use Rattle.ng_group.specs.Hands.{Learns}
use Rattle.ng_mask.specs.Pops.{HasPopCause}
use Rattle.ng_mask.specs.declared.outcome.Pop.{Pop}
use Rattle.ng_mask.specs.declared.outcome.Pop.TheVariants as pop
use Rattle.ng_space.specs.Blocks.{BlockToken}
use Rattle.ng_space.specs.Callers.{Caller}
use Rattle.ng_space.specs.FirstPage.{ReadsCounter}
use Rattle.ng_space.specs.Leaving.{Entered, KeepsBook, Leaves, LeavesAll}
use Rattle.ng_terms.specs.Heap.{large}
use Rattle.ng_terms.specs.Histories.{refusal_entry}
use Rattle.ng_terms.specs.declared.entry.Entry.TheVariants.{Give}
use Rattle.ng_terms.specs.declared.refusal.AllocRefusal.TheVariants as refusal
use Rattle.ng_view.specs.Steps.{loaded}
use Rattle.ng_view.specs.declared.view.View.{View}
use Rattle.ng_heap.specs.Causes.{HasClass, threshold}
use Rattle.ng_heap.specs.Making.{IsPutBy, RefusesLarge}
use Rattle.ng_heap.specs.declared.quick.Quick.{Quick}
use Rattle.ng_heap.specs.declared.quick.Quick.TheVariants.{Given, TooLarge, Large, Idle, Bare, Other, Lost}

-- where a block was given, it is so
abbrev pub OnGiven : {X : Type 0} → Quick X → (BlockToken → Type 0) → Type 0
OnGiven (Given block) P = P block
OnGiven TooLarge P = Unit {0}
OnGiven Large P = Unit {0}
OnGiven Idle P = Unit {0}
OnGiven Bare P = Unit {0}
OnGiven (Other tag) P = Unit {0}
OnGiven Lost P = Unit {0}

-- a class serves n bytes, and the active word of the least that holds them was loaded, and nothing else was done
pub record LoadsActive (n class word : ℕ) (before after : View) : Type 0 where
  pub small : n < threshold
  pub least : IsLeastClass n class
  pub view : after ≡ loaded before (4 * (class + 1)) word

-- it was 0
pub record FindsIdle (n : ℕ) (before after : View) : Type 0 where
  pub class : ℕ
  pub loads : LoadsActive n class 0 before after

-- it was the place of a meta, and one pop there, of that class, accounts for the answer
pub record PopsActive {X : Type 0} (n : ℕ) (answer : Pop X) (before after : View) : Type 0 where
  pub class : ℕ
  pub meta : ℕ
  pub looked : View
  pub loads : LoadsActive n class meta before looked
  pub some : meta ≢ 0
  pub pops : HasPopCause looked meta class answer after

-- the pop won the block's slot, of that class; then the counter's word was loaded, and by the number found there the block was
-- put into it
pub record GivesActive (n : ℕ) (before : Caller) (block : BlockToken) (after : Caller) : Type 0 where
  pub won : View
  pub pops : PopsActive {X = Unit {0}} n (pop.Won block.slot) before.view won
  pub of_meta : block.slot.meta ≡ pops.meta
  pub of_class : HasClass after block.slot pops.class
  pub counter : ℕ
  pub counted : View
  pub counts : ReadsCounter won counter counted
  pub puts : IsPutBy counted block counter after

-- what was found in this call accounts for the answer
abbrev pub HasQuickCause : {X : Type 0} → ℕ → Caller → Quick X → Caller → Type 0
HasQuickCause n before (Given block) after = GivesActive n before block after
HasQuickCause n before TooLarge after = RefusesLarge 1 n 16 before after.view
HasQuickCause n before Large after = (n < large) × (threshold ≤ n) × (after ≡ before)
HasQuickCause n before Idle after = FindsIdle n before.view after.view
HasQuickCause n before Bare after = PopsActive {X = Unit {0}} n pop.Bare before.view after.view
HasQuickCause n before (Other tag) after = PopsActive {X = Unit {0}} n (pop.Other tag) before.view after.view
HasQuickCause n before Lost after = PopsActive {X = Unit {0}} n pop.Lost before.view after.view

-- words were read: nothing was stored, and nothing entered
pub record OnlyReads (before after : Caller) : Type 0 where
  pub book : KeepsBook before after
  pub learns : Learns before.view after.view

-- a block was put into its slot and entered, and a request that is too large was entered; else words were read alone
abbrev pub LeavesQuickly : {X : Type 0} → ℕ → Caller → Quick X → Caller → Type 0
LeavesQuickly n before (Given block) after = Entered before after (Give n 16 block.at) × Leaves block.slot before.view after.view
LeavesQuickly n before TooLarge after = Entered before after (refusal_entry n refusal.TooLarge) × LeavesAll before.view after.view
LeavesQuickly n before Large after = OnlyReads before after
LeavesQuickly n before Idle after = OnlyReads before after
LeavesQuickly n before Bare after = OnlyReads before after
LeavesQuickly n before (Other tag) after = OnlyReads before after
LeavesQuickly n before Lost after = OnlyReads before after
