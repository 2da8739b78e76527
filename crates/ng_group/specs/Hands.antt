-- What a hand comes to have by a call of the core.
use Rattle.std.specs.Prelude.{◌≡◌, ◌≢◌, ◌⊎◌, ℕ, ◌+◌, ◌≤◌, max, List, [], ◌∷◌, Some}
use Rattle.ng_view.specs.Notes.{excuse_of_call}
use Rattle.ng_view.specs.Blocks.{Knows}
use Rattle.ng_view.specs.Steps.{popped, with_excuse}
use Rattle.ng_view.specs.declared.view.Group.{Group}
use Rattle.ng_view.specs.declared.view.Held.{Held}
use Rattle.ng_view.specs.declared.view.View.{View}
use Rattle.ng_mapper.specs.declared.refusals.Refusals.{Refusals}
use Rattle.ng_space.specs.Callers.{Caller}
use Rattle.ng_space.specs.Passed.{ExcuseToken, HasExcuse}
use Rattle.ng_space.specs.Tokens.{HasSlot, Token}
use Rattle.ng_terms.specs.Causes.{Rose}
use Rattle.ng_group.specs.Steps.{Came}

-- the same slot with the same block, of which more cells may be known
pub record IsSameSlot (h k : Held) : Type 0 where
  pub place : k.place ≡ h.place
  pub block : k.block ≡ h.block
  pub known : (a x : ℕ) → Knows a x h → Knows a x k

-- the same slots in their order
abbrev pub AreSameSlots : List Held → List Held → Type 0
AreSameSlots [] [] = Unit {0}
AreSameSlots [] (k ∷ ks) = ⊥
AreSameSlots (h ∷ hs) [] = ⊥
AreSameSlots (h ∷ hs) (k ∷ ks) = IsSameSlot h k × AreSameSlots hs ks

-- words were read, and more cells of the slots may be known; all else is as before
pub record Learns (v w : View) : Type 0 where
  pub view : w ≡ record v { held = w.held; readings = w.readings }
  pub slots : AreSameSlots v.held w.held
  pub came : Came v w

-- a slot of a group came, and words were read
pub record GainsSlot (meta index : ℕ) (v w : View) : Type 0 where
  pub group : Group
  pub of_meta : group.meta ≡ meta
  pub learns : Learns (popped v group index) w

-- the excuse of a refused map call came, and words were read
pub record GainsExcuse (number : ℕ) (v w : View) : Type 0 where
  pub learns : Learns (with_excuse v (Some (excuse_of_call number))) w

-- the hand has the excuse, which alone came; its number is the mapper's count of refusals, which rose; and the most refused
-- pages, where they rose, rose to so many at most
pub record GetsExcuse (pages : ℕ) (before after : Caller) (was now : Refusals) (excuse : ExcuseToken) : Type 0 where
  pub has : HasExcuse after excuse
  pub gains : GainsExcuse excuse.number before.view after.view
  pub number_is : excuse.number ≡ now.count
  pub rose : Rose was.count now.count
  pub most : now.most ≤ max was.most pages

-- the hand has the slot, of a group of the class, with room for so many bytes and 4
pub record IsSlotFor (class bytes : ℕ) (hand : Caller) (token : Token) : Type 0 where
  pub has : HasSlot hand token
  pub of_class : has.held.place.group.tag ≡ class + 1
  pub roomy : bytes + 4 ≤ token.room

-- the tokens are of different slots
abbrev pub IsApart : Token → Token → Type 0
IsApart token other = (token.meta ≢ other.meta) ⊎ (token.index ≢ other.index)
