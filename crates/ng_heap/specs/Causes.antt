-- Which group serves a request, and why one is refused.
use Rattle.std.specs.Prelude.{◌≡◌, ◌⊎◌, ℕ, ◌+◌, ◌<◌, ◌≤◌, max}
use Rattle.ng_group.specs.Asking.{BuildsWanted, LeavesHeap, RefusedWanted}
use Rattle.ng_group.specs.ClassFor.{IsClassFor, IsLooked}
use Rattle.ng_group.specs.Lone.{BuildsLone, IsLoneRefused}
use Rattle.ng_group.specs.States.{State}
use Rattle.ng_group.specs.Untouched.{IsUntouched}
use Rattle.ng_mapper.specs.declared.refusals.Refusals.{Refusals}
use Rattle.ng_policy.specs.declared.ask.Ask.{Ask}
use Rattle.ng_terms.specs.Accounts.{pages_for}
use Rattle.ng_terms.specs.Causes.{Rose}
use Rattle.ng_terms.specs.declared.refusal.AllocRefusal.{AllocRefusal}
use Rattle.ng_terms.specs.declared.refusal.AllocRefusal.TheVariants.{NoMemory, TooLarge}
use Rattle.ng_space.specs.Blocks.{OfSlot}
use Rattle.ng_space.specs.Callers.{Caller}
use Rattle.ng_space.specs.Tokens.{Token}

-- from so many bytes on a block is a group by itself
abbrev pub threshold : ℕ
threshold = 131052

-- the core chose the class for a request of n bytes as it looked then
pub record Looks {M P : Type 0} (before looked : State M P) (n class : ℕ) : Type 0 where
  pub only : IsLooked before looked
  pub class_is : IsClassFor before looked n class

-- the slot is of a group of the class
abbrev pub HasClass : Caller → Token → ℕ → Type 0
HasClass hand slot class = OfSlot hand slot (λ h. h.place.group.tag ≡ class + 1)

-- a request of n bytes got the slot. Where n is large, the slot is a group by itself, which alone was built; else it is of
-- the class that the core chose as it looked then, and nothing was built that wasn't wanted for it
abbrev pub HasSource : {M P : Type 0} → (Ask → ℕ → Type 0) → State M P → State M P → ℕ → Caller → Token → Type 0
HasSource {M} {P} counts before after n hand slot = ((threshold ≤ n) × HasClass hand slot 63 × BuildsLone slot.meta before after n)
    ⊎ ((n < threshold) × ((looked : State M P) × (class : ℕ) × Looks before looked n class × HasClass hand slot class
    × BuildsWanted counts looked after class n))

-- and the lock's seat stored nothing in the slot, but for the 0 with which it built the slot's group
pub record BuildsFor {M P : Type 0} (counts : Ask → ℕ → Type 0) (before after : State M P) (n : ℕ) (hand : Caller) (slot : Token) : Type 0 where
  pub source : HasSource counts before after n hand slot
  pub untouched : IsUntouched slot.meta slot.index before.seat after.seat

-- a map call was refused for a request of n bytes: for the run of a block by itself, or of a group that is wanted, or for an
-- area that is needed; and the core's groups are as they were
abbrev pub IsRunRefused : {M P : Type 0} → (Ask → ℕ → Type 0) → State M P → State M P → ℕ → ℕ → Type 0
IsRunRefused {M} {P} counts before after n pages = ((threshold ≤ n) × IsLoneRefused before after n pages × LeavesHeap before after)
    ⊎ ((n < threshold) × ((looked : State M P) × (class : ℕ) × Looks before looked n class
    × RefusedWanted counts looked after class n pages × LeavesHeap looked after))

-- no memory comes with the number of a map call that was refused in this call; a request that is too large asks for none
abbrev pub HasRefusalCause : {M P : Type 0} → (Ask → ℕ → Type 0) → (M → Refusals) → State M P → State M P → ℕ → AllocRefusal → Type 0
HasRefusalCause counts refused before after n (NoMemory excuse) = (excuse ≡ (refused after.mapper).count)
    × Rose (refused before.mapper).count (refused after.mapper).count
    × ((refused after.mapper).most ≤ max (refused before.mapper).most (max 512 (pages_for n)))
    × IsRunRefused counts before after n (refused after.mapper).last
HasRefusalCause counts refused before after n TooLarge = after ≡ before
