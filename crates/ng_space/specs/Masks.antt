-- What an exchange on an avail mask tells.
use Rattle.std.specs.Prelude.{◌≡◌, ℕ, ◌+◌, ◌/◌, ◌%◌, ◌^◌, Some, None}
use Rattle.std.specs.Int.{trailing_zeros, w32}
use Rattle.ng_view.specs.Lists.{find}
use Rattle.ng_view.specs.Slots.{IsPlain}
use Rattle.ng_view.specs.Steps.{loaded, popped, read}
use Rattle.ng_view.specs.declared.view.Group.{Group}
use Rattle.ng_view.specs.declared.view.Held.{Held}
use Rattle.ng_view.specs.declared.view.View.{View}

-- the view has the slot of that meta and index, without a live block
pub record HasFree (v : View) (meta index : ℕ) : Type 0 where
  pub held : Held
  pub found : find meta index v.held ≡ Some held
  pub free : held.block ≡ None

-- the meta's mem and flags were loaded
pub record Looks (before : View) (meta : ℕ) (after : View) : Type 0 where
  pub base : ℕ
  pub flags : ℕ
  pub view : after ≡ loaded (loaded before (meta + 16) base) (meta + 32) flags

-- the slot of the lowest bit of the mask came into the view: the avail word was seen, and then the
-- meta's mem and flags. The slot's group is of a class below 48, and its slots have the whole class size
pub record Pops (before : View) (meta seen index : ℕ) (after : View) : Type 0 where
  pub lowest : index ≡ trailing_zeros w32 (seen % 2 ^ 32)
  pub group : Group
  pub of_meta : group.meta ≡ meta
  pub class : group.tag ≡ seen / 2 ^ 32
  pub plain : IsPlain group
  pub looks : Looks (read (popped before group index) (meta + 24) seen) meta after
