-- The part Classes: each live block is in a group of a class that may serve it.
use Rattle.std.specs.Prelude.{◌≡◌, ℕ, ◌+◌, ◌-◌, max, List, Option, Some, None}
use Rattle.ng_class.specs.Class.{IsAllowedClass}
use Rattle.ng_terms.specs.declared.entry.Extent.{Extent}
use Rattle.ng_view.specs.Lists.{Among, Each}
use Rattle.ng_view.specs.declared.view.Held.{Held}
use Rattle.ng_view.specs.declared.view.View.{View}

-- the class of the tag t may serve n bytes
abbrev pub IsAllowed : ℕ → ℕ → Type 0
IsAllowed t n = (class : ℕ) × (t ≡ class + 1) × IsAllowedClass n class

-- the bytes that a block asks for: its length, and the room to align in
abbrev pub asked : Extent → ℕ
asked b = (b.len + max b.align 16) - 16

-- the slot's class may serve its block, if there is one
abbrev pub IsServed : Held → Option Extent → Type 0
IsServed h None = Unit {0}
IsServed h (Some b) = IsAllowed h.place.group.tag (asked b)

pub record Classes (vs : List View) : Type 0 where
  -- each block that a seat holds is served by its slot's class
  pub each : Each vs (λ u. (h : Held) → Among h u.held → IsServed h h.block)
