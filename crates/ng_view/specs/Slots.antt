-- The part Slots: the life cycle of slots.
use Rattle.std.specs.Prelude.{◌≡◌, ℕ, ◌+◌, ◌%◌, ◌<◌, ◌≤◌, List}
use Rattle.ng_view.specs.Lists.{Among, Each, total_by}
use Rattle.ng_view.specs.Cells.{group_at, marked, owed}
use Rattle.ng_view.specs.Places.{class_size, stride}
use Rattle.ng_view.specs.Views.{has}
use Rattle.ng_view.specs.declared.view.Group.{Group}
use Rattle.ng_view.specs.declared.view.Held.{Held}
use Rattle.ng_view.specs.declared.view.Nest.{Nest}
use Rattle.ng_view.specs.declared.view.Place.{Place}
use Rattle.ng_view.specs.declared.view.View.{View}

-- what a view says of a slot's group is what the words say of it now
pub record IsPlace (ws : List ℕ) (p : Place) : Type 0 where
  pub group : p.group ≡ group_at ws p.group.meta
  pub whole : p.group.meta % 4 ≡ 0
  pub few : p.index < 32

-- the group is of a class below 48, and its slots have the whole class size
pub record IsPlain (g : Group) : Type 0 where
  pub small : g.tag < 49
  pub wide : class_size g.tag ≤ stride g

pub record Slots (ws : List ℕ) (vs : List View) : Type 0 where
  -- each slot of a live group is in exactly one of its two masks and the views, and there once; no
  -- bit above the last index is set, and no other slot is in a view
  pub each : (m i : ℕ) → m % 4 ≡ 0 → i < 32 → marked ws m i + total_by (has m i) vs ≡ owed ws m i
  -- no bit is set in a group of class 63, nor in one whose stride is below its class size
  pub plain : (m i : ℕ) → m % 4 ≡ 0 → i < 32 → 0 < marked ws m i → IsPlain (group_at ws m)
  -- the places of the slots that a seat holds are right
  pub held : Each vs (λ u. (h : Held) → Among h u.held → IsPlace ws h.place)
  -- and those of the slots that carry a group
  pub nests : Each vs (λ u. (n : Nest) → Among n u.desk.layout.nests → IsPlace ws n.place)
