-- What is stored for a new group. No public clause cites this module.
use Rattle.std.specs.Prelude.{◌≡◌, ◌⊎◌, ℕ, ◌+◌, ◌-◌, ◌*◌, ◌<◌, ◌≤◌}
use Rattle.ng_class.specs.Mask.{all_bits_of}
use Rattle.ng_view.specs.LockSteps.{built}
use Rattle.ng_view.specs.declared.view.View.{View}
use Rattle.ng_build.specs.declared.draft.Draft.{Draft}
use Rattle.ng_build.specs.Nestings.{SeesIn}

-- the bits of the slots behind the active one, to the last
abbrev pub freed_of : ℕ → ℕ → ℕ
freed_of active last = all_bits_of last - all_bits_of active

-- the low cell of a draft's flags: its last index, that it may be freed, its class and its pages
abbrev pub flags_of : Draft → ℕ
flags_of d = d.last + 32 + 64 * d.class + 4096 * d.maplen

-- the view once the cells of a draft's meta are stored
abbrev pub with_meta : View → Draft → View
with_meta v d =
    let placed : View = built v (d.meta + 16) d.base in
    let masked : View = built placed (d.meta + 28) (freed_of d.active d.last) in
    built masked (d.meta + 32) (flags_of d)

-- ---- in a slot
-- so many header cells of a group's slots, from the first on, are the carrier's own, whose stride is room;
-- the one behind the last slot isn't where the slots reach the carrier's end
pub record HasHeaders (step last room count : ℕ) : Type 0 where
  pub own : (i : ℕ) → i < count → 16 + step * i < room
  pub all : (i : ℕ) → i ≤ last + 1 → (i < count) ⊎ (16 + step * i ≡ room)

-- what v knows of the slot's cells below an address, w knows too
abbrev pub KeepsIn : View → View → ℕ → ℕ → ℕ → Type 0
KeepsIn v w meta index to = (a x : ℕ) → a < to → SeesIn v meta index a x → SeesIn w meta index a x
