-- What the word that a load found tells, by the loading seat's own slots.
use Rattle.std.specs.Prelude.{◌≡◌, ◌≢◌, ◌⊎◌, ℕ, ◌+◌, ◌*◌, ◌/◌, ◌%◌, ◌<◌, ◌≤◌}
use Rattle.std.specs.Int.{bit_at}
use Rattle.ng_view.specs.declared.view.Group.{Group}
use Rattle.ng_view.specs.declared.view.Held.{Held}
use Rattle.ng_view.specs.declared.view.View.{View}
use Rattle.ng_view.specs.declared.view.Start.{Start}
use Rattle.ng_view.specs.Lists.{Among}
use Rattle.ng_view.specs.Places.{slot_start, stride, reach, size_of}
use Rattle.ng_view.specs.Blocks.{Knows, IsSet}
use Rattle.ng_view.specs.Layouts.{IsKind}
use Rattle.ng_view.specs.Conditions.{HasFlags}
use Rattle.ng_meta.specs.Place.{IsMetaPlace}

-- the group has pages of its own, which hold it
pub record IsOfRun (g : Group) : Type 0 where
  pub paged : 0 < g.maplen
  pub fits : reach g ≤ 4096 * g.maplen
  pub large : (g.tag ≡ 64) ⊎ (2048 < size_of g + 16)

-- the group is nested
pub record IsOfSlot (g : Group) : Type 0 where
  pub unmapped : g.maplen ≡ 0
  pub low : g.tag < 49
  pub small : size_of g + 16 ≤ 2048

-- the word x at the address a, for a slot that the seat has
pub record TellsSlot (key : Start) (h : Held) (a x : ℕ) : Type 0 where
  -- its place is as the rule says of a live group
  pub index : h.place.index ≤ h.place.group.last
  pub kind : IsKind h.place.group
  pub live : 0 < h.place.group.tag
  pub few : h.place.group.last < 32
  pub whole : h.place.group.base % 16 ≡ 0
  pub meta : IsMetaPlace h.place.group.meta key.pages
  pub above : key.lower ≤ h.place.group.base
  pub below : h.place.group.base + reach h.place.group ≤ key.upper
  pub lies : IsOfRun h.place.group ⊎ IsOfSlot h.place.group
  -- its block lies in it, and its header is known
  pub block : IsSet h h.block
  -- the meta's mem and flags
  pub mem : a ≡ h.place.group.meta + 16 → x ≡ h.place.group.base
  pub mem_high : a ≡ h.place.group.meta + 20 → x ≡ 0
  pub flags : a ≡ h.place.group.meta + 32 → HasFlags h.place.group x
  pub flags_high : a ≡ h.place.group.meta + 36 → x ≡ 0
  -- its bit is in neither mask
  pub avail : a ≡ h.place.group.meta + 24 → (x / 4294967296 ≡ h.place.group.tag)
      × (bit_at x h.place.index ≡ 0)
  pub freed : a ≡ h.place.group.meta + 28 → bit_at x h.place.index ≡ 0
  -- the two cells at the base, the check of the meta's area, and the low byte at the slot's end
  pub base : a ≡ h.place.group.base → x ≡ h.place.group.meta
  pub base_high : a ≡ h.place.group.base + 4 → x ≡ 0
  pub check : a ≡ h.place.group.meta / 4096 * 4096 → x ≡ key.secret % 4294967296
  pub check_high : a ≡ h.place.group.meta / 4096 * 4096 + 4 → x ≡ key.secret / 4294967296
  pub end : a + 4 ≡ slot_start h.place + stride h.place.group → x % 256 ≡ 0
  -- a cell that is known, as the header cells of a block are
  pub known : (y : ℕ) → Knows a y h → x ≡ y

pub record Tells (key : Start) (v : View) (a x : ℕ) : Type 0 where
  pub slots : (h : Held) → Among h v.held → TellsSlot key h a x
  -- a word of page 0
  pub active : (c : ℕ) → c < 48 → a ≡ 4 * (c + 1) → (x ≡ 0) ⊎ IsMetaPlace x key.pages
  pub rest : a < 4096 → (a < 4) ⊎ (192 < a) → a ≢ 196 → x ≡ 0

-- the word n at the address a, for a live group of the desk
pub record TellsGroup (g : Group) (a n : ℕ) : Type 0 where
  pub mem : a ≡ g.meta + 16 → n ≡ g.base
  pub mem_high : a ≡ g.meta + 20 → n ≡ 0
  pub flags : a ≡ g.meta + 32 → HasFlags g n
  pub flags_high : a ≡ g.meta + 36 → n ≡ 0
