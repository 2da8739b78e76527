-- Where a slot lies, as the rule says of each slot that a seat has.
use Rattle.std.specs.Prelude.{◌≡◌, ℕ, ◌+◌, ◌-◌, ◌*◌, ◌%◌, ◌<◌, ◌≤◌, List}
use Rattle.ng_class.specs.Slot.{IsGroupClass}
use Rattle.ng_meta.specs.Place.{IsMetaPlace}
use Rattle.ng_view.specs.Conditions.{HasFlags}
use Rattle.ng_view.specs.Lists.{Among, count_of, is_at, total_by}
use Rattle.ng_view.specs.Places.{Owns, reach}
use Rattle.ng_view.specs.declared.view.Group.{Group}
use Rattle.ng_view.specs.declared.view.Held.{Held}
use Rattle.ng_view.specs.declared.view.Place.{Place}
use Rattle.ng_view.specs.declared.view.Start.{Start}
use Rattle.ng_view.specs.declared.view.View.{View}

-- the slot's group is of a class of slots, its meta stands in the space, and so do its slots
pub record LiesIn (key : Start) (p : Place) : Type 0 where
  pub index : p.index ≤ p.group.last
  pub many : p.group.last < 32
  pub live : 0 < p.group.tag
  pub class : IsGroupClass (p.group.tag - 1) p.group.last p.group.maplen
  pub few : p.group.maplen ≤ 16384
  pub meta : IsMetaPlace p.group.meta key.pages
  pub whole : p.group.base % 16 ≡ 0
  pub inside : p.group.base + reach p.group ≤ 4096 * key.pages

-- and so of each slot in a view
abbrev pub ArePlaced : Start → View → Type 0
ArePlaced key v = (h : Held) → Among h v.held → LiesIn key h.place

-- the word x at the address a is one of 32 bits where that cell is a slot's own
abbrev pub IsSmall : View → ℕ → ℕ → Type 0
IsSmall v a x = (h : Held) → Among h v.held → Owns h.place a → x < 4294967296

-- how often a view has the slot i of the meta m
abbrev pub times_at : ℕ → ℕ → View → ℕ
times_at m i v = total_by (λ (k : Held). count_of (is_at m i k.place)) v.held

-- and each slot stands there once
abbrev pub AreOnce : View → Type 0
AreOnce v = (h : Held) → Among h v.held → times_at h.place.group.meta h.place.index v ≤ 1

-- the words of a meta's mem and flags are those of the place's group, and it is the slot of that index
pub record IsRead (p : Place) (meta index base flags : ℕ) : Type 0 where
  pub meta_is : p.group.meta ≡ meta
  pub index_is : p.index ≡ index
  pub base_is : p.group.base ≡ base
  pub flags_are : HasFlags p.group flags

-- the place is that of a slot of one of these groups
pub record IsSlotOf (groups : List Group) (p : Place) : Type 0 where
  pub there : Among p.group groups
  pub within : p.index ≤ p.group.last

-- and so is that of each slot in the lock's seat, of its live groups
abbrev pub AreOfGroups : View → Type 0
AreOfGroups v = (h : Held) → Among h v.held → IsSlotOf v.desk.groups h.place

-- some slot in the view is of the group of that meta
pub record HasSlotOf (v : View) (meta : ℕ) : Type 0 where
  pub slot : Held
  pub there : Among slot v.held
  pub of_meta : slot.place.group.meta ≡ meta
