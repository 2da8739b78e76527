-- Groups that are to be built.
use Rattle.std.specs.Prelude.{◌⊎◌, ℕ, ◌+◌, ◌-◌, ◌*◌, ◌<◌, ◌≤◌}
use Rattle.ng_class.specs.Mask.{all_bits_of}
use Rattle.ng_view.specs.Layouts.{IsLoneKind, IsSmallKind}
use Rattle.ng_view.specs.Places.{reach, size_of}
use Rattle.ng_view.specs.declared.view.Group.{Group}
use Rattle.ng_view.specs.declared.view.View.{View}
use Rattle.ng_build.specs.declared.draft.Draft.{Draft}
use Rattle.ng_build.specs.Cells.{AreZero, IsIdleMeta}

-- the group of a draft
abbrev pub draft_group : Draft → Group
draft_group d = record {
  meta = d.meta;
  base = d.base;
  tag = d.class + 1;
  last = d.last;
  maplen = d.maplen;
}

-- the bits of the slots 1 to active
abbrev pub avail_of : ℕ → ℕ
avail_of active = all_bits_of active - 1

-- the meta has no live group, and its ten cells are known to be 0
pub record IsBlankMeta (v : View) (meta : ℕ) : Type 0 where
  pub idle : IsIdleMeta v meta
  pub zero : AreZero v meta (meta + 40)

-- no slot behind the last is in use, and there are at most 32
pub record IsCounted (d : Draft) : Type 0 where
  pub active : d.active ≤ d.last
  pub last : d.last < 32

-- a group of a class below 48 that is too large to be nested, and its pages hold its slots
pub record IsLarge (g : Group) : Type 0 where
  pub kind : IsSmallKind g
  pub large : 2048 < size_of g + 16
  pub fits : reach g ≤ 4096 * g.maplen

-- the group may begin a run of its own
abbrev pub FitsRun : Group → Type 0
FitsRun g = IsLarge g ⊎ IsLoneKind g
