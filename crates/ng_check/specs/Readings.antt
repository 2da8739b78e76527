-- What the steps of a check tell each other. No public clause cites this module.
use Rattle.std.specs.Prelude.{◌≡◌, ℕ, ◌+◌, ◌*◌, ◌-◌, ◌/◌, ◌%◌, ◌<◌, ◌≤◌, ◌&&◌, ◌==◌, Bool, true, false, nat_lt, if◌then◌else◌, length, Option, Some, None, Ok}
use Rattle.ng_view.specs.Lists.{Among}
use Rattle.ng_view.specs.Tells.{Tells}
use Rattle.ng_view.specs.declared.view.Start.{Start}
use Rattle.ng_space.specs.Callers.{Caller}
use Rattle.ng_space.specs.Leaving.{KeepsBook}
use Rattle.ng_space.specs.Placed.{ArePlaced, IsSmall}
use Rattle.ng_class.specs.Slot.{end_at, start_at, stride_of}
use Rattle.ng_meta.specs.Flags.{IsInRange}
use Rattle.ng_meta.specs.Place.{IsMetaPlace}
use Rattle.ng_meta.specs.declared.flags.Fields.{Fields}
use Rattle.ng_check.specs.Cells.{AreOnce, loaded_in_turn}
use Rattle.ng_check.specs.Checks as checks
use Rattle.ng_check.specs.Checks.{check}
use Rattle.ng_check.specs.Queries as query
use Rattle.ng_check.specs.Queries.{Query, cell, is_class}
use Rattle.ng_check.specs.Answers.{found_of}
use Rattle.ng_check.specs.declared.ending.Bounds.{Bounds}
use Rattle.ng_check.specs.declared.fault.Found.{Found}
use Rattle.ng_check.specs.declared.fault.PointerFault.{PointerFault}
use Rattle.ng_check.specs.declared.group.Group.{Group}
use Rattle.ng_check.specs.declared.header.Header.{Header}

-- ---- loads
-- what a hand's loads found, since it was as before, is what the query has
pub record Reads (key : Start) (before : Caller) (q : Query) (now : Caller) : Type 0 where
  pub view : now.view ≡ loaded_in_turn before.view q.cells
  pub once : AreOnce q.cells
  -- each of the cells tells of the hand as it was before
  pub told : (a x : ℕ) → Among (a, x) q.cells → Tells key before.view a x × ArePlaced key before.view × IsSmall before.view a x
  pub book : KeepsBook before now

-- some cell was loaded
pub record HasCell (q : Query) : Type 0 where
  pub at : ℕ
  pub value : ℕ
  pub is : cell q at ≡ Some value

-- the later query has what the other has, and may have more
pub record Grows (q later : Query) : Type 0 where
  pub same : later ≡ record q { cells = later.cells }
  pub cells : (a x : ℕ) → cell q a ≡ Some x → cell later a ≡ Some x

-- from one query and hand to the next by at most n loads
pub record Goes (key : Start) (n : ℕ) (q : Query) (hand : Caller) (later : Query) (after : Caller) : Type 0 where
  pub reads : (before : Caller) → Reads key before q hand → Reads key before later after
  pub grows : Grows q later
  pub few : length later.cells ≤ length q.cells + n

-- ---- what passed
-- the check of a query answers with that fault
abbrev pub Fails : Query → PointerFault → Type 0
Fails q fault = check q ≡ Some (Some fault)

-- the address is a multiple of 16 in the space, behind page 0
pub record IsPlaced (q : Query) : Type 0 where
  pub misaligned : checks.misaligned q ≡ Some false
  pub outside : checks.outside q ≡ Some false
  pub whole : q.addr % 16 ≡ 0
  pub above : 4096 ≤ q.addr
  pub below : q.addr < 4096 * q.pages

-- the first three checks passed, and the header and the offset are these
pub record HasHeader (q : Query) (h : Header) : Type 0 where
  pub placed : IsPlaced q
  pub bad_wide : checks.bad_wide q ≡ Some false
  pub header : query.header q ≡ Some h.cell
  pub offset : query.offset q ≡ Some h.offset
  pub small : h.offset < 4294967296

-- and the fourth, and so are the group's base and meta
pub record HasGroup (q : Query) (h : Header) (g : Group) : Type 0 where
  pub has : HasHeader q h
  pub not_group : checks.not_group q ≡ Some false
  pub base : query.base q ≡ Some g.base
  pub meta : query.meta q ≡ Some g.meta
  pub place : IsMetaPlace g.meta q.pages
  pub is : g.base ≡ q.addr - 16 * h.offset - 16
  pub above : 4096 ≤ g.base
  pub index : g.index ≡ h.cell / 256 % 32

-- and the next three, and so are the group's fields
pub record IsListed (q : Query) (h : Header) (g : Group) (f : Fields) : Type 0 where
  pub has : HasGroup q h g
  pub fields : query.fields q ≡ Some f
  pub bad_index : checks.bad_index q ≡ Some false
  pub available : checks.available q ≡ Some false
  pub freed : checks.is_freed q ≡ Some false

-- and those up to the eleventh, and so are the group's fields
pub record HasSlot (q : Query) (h : Header) (g : Group) (f : Fields) : Type 0 where
  pub listed : IsListed q h g f
  pub bad_secret : checks.bad_secret q ≡ Some false
  pub bad_offset : checks.bad_offset q ≡ Some false
  pub bad_class : checks.bad_class q ≡ Some false
  pub bad_maplen : checks.bad_maplen q ≡ Some false
  pub class : query.is_class f ≡ true
  pub range : IsInRange f

-- ---- the slot
-- the bounds of a slot, where the class is one of groups and the end is in the space
abbrev pub bounds_in : ℕ → ℕ → ℕ → Fields → Option Bounds
bounds_in pages base index f =
    let step = stride_of f.class f.last f.maplen in
    if is_class f && nat_lt (end_at (base + 16) step index) (4096 * pages)
    then Some (record { start = start_at (base + 16) step index; end = end_at (base + 16) step index }) else None

-- a group is one slot with more pages than that
abbrev pub is_longer_than : ℕ → Fields → Bool
is_longer_than pages f = f.last == 0 && nat_lt pages f.maplen

-- the slot ends there, not below the address
pub record HasEnd (q : Query) (e : ℕ) : Type 0 where
  pub end : query.end q ≡ Some e
  pub from : q.addr ≤ e
  pub below : e < 4096 * q.pages
  pub whole : e % 16 ≡ 12

-- the twelfth check passed, and so many bytes before the slot's end are reserved
pub record HasReserved (q : Query) (e r : ℕ) : Type 0 where
  pub bad_reserved : checks.bad_reserved q ≡ Some false
  pub reserved : query.reserved q ≡ Some (Ok r)
  pub within : r ≤ e - q.addr

-- all passed, and that is what was found
pub record Passes (q : Query) (found : Found) : Type 0 where
  pub passes : check q ≡ Some None
  pub is : found ≡ found_of q
