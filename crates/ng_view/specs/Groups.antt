-- How groups come to live in the lock's seat, and cease to.
use Rattle.std.specs.Prelude.{◌≡◌, ◌≢◌, ◌⊎◌, ℕ, ◌+◌, ◌%◌, ◌<◌, ◌≤◌, leb, eqb, cond, false, ◌∷◌, Some, None}
use Rattle.std.specs.Int.{bit_at}
use Rattle.ng_view.specs.Blocks.{Knows}
use Rattle.ng_view.specs.Conditions.{Built, HasFlags, IsUnborn, Sees}
use Rattle.ng_view.specs.Layouts.{InArea, IsKind, IsNested}
use Rattle.ng_view.specs.LockSteps.{cells_off, moving, nest_of, nested_in, retired_nested, run_published}
use Rattle.ng_view.specs.Lists.{Among, count_of, find, select}
use Rattle.ng_view.specs.Places.{header, reach, slot_end, slot_start, stride}
use Rattle.ng_view.specs.Slots.{IsPlain}
use Rattle.ng_view.specs.declared.view.Group.{Group}
use Rattle.ng_view.specs.declared.view.Held.{Held}
use Rattle.ng_view.specs.declared.view.Nest.{Nest}
use Rattle.ng_view.specs.declared.view.View.{View}
use Rattle.ng_view.specs.Fetches.{HasGroup}

-- the seat knows the cells of the meta of g, which has no live group; the freed mask is f
pub record BuiltMeta (v : View) (g : Group) (f : ℕ) : Type 0 where
  pub whole : g.meta % 4 ≡ 0
  pub area : InArea v.desk.layout g.meta
  pub unborn : IsUnborn v g.meta
  pub live : 0 < g.tag
  pub low : g.tag < 65
  pub kind : IsKind g
  pub links : (b : ℕ) → b < 16 → b % 4 ≡ 0 → Sees v (g.meta + b) 0
  pub mem : Sees v (g.meta + 16) g.base
  pub mem_high : Sees v (g.meta + 20) 0
  pub freed : Sees v (g.meta + 28) f
  pub flags : ℕ
  pub flags_known : Sees v (g.meta + 32) flags
  pub flags_are : HasFlags g flags
  pub flags_high : Sees v (g.meta + 36) 0

-- no bit is in both masks or above the last index, and none is set where the class is 63 or the stride
-- below the class size
pub record AreMasks (g : Group) (mask f : ℕ) : Type 0 where
  pub small : mask < 4294967296
  pub apart : (i : ℕ) → i < 32 → bit_at mask i + bit_at f i ≤ count_of (leb i g.last)
  pub plain : (i : ℕ) → i < 32 → 0 < bit_at mask i + bit_at f i → IsPlain g

-- the past cell of g is the header of the next slot behind h, or the low byte of the header cell i is 0
abbrev pub IsLowHeader : Held → Group → ℕ → Type 0
IsLowHeader h g i = (header g i ≡ slot_end h.place) ⊎ ((x : ℕ) × Knows (header g i) x h × (x % 256 ≡ 0))

-- the seat knows the cells of the group g in the slot h, which is in motion, and those of its meta
pub record BuiltNested (v : View) (h : Held) (g : Group) (mask f : ℕ) : Type 0 where
  pub meta : BuiltMeta v g f
  pub masks : AreMasks g mask f
  pub found : find h.place.group.meta h.place.index v.held ≡ Some h
  pub begins : g.base ≡ slot_start h.place
  pub nested : IsNested g h.place.group
  pub fits : reach g ≤ stride h.place.group
  pub lower : g.tag < h.place.group.tag
  pub base : Knows g.base g.meta h
  pub base_high : Knows (g.base + 4) 0 h
  pub lows : (i : ℕ) → i ≤ g.last + 1 → IsLowHeader h g i

-- a mapped group of that meta and class is built
pub record BuildsRun (v : View) (meta class mask : ℕ) : Type 0 where
  pub group : Group
  pub freed : ℕ
  pub built : Built v group mask freed
  pub of_meta : group.meta ≡ meta
  pub of_class : group.tag ≡ class + 1

-- a nested one is
pub record BuildsNested (v : View) (meta class mask : ℕ) : Type 0 where
  pub group : Group
  pub slot : Held
  pub freed : ℕ
  pub built : BuiltNested v slot group mask freed
  pub of_meta : group.meta ≡ meta
  pub of_class : group.tag ≡ class + 1

abbrev pub MayPublish : View → ℕ → ℕ → ℕ → Type 0
MayPublish v meta class mask = BuildsRun v meta class mask ⊎ BuildsNested v meta class mask

-- publish in a slot
abbrev pub slot_published : View → Held → Group → ℕ → ℕ → View
slot_published v h g mask f = nested_in v g (select (moving g mask f) 32) (cells_off g.meta (g.meta + 40) v.desk.cells) (cond (eqb mask 0) (g.meta ∷ v.desk.zero_avail) v.desk.zero_avail) h

-- the group is live: the slots in neither mask are in motion, the meta is listed, and a mask of 0 is noted.
-- The slot of a nested one carries it; before that none did
pub record Publishes (v : View) (meta class mask : ℕ) (w : View) : Type 0 where
  pub run : (b : BuildsRun v meta class mask) → w ≡ run_published v b.group b.built.run.run mask b.freed
  pub nested : (b : BuildsNested v meta class mask) → w ≡ slot_published v b.slot b.group mask b.freed
  pub uncarried : (n : Nest) → Among n v.desk.layout.nests → n.child ≢ meta

-- every slot of the live group of that meta is in the seat, in motion
pub record HasAllSlots (v : View) (meta : ℕ) : Type 0 where
  pub live : HasGroup v meta
  pub each : (i : ℕ) → i ≤ live.group.last → (h : Held) × (find meta i v.held ≡ Some h)

-- a slot of a larger live group carries the group, which lies in it from its start on
pub record IsCarriedIn (v : View) (g : Group) : Type 0 where
  pub nest : Nest
  pub carries : nest_of g.meta v.desk.layout.nests ≡ Some nest
  pub parent : Among nest.place.group v.desk.groups
  pub index : nest.place.index ≤ nest.place.group.last
  pub nested : IsNested g nest.place.group
  pub lower : g.tag < nest.place.group.tag
  pub begins : g.base ≡ slot_start nest.place
  pub fits : reach g ≤ stride nest.place.group

-- the group is no more: the slot that carried it is in motion again. No other live group began there. A
-- group without pages of its own was carried by a slot; one with pages had a noted run, and no slot carried it
pub record Retires (v : View) (meta : ℕ) (w : View) : Type 0 where
  pub view : w ≡ retired_nested v meta
  pub carried : (g : Group) → Among g v.desk.groups → g.meta ≡ meta → g.maplen ≡ 0 → IsCarriedIn v g
  pub alone : (g h : Group) → Among g v.desk.groups → g.meta ≡ meta → Among h v.desk.groups → h.base ≡ g.base → h ≡ g
  pub uncarried : (g : Group) → Among g v.desk.groups → g.meta ≡ meta → 0 < g.maplen → nest_of meta v.desk.layout.nests ≡ None
  pub paged : (g : Group) → Among g v.desk.groups → g.meta ≡ meta → 0 < g.maplen → Among (record { addr = g.base; pages = g.maplen; area = false }) v.desk.layout.runs
