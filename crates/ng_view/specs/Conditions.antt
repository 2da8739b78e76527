-- What steps ask of a view.
use Rattle.std.specs.Prelude.{◌≡◌, ◌≢◌, ◌⊎◌, ℕ, ◌+◌, ◌/◌, ◌%◌, ◌<◌, ◌≤◌, leb, true, false, ◌*◌}
use Rattle.std.specs.Int.{bit_at}
use Rattle.ng_view.specs.declared.view.Start.{Start}
use Rattle.ng_view.specs.declared.view.Group.{Group}
use Rattle.ng_view.specs.declared.view.Run.{Run}
use Rattle.ng_view.specs.declared.view.View.{View}
use Rattle.ng_view.specs.Lists.{Among, count_of}
use Rattle.ng_terms.specs.Heap.{extent}
use Rattle.ng_view.specs.Places.{header}
use Rattle.ng_view.specs.Frame.{Frames}
use Rattle.ng_view.specs.Classes.{IsAllowed, asked}
use Rattle.ng_view.specs.Layouts.{Inside, InArea, OnRun, IsKind, IsAreaAt}
use Rattle.ng_view.specs.Slots.{IsPlain}
use Rattle.ng_view.specs.declared.view.Held.{Held}

-- what a give of n bytes at p asks of a slot: its cells carry the frame but for the header cell, which gets x, and its
-- class may serve the block
pub record Gives (h : Held) (p n a x : ℕ) : Type 0 where
  pub framed : Frames h p n x
  pub allowed : IsAllowed h.place.group.tag (asked (extent p n a))
  pub fits : x < 4294967296

-- the meta has no group, and none begins at the run
abbrev pub IsUnborn : View → ℕ → Type 0
IsUnborn v m = (g : Group) → Among g v.desk.groups → g.meta ≢ m

abbrev pub IsEmpty : View → Run → Type 0
IsEmpty v r = (g : Group) → Among g v.desk.groups → g.base ≢ r.addr

-- the cell is one of a noted run at which the desk has no group
pub record IsRunCell (v : View) (a : ℕ) : Type 0 where
  pub run : Run
  pub noted : Among run v.desk.layout.runs
  pub plain : run.area ≡ false
  pub inside : Inside run a
  pub free : IsEmpty v run

-- the cell is one of an area's meta for which the desk has no group
pub record IsMetaCell (v : View) (a : ℕ) : Type 0 where
  pub meta : ℕ
  pub whole : meta % 4 ≡ 0
  pub in_area : InArea v.desk.layout meta
  pub unborn : IsUnborn v meta
  pub from : meta ≤ a
  pub below : a < meta + 40

-- the lock's seat builds or clears the cell
abbrev pub Builds : View → ℕ → Type 0
Builds v a = (a % 4 ≡ 0) × (IsRunCell v a ⊎ IsMetaCell v a)

-- the lock's seat knows the cell at a, which it builds or clears, to have the value x
abbrev pub Sees : View → ℕ → ℕ → Type 0
Sees v a x = Among {A = ℕ × ℕ} (a, x) v.desk.cells

-- the number x has a group's flags
pub record HasFlags (g : Group) (x : ℕ) : Type 0 where
  pub last : x % 32 ≡ g.last
  pub freeable : x / 32 % 2 ≡ 1
  pub class : x / 64 % 64 + 1 ≡ g.tag
  pub maplen : x / 4096 ≡ g.maplen

-- the seat knows the cells of the mapped group g and of its meta; the freed mask is f
pub record Built (v : View) (g : Group) (mask f : ℕ) : Type 0 where
  pub whole : g.meta % 4 ≡ 0
  pub area : InArea v.desk.layout g.meta
  pub unborn : IsUnborn v g.meta
  pub live : 0 < g.tag
  pub low : g.tag < 65
  pub kind : IsKind g
  pub run : OnRun v.desk.layout.runs g
  pub empty : IsEmpty v run.run
  pub base_whole : g.base % 16 ≡ 0
  -- the meta
  pub links : (b : ℕ) → b < 16 → b % 4 ≡ 0 → Sees v (g.meta + b) 0
  pub mem : Sees v (g.meta + 16) g.base
  pub mem_high : Sees v (g.meta + 20) 0
  pub freed : Sees v (g.meta + 28) f
  pub flags : ℕ
  pub flags_known : Sees v (g.meta + 32) flags
  pub flags_are : HasFlags g flags
  pub flags_high : Sees v (g.meta + 36) 0
  -- the group
  pub base : Sees v g.base g.meta
  pub base_high : Sees v (g.base + 4) 0
  pub lows : (i : ℕ) → i ≤ g.last + 1 → (x : ℕ) × Sees v (header g i) x × (x % 256 ≡ 0)
  -- the masks
  pub small : mask < 4294967296
  pub masks : (i : ℕ) → i < 32 → bit_at mask i + bit_at f i ≤ count_of (leb i g.last)
  pub plain : (i : ℕ) → i < 32 → 0 < bit_at mask i + bit_at f i → IsPlain g

-- the seat knows the cells of a run of one page to be those of an area
pub record AreaBuilt (key : Start) (v : View) (r : Run) : Type 0 where
  pub there : Among r v.desk.layout.runs
  pub plain : r.area ≡ false
  pub page : r.pages ≡ 1
  pub empty : IsEmpty v r
  pub check : Sees v (r.addr + 0) (key.secret % 4294967296)
  pub check_high : Sees v (r.addr + 4) (key.secret / 4294967296)
  pub next : ℕ
  pub next_known : Sees v (r.addr + 8) next
  pub next_is : (next ≡ 0) ⊎ IsAreaAt v.desk.layout.runs next
  pub next_high : Sees v (r.addr + 12) 0
  pub nslots : Sees v (r.addr + 16) 101
  pub nslots_high : Sees v (r.addr + 20) 0
  pub tail : (b : ℕ) → b % 4 ≡ 0 → 4064 ≤ b → b < 4096 → Sees v (r.addr + b) 0
  pub metas : (i : ℕ) → i < 101 → Sees v (r.addr + 24 + 40 * i + 24) 0

-- ---- what a close asks of the lock's view: each run is an area or the run of a live group
abbrev pub IsSettled : View → Type 0
IsSettled v = (r : Run) → Among r v.desk.layout.runs → (r.area ≡ true)
    ⊎ ((g : Group) × Among g v.desk.groups × (g.base ≡ r.addr))

-- and the words of an area's metas without a live group are known to be 0
abbrev pub IsBlanked : View → Type 0
IsBlanked v = (m b : ℕ) → m % 4 ≡ 0 → InArea v.desk.layout m → IsUnborn v m → b < 40 → b % 4 ≡ 0
    → Sees v (m + b) 0
