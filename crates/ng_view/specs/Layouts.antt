-- Runs, areas and groups, as the words of a space have them.
use Rattle.std.specs.Prelude.{◌≡◌, ◌≢◌, ◌⊎◌, ℕ, ◌+◌, ◌*◌, ◌/◌, ◌%◌, ◌<◌, ◌≤◌, true, false, List}
use Rattle.ng_meta.specs.Place.{meta_place, IsMetaPlace}
use Rattle.ng_view.specs.Lists.{Among}
use Rattle.ng_view.specs.Cells.{cell, tag}
use Rattle.ng_view.specs.Places.{IsClass, units, stride, slot_start, reach, header, size_of}
use Rattle.ng_view.specs.declared.view.Group.{Group}
use Rattle.ng_view.specs.declared.view.Nest.{Nest}
use Rattle.ng_view.specs.declared.view.Run.{Run}
use Rattle.ng_view.specs.declared.view.Layout.{Layout}
use Rattle.ng_view.specs.declared.view.Start.{Start}

-- the address is in the run
abbrev pub Inside : Run → ℕ → Type 0
Inside r a = (r.addr ≤ a) × (a < r.addr + 4096 * r.pages)

-- and in no noted run
abbrev pub IsOutside : Layout → ℕ → Type 0
IsOutside d a = (r : Run) → Among r d.runs → Inside r a → ⊥

-- a run is whole pages between the bounds
pub record IsRun (key : Start) (r : Run) : Type 0 where
  pub whole : r.addr % 4096 ≡ 0
  pub above : key.lower ≤ r.addr
  pub below : r.addr + 4096 * r.pages ≤ key.upper
  pub some : 1 ≤ r.pages

-- the meta is the k-th of a noted area
pub record InArea (d : Layout) (m : ℕ) : Type 0 where
  pub run : Run
  pub number : ℕ
  pub noted : Among run d.runs
  pub is_area : run.area ≡ true
  pub page : run.pages ≡ 1
  pub place : m ≡ meta_place run.addr number
  pub below : number < 101

-- a live group begins its run, which has maplen pages, and no group of its size is nested
pub record OnRun (runs : List Run) (g : Group) : Type 0 where
  pub run : Run
  pub noted : Among run runs
  pub plain : run.area ≡ false
  pub begins : run.addr ≡ g.base
  pub fits : reach g ≤ 4096 * run.pages
  pub pages : run.pages ≡ g.maplen
  pub large : (g.tag ≡ 64) ⊎ (2048 < size_of g + 16)

-- the group g is small enough to be nested, and p is of the least class with room for it
pub record IsNested (g p : Group) : Type 0 where
  pub unmapped : g.maplen ≡ 0
  pub low : g.tag < 49
  pub small : size_of g + 16 ≤ 2048
  pub parent : IsClass p.tag (size_of g + 12)

-- a live group lies in a slot, from its start on
pub record InNest (nests : List Nest) (g : Group) : Type 0 where
  pub nest : Nest
  pub noted : Among nest nests
  pub child : nest.child ≡ g.meta
  pub begins : g.base ≡ slot_start nest.place
  pub fits : reach g ≤ stride nest.place.group
  pub lower : g.tag < nest.place.group.tag
  pub nested : IsNested g nest.place.group

-- a group of a class below 48
pub record IsSmallKind (g : Group) : Type 0 where
  pub low : g.tag < 49
  pub fits : units g.tag * (g.last + 1) < 65536

-- a group of class 63
pub record IsLoneKind (g : Group) : Type 0 where
  pub lone : g.tag ≡ 64
  pub single : g.last ≡ 0

-- the class and the number of slots of a live group
abbrev pub IsKind : Group → Type 0
IsKind g = IsSmallKind g ⊎ IsLoneKind g

-- the cells of a live group's meta besides mem, the masks, the last index and maplen
pub record IsMeta (ws : List ℕ) (g : Group) : Type 0 where
  pub links : (b : ℕ) → b < 16 → b % 4 ≡ 0 → cell ws (g.meta + b) ≡ 0
  pub mem_high : cell ws (g.meta + 20) ≡ 0
  pub flags_high : cell ws (g.meta + 36) ≡ 0
  pub freeable : cell ws (g.meta + 32) / 32 % 2 ≡ 1
  pub class : cell ws (g.meta + 32) / 64 % 64 + 1 ≡ g.tag

-- a live group
pub record IsLaid (ws : List ℕ) (d : Layout) (g : Group) : Type 0 where
  -- its meta is one of an area, and has its fields
  pub in_area : InArea d g.meta
  pub low : g.tag < 65
  pub many : g.last < 32
  pub kind : IsKind g
  pub fields : IsMeta ws g
  -- the two cells at its base are the meta's address and 0
  pub whole : g.base % 16 ≡ 0
  pub base : cell ws g.base ≡ g.meta
  pub base_high : cell ws (g.base + 4) ≡ 0
  -- the low byte of each slot's header cell, and of the past cell, is 0
  pub lows : (i : ℕ) → i ≤ g.last + 1 → cell ws (header g i) % 256 ≡ 0
  -- it begins a run, or lies in a slot
  pub lies : OnRun d.runs g ⊎ InNest d.nests g

-- the group that a slot carries is live, and lies at the slot's start
pub record IsCarried (ws : List ℕ) (n : Nest) : Type 0 where
  pub whole : n.child % 4 ≡ 0
  pub live : 0 < tag ws n.child
  pub base : cell ws (n.child + 16) ≡ slot_start n.place

-- the address is that of a noted area
pub record IsAreaAt (runs : List Run) (a : ℕ) : Type 0 where
  pub run : Run
  pub noted : Among run runs
  pub is_area : run.area ≡ true
  pub is : a ≡ run.addr

-- an area: one page, its check, the link to another area or 0, the number of metas, and 0 behind them
pub record IsArea (key : Start) (ws : List ℕ) (d : Layout) (r : Run) : Type 0 where
  pub page : r.pages ≡ 1
  pub check : cell ws (r.addr + 0) ≡ key.secret % 4294967296
  pub check_high : cell ws (r.addr + 4) ≡ key.secret / 4294967296
  pub next : (cell ws (r.addr + 8) ≡ 0) ⊎ IsAreaAt d.runs (cell ws (r.addr + 8))
  pub next_high : cell ws (r.addr + 12) ≡ 0
  pub nslots : cell ws (r.addr + 16) ≡ 101
  pub nslots_high : cell ws (r.addr + 20) ≡ 0
  pub tail : (b : ℕ) → b % 4 ≡ 0 → 4064 ≤ b → b < 4096 → cell ws (r.addr + b) ≡ 0

-- page 0: 48 active words, each 0 or a meta's place, the counter at 196, and else 0
pub record IsFirstPage (key : Start) (ws : List ℕ) : Type 0 where
  pub active : (c : ℕ) → c < 48 → (cell ws (4 * (c + 1)) ≡ 0)
      ⊎ IsMetaPlace (cell ws (4 * (c + 1))) key.pages
  pub rest : (a : ℕ) → a % 4 ≡ 0 → a < 4096 → (a < 4) ⊎ (192 < a) → a ≢ 196 → cell ws a ≡ 0

-- the numbers that a space begins with
pub record InRange (key : Start) : Type 0 where
  pub enough : 16 ≤ key.pages
  pub addressed : key.pages ≤ 16384
  pub lower_whole : key.lower % 4096 ≡ 0
  pub upper_whole : key.upper % 4096 ≡ 0
  pub above : 4096 ≤ key.lower
  pub ordered : key.lower ≤ key.upper
  pub below : key.upper ≤ 4096 * key.pages
  pub secret : key.secret < 18446744073709551616
  pub refusals : key.refusals < 4611686018427387904
  pub cap : key.cap < 9223372036854771711
