-- The part Knowledge: what a seat knows of the words is so.
use Rattle.std.specs.Prelude.{◌≡◌, ◌≢◌, ◌⊎◌, ℕ, ◌+◌, ◌*◌, ◌%◌, ◌<◌, ◌≤◌, false, List, length, slice_index}
use Rattle.std.specs.Int.{bit_at}
use Rattle.ng_view.specs.Lists.{Among, Each}
use Rattle.ng_view.specs.Cells.{cell, tag, avail, freed}
use Rattle.ng_view.specs.Places.{Owns}
use Rattle.ng_view.specs.Views.{desk_of}
use Rattle.ng_view.specs.Layouts.{Inside, InArea}
use Rattle.ng_view.specs.declared.view.Held.{Held}
use Rattle.ng_view.specs.declared.view.Place.{Place}
use Rattle.ng_view.specs.declared.view.Run.{Run}
use Rattle.ng_view.specs.declared.view.Layout.{Layout}
use Rattle.ng_view.specs.declared.view.Desk.{Desk}
use Rattle.ng_view.specs.declared.view.View.{View}

-- the slot owns the cell at a, which has the value x
pub record IsKnownCell (ws : List ℕ) (p : Place) (a x : ℕ) : Type 0 where
  pub own : Owns p a
  pub whole : a % 4 ≡ 0
  pub value : cell ws a ≡ x

-- each cell that is known of a slot is one of its own, and has that value
abbrev pub IsKnown : List ℕ → Held → Type 0
IsKnown ws h = (a x : ℕ) → Among (a, x) h.cells → IsKnownCell ws h.place a x

-- the cell is one of a noted run at which no live group begins
pub record IsOfFreeRun (ws : List ℕ) (d : Layout) (a : ℕ) : Type 0 where
  pub run : Run
  pub noted : Among run d.runs
  pub plain : run.area ≡ false
  pub inside : Inside run a
  pub free : (m : ℕ) → m % 4 ≡ 0 → 0 < tag ws m → cell ws (m + 16) ≢ run.addr

-- the cell is one of an area's meta that has no live group
pub record IsOfFreeMeta (ws : List ℕ) (d : Layout) (a : ℕ) : Type 0 where
  pub meta : ℕ
  pub whole : meta % 4 ≡ 0
  pub in_area : InArea d meta
  pub free : tag ws meta ≡ 0
  pub from : meta ≤ a
  pub below : a < meta + 40

-- the lock's seat builds or clears the cell
abbrev pub IsFree : List ℕ → Layout → ℕ → Type 0
IsFree ws d a = (a % 4 ≡ 0) × (IsOfFreeRun ws d a ⊎ IsOfFreeMeta ws d a)

-- the avail mask of the live group of m is 0
pub record IsZeroAvail (ws : List ℕ) (m : ℕ) : Type 0 where
  pub whole : m % 4 ≡ 0
  pub live : 0 < tag ws m
  pub zero_bits : (i : ℕ) → i < 32 → bit_at (avail ws m) i ≡ 0

-- the freed mask of the live group of m is 0
pub record IsZeroFreed (ws : List ℕ) (m : ℕ) : Type 0 where
  pub whole : m % 4 ≡ 0
  pub live : 0 < tag ws m
  pub zero_mask : freed ws m ≡ 0

-- the bit i is set in the freed mask of the live group of m
pub record IsSetFreed (ws : List ℕ) (m i : ℕ) : Type 0 where
  pub whole : m % 4 ≡ 0
  pub few : i < 32
  pub live : 0 < tag ws m
  pub bit : bit_at (freed ws m) i ≡ 1

-- what the desk says of masks is so
pub record Masks (ws : List ℕ) (d : Desk) : Type 0 where
  -- each avail mask noted as 0 is 0
  pub zero_avail : (m : ℕ) → Among m d.zero_avail → IsZeroAvail ws m
  -- each freed mask noted as 0 is 0
  pub zero_freed : (m : ℕ) → Among m d.zero_freed → IsZeroFreed ws m
  -- each freed bit noted as set is set
  pub set_freed : (m i : ℕ) → Among {A = ℕ × ℕ} (m, i) d.set_freed → IsSetFreed ws m i

-- the 49 cells of page 0 have the desk's numbers
pub record Numbers (ws : List ℕ) (d : Desk) : Type 0 where
  pub count : length d.active ≡ 48
  pub active : (c : ℕ) → c < 48 → cell ws (4 * (c + 1)) ≡ slice_index d.active c
  pub counter : cell ws 196 ≡ d.counter

-- the desk's cells are ones that the lock's seat builds or clears, and have those values
abbrev pub HasFreeCells : List ℕ → Desk → Type 0
HasFreeCells ws d = (a x : ℕ) → Among {A = ℕ × ℕ} (a, x) d.cells → IsFree ws d.layout a
    × (cell ws a ≡ x)

-- what the lock's seat knows
pub record Noted (ws : List ℕ) (d : Desk) : Type 0 where
  pub free : HasFreeCells ws d
  pub masks : Masks ws d
  pub numbers : Numbers ws d

pub record Knowledge (ws : List ℕ) (vs : List View) : Type 0 where
  -- the known cells of the slots that a seat holds
  pub each : Each vs (λ u. (h : Held) → Among h u.held → IsKnown ws h)
  -- what stands on the desk
  pub desk : Noted ws (desk_of vs)
