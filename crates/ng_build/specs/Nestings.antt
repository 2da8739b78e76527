-- A group that comes to live in a slot of another.
use Rattle.std.specs.Prelude.{◌≡◌, ◌⊎◌, ℕ, ◌+◌, ◌-◌, ◌*◌, ◌/◌, ◌<◌, ◌≤◌, eqb, cond, All, List, ◌∷◌, ◌++◌, Some}
use Rattle.ng_header.specs.Header.{cell_with}
use Rattle.ng_view.specs.Blocks.{Knows}
use Rattle.ng_view.specs.Layouts.{IsNested}
use Rattle.ng_view.specs.Lists.{edit, find, without}
use Rattle.ng_view.specs.Places.{header, reach, slot_start, stride}
use Rattle.ng_view.specs.Steps.{in_motion}
use Rattle.ng_view.specs.declared.view.Group.{Group}
use Rattle.ng_view.specs.declared.view.Held.{Held}
use Rattle.ng_view.specs.declared.view.Store.{Store}
use Rattle.ng_view.specs.declared.view.View.{View}
use Rattle.ng_build.specs.declared.nesting.Carrier.{Carrier}
use Rattle.ng_build.specs.Cells.{KeepsOutside, knowing}

-- the slot with other known cells
abbrev pub recalling : List (ℕ × ℕ) → Held → Held
recalling cells h = record h { cells = cells }

-- w is v but for what is known of the cells of one slot, and for what was stored
pub record OnlySlot (v : View) (meta index : ℕ) (w : View) : Type 0 where
  pub cells : List (ℕ × ℕ)
  pub view : w ≡ record v { held = edit meta index (recalling cells) v.held; stores = w.stores }

-- each store that came lies before an address, or is of 0
pub record StoresBefore (v w : View) (to : ℕ) : Type 0 where
  pub more : List Store
  pub stores : w.stores ≡ v.stores ++ more
  pub each : All (λ store. (store.at < to) ⊎ (store.value ≡ 0)) more

-- the cell at a is known to have the value x, in that slot of the seat
abbrev pub SeesIn : View → ℕ → ℕ → ℕ → ℕ → Type 0
SeesIn v meta index a x = (h : Held) → find meta index v.held ≡ Some h → Knows a x h

-- the seat has the slot of a carrier, which is one of its group's, whose numbers are these. The group g
-- may lie in it, from its start on
pub record HasCarrier (v : View) (c : Carrier) (g : Group) : Type 0 where
  pub slot : Held
  pub found : find c.meta c.index v.held ≡ Some slot
  pub storage : c.storage ≡ slot.place.group.base + 16
  pub step : c.stride ≡ stride slot.place.group
  pub within : slot.place.index ≤ slot.place.group.last
  pub few : slot.place.group.last < 32
  pub begins : g.base ≡ slot_start slot.place
  pub nested : IsNested g slot.place.group
  pub fits : reach g ≤ stride slot.place.group
  pub lower : g.tag < slot.place.group.tag

-- the header of a carrier: the slot's index, the reserved field that tells of a group, and the slot's offset
abbrev pub carrying_header : Carrier → ℕ → ℕ
carrying_header c base = cell_with (record { check = 0; index = c.index; reserved = 6; offset = (base - c.storage) / 16 })

-- it is known, and so is the head of the group at the slot's start: its meta, and the highest index in use
pub record HasWritten (v : View) (c : Carrier) (base meta active : ℕ) : Type 0 where
  pub header : SeesIn v c.meta c.index (base - 4) (carrying_header c base)
  pub meta_low : SeesIn v c.meta c.index base meta
  pub meta_high : SeesIn v c.meta c.index (base + 4) 0
  pub index : SeesIn v c.meta c.index (base + 8) active

-- the header cells of a group are known to be 0, but for the one at the carrier's end
abbrev pub AreHeadersLow : View → ℕ → ℕ → Group → ℕ → Type 0
AreHeadersLow v meta index g room = (i : ℕ) → i ≤ g.last + 1
    → SeesIn v meta index (header g i) 0 ⊎ (16 + stride g * i ≡ room)

-- the seat has the slot, which begins there and has the three cells of a group's head
pub record HasHead (v : View) (meta index base : ℕ) : Type 0 where
  pub slot : Held
  pub found : find meta index v.held ≡ Some slot
  pub begins : base ≡ slot_start slot.place
  pub room : 16 ≤ stride slot.place.group

-- the view with a live group that the slot h of that meta and index carries, which is out of motion: the
-- group's own slot 0 is in motion, it is listed, and where no other slot is in use, its avail mask is
-- noted as 0
abbrev pub with_nested : View → ℕ → ℕ → Group → ℕ → Held → View
with_nested v meta index g active h = record v {
  held = in_motion g 0 ∷ without meta index v.held;
  desk = record v.desk {
    layout = record {
      runs = v.desk.layout.runs;
      nests = record { place = h.place; child = g.meta } ∷ v.desk.layout.nests;
    };
    groups = g ∷ v.desk.groups;
    listed = g.meta ∷ v.desk.listed;
    zero_avail = cond (eqb active 0) (g.meta ∷ v.desk.zero_avail) v.desk.zero_avail;
  };
}

-- the group is live in the slot of that meta and index: what was known of cells outside its own meta
-- still is, and in its slots only 0 was stored
pub record PublishesSlot (v : View) (meta index : ℕ) (g : Group) (active : ℕ) (w : View) : Type 0 where
  pub view : (h : Held) → find meta index v.held ≡ Some h
      → w ≡ record (knowing (with_nested v meta index g active h) w.desk.cells v.readings) { stores = w.stores }
  pub kept : KeepsOutside v w g.meta (g.meta + 40)
  pub stores : StoresBefore v w (header g 0)
