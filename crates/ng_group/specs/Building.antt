-- Groups that are built.
use Rattle.std.specs.Prelude.{◌≡◌, ℕ, ◌+◌, ◌%◌, ◌↔◌, ◌&&◌, ◌==◌, ◌∷◌, ◌++◌, [], IsTrue, List, if◌then◌else◌, nat_lt, slice_index, slice_set, Contains}
use Rattle.ng_policy.specs.Bounce.{Bounces, IsBouncing}
use Rattle.ng_policy.specs.declared.ask.Ask.{Ask}
use Rattle.ng_shelf.specs.Stock.{free_of}
use Rattle.ng_view.specs.Steps.{in_motion}
use Rattle.ng_view.specs.declared.view.Group.{Group}
use Rattle.ng_view.specs.declared.view.Place.{Place}
use Rattle.ng_view.specs.declared.view.Start.{Start}
use Rattle.ng_ledger.specs.Metas.{IsFreeMeta}
use Rattle.ng_ledger.specs.Standing.{Ledger}
use Rattle.ng_group.specs.States.{State}

-- the usage of the next class, which an even class below 32 takes into account
abbrev pub near_of : List ℕ → ℕ → ℕ
near_of usage class = if class % 2 == 0 && nat_lt class 32 then slice_index usage (class + 1) else 0

-- what the policy is asked of a class, by the usage and the bounces
pub record IsAsk (usage : List ℕ) (bounces : Bounces) (class : ℕ) (ask : Ask) : Type 0 where
  pub class_is : ask.class ≡ class
  pub usage_is : ask.usage ≡ slice_index usage class
  pub near_is : ask.near ≡ near_of usage class
  pub bouncing_is : IsTrue ask.bouncing ↔ IsBouncing bounces class

-- the slots of a class are so many more
abbrev pub with_used : List ℕ → ℕ → ℕ → List ℕ
with_used usage class slots = slice_set usage class (slice_index usage class + slots)

-- a call has the meta in hand, and its cells are known to be 0
pub record HasInHand (start : Start) (l : Ledger) (meta : ℕ) : Type 0 where
  pub free : IsFreeMeta start.pages l.seat.desk.layout l.seat.desk.groups l.seat.desk.cells meta
  pub taken : ¬ Contains (free_of l.stock) meta

-- the group of that meta and class has come to live, with so many slots, of which slot 0 is in the seat, in motion. The
-- usage of the class has grown by them, and no other group came
pub record HasBuilt {M P : Type 0} (meta class slots : ℕ) (before after : State M P) : Type 0 where
  pub group : Group
  pub of_meta : group.meta ≡ meta
  pub of_class : group.tag ≡ class + 1
  pub of_slots : group.last + 1 ≡ slots
  pub groups : after.seat.desk.groups ≡ group ∷ before.seat.desk.groups
  pub motion : after.seat.held ≡ in_motion group 0 ∷ []

-- the slot of that index in the group of parent carries the group of meta
pub record IsCarriedBy {M P : Type 0} (meta parent index : ℕ) (before after : State M P) : Type 0 where
  pub place : Place
  pub of_parent : place.group.meta ≡ parent
  pub of_index : place.index ≡ index
  pub nests : after.seat.desk.layout.nests ≡ record { place = place; child = meta } ∷ before.seat.desk.layout.nests

-- of the books and the counter all is as before, and of the seat all but its excuses, its readings and the number of the last
-- refusal; word 0 alone was read
pub record LeavesAll {M P : Type 0} (before after : State M P) : Type 0 where
  pub seat : after.seat ≡ record before.seat {
    excuses = after.seat.excuses;
    readings = after.seat.readings;
    desk = record before.seat.desk { refusals = after.seat.desk.refusals };
  }
  pub noted : (found : ℕ) × (after.seat.readings ≡ before.seat.readings ++ (0, found) ∷ [])
  pub rings : after.rings ≡ before.rings
  pub parents : after.parents ≡ before.parents
  pub usage : after.usage ≡ before.usage
  pub counter : after.counter ≡ before.counter
