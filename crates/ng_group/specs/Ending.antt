-- Groups that end.
use Rattle.std.specs.Prelude.{◌≡◌, ◌≢◌, ◌⊎◌, ℕ, ◌+◌, ◌*◌, ◌<◌, Contains, IfNone, IfSome, List, Option, Some, false, slice_get}
use Rattle.ng_lists.specs.Rings.{IsListed, ring_of}
use Rattle.ng_mapper.specs.Runs as mapper
use Rattle.ng_policy.specs.Bounce.{stamped, stepped}
use Rattle.ng_shelf.specs.Parents.{parent_of}
use Rattle.ng_view.specs.LockSteps.{groups_but, ring_read}
use Rattle.ng_view.specs.Steps.{read}
use Rattle.ng_view.specs.declared.view.View.{View}
use Rattle.ng_view.specs.Groups.{Retires}
use Rattle.ng_build.specs.Areas.{without_run}
use Rattle.ng_build.specs.Cells.{AreZero, KeepsOutside, OnlyCells, ReadsWithin}
use Rattle.ng_build.specs.Nestings.{OnlySlot, StoresBefore}
use Rattle.ng_ledger.specs.Rings.{IsIn, left}
use Rattle.ng_ledger.specs.Usage.{AreUsed}
use Rattle.ng_serve.specs.Takes.{StocksInUse}
use Rattle.ng_serve.specs.declared.group.LiveGroup.{LiveGroup}
use Rattle.ng_group.specs.States.{State, with_active}

-- the group left its ring, as was noted by its freed mask, and the active word of the class followed: nothing else changed
pub record Unlists {M P : Type 0} (class meta : ℕ) (before after : State M P) : Type 0 where
  pub member : IsIn before.rings class meta
  pub mask : ℕ
  pub state : after ≡ with_active
      (record before {
        seat = read (ring_read before.seat meta false mask) (meta + 28) mask;
        rings = left before.rings class meta;
      })
      class

-- the freed slots in use of a ring's first group, if there is one, became available: nothing else changed
abbrev pub StocksFirst : {M P : Type 0} → ℕ → State M P → State M P → Type 0
StocksFirst class before after = IfNone (slice_get (ring_of before.rings class) 0) (after ≡ before)
    × IfSome (slice_get (ring_of before.rings class) 0)
    (λ next. StocksInUse before.seat next after.seat × (after ≡ record before { seat = after.seat }))

-- the group left its ring; where it was the first, the freed slots in use of the next became available
pub record LeavesRing {M P : Type 0} (class meta : ℕ) (before after : State M P) : Type 0 where
  pub unlisted : State M P
  pub unlists : Unlists class meta before unlisted
  pub first : slice_get (ring_of before.rings class) 0 ≡ Some meta → StocksFirst class unlisted after
  pub other : slice_get (ring_of before.rings class) 0 ≢ Some meta → after ≡ unlisted

-- the group was in no ring, or left its own
abbrev pub LeavesAnyRing : {M P : Type 0} → ℕ → ℕ → State M P → State M P → Type 0
LeavesAnyRing class meta before after = ((¬ IsListed before.rings meta) × (after ≡ before)) ⊎ LeavesRing class meta before after

-- the group of that meta is no more, and the cells of its meta were read and are known to be 0: only the seat and the usage
-- have changed
pub record EndsGroup {M P : Type 0} (meta : ℕ) (before after : State M P) : Type 0 where
  pub state : after ≡ record before { seat = after.seat; usage = after.usage }
  pub gone : View
  pub retires : Retires before.seat meta gone
  pub cells : OnlyCells gone after.seat
  pub zero : AreZero after.seat meta (meta + 40)
  pub kept : KeepsOutside gone after.seat meta (meta + 40)
  pub reads : ReadsWithin gone after.seat meta (meta + 40)
  pub used : AreUsed (groups_but meta before.seat.desk.groups) after.usage

-- the run of a group that ended, and no other, went, of which the cells were read: the class was stamped, and nothing else
-- changed but what is known of cells
pub record DropsRun {M P : Type 0} (runs : M → List mapper.Run) (found : LiveGroup) (before after : State M P) : Type 0 where
  pub paged : 0 < found.maplen
  pub state : after ≡ record before {
    seat = after.seat;
    bounces = stamped (stepped before.bounces) found.class;
    mapper = after.mapper;
  }
  pub cells : OnlyCells (without_run before.seat found.base) after.seat
  pub reads : ReadsWithin before.seat after.seat found.base (found.base + 4096 * found.maplen)
  pub removes : mapper.RemovesRun (runs before.mapper) (runs after.mapper) (found.base, found.maplen)
  pub gone : ¬ Contains (runs after.mapper) (found.base, found.maplen)

-- the slot that carried a group which ended is told: nothing changed but what is known of its cells, in which nothing but 0
-- was stored
pub record FreesSlot {M P : Type 0} (meta : ℕ) (found : LiveGroup) (slot : ℕ × ℕ) (before after : State M P) : Type 0 where
  pub pageless : found.maplen ≡ 0
  pub carries : parent_of before.parents meta ≡ Some slot
  pub only : OnlySlot before.seat slot.0 slot.1 after.seat
  pub stores : StoresBefore before.seat after.seat 0
  pub state : after ≡ record before { seat = after.seat }

-- a group whose slots are all in the seat left its ring and is no more; then its run went, or the slot that carried it is
-- the answer
pub record Ends {M P : Type 0} (runs : M → List mapper.Run) (meta : ℕ) (found : LiveGroup)
    (answer : Option (ℕ × ℕ)) (before after : State M P) : Type 0 where
  pub unlisted : State M P
  pub retired : State M P
  pub leaves : LeavesAnyRing found.class meta before unlisted
  pub ends : EndsGroup meta unlisted retired
  pub run : IfNone answer (DropsRun runs found retired after)
  pub slot : IfSome answer (λ slot. FreesSlot meta found slot retired after)
