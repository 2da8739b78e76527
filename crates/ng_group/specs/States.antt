-- What contracts see of a core, and what holds of it.
use Rattle.std.specs.Prelude.{◌≡◌, ℕ, ◌%◌, ◌≤◌, ◌^◌, true, [], List, map, slice_index}
use Rattle.ng_lists.specs.Rings.{RingTable, ring_of}
use Rattle.ng_mapper.specs.Mapping.{Span}
use Rattle.ng_mapper.specs.Runs as mapper
use Rattle.ng_mapper.specs.declared.refusals.Refusals.{Refusals}
use Rattle.ng_policy.specs.Bounce.{Bounces}
use Rattle.ng_shelf.specs.Parents.{ParentTable}
use Rattle.ng_shelf.specs.Stock.{Stock}
use Rattle.ng_view.specs.LockSteps.{active_set}
use Rattle.ng_view.specs.declared.view.Start.{Start}
use Rattle.ng_view.specs.declared.view.View.{View}
use Rattle.ng_ledger.specs.Standing.{InHand, IsOneSpace, Ledger, Stands}

-- the view of the lock's seat, the rings, the free metas, the table of carrying slots, the slots in live groups by
-- class, the bounces, the counter of runs mapped for groups, the mapper and the rules
pub record State (M P : Type 0) : Type 0 where
  pub seat : View
  pub rings : RingTable
  pub stock : Stock
  pub parents : ParentTable
  pub usage : List ℕ
  pub bounces : Bounces
  pub counter : ℕ
  pub mapper : M
  pub rules : P

-- its books
abbrev pub ledger_of : {M P : Type 0} → State M P → Ledger
ledger_of s = record {
  seat = s.seat;
  rings = s.rings;
  stock = s.stock;
  parents = s.parents;
  usage = s.usage;
  counter = s.counter;
}

-- the first meta of a ring, or 0 where there is none
abbrev pub first_of : List ℕ → ℕ
first_of ring = slice_index ring 0

-- the words of page 0 follow the core: the active word of each class is the first meta of its ring, or 0, and the counter's
-- word has the low 32 bits of the counter
pub record AreFollowed (active : List ℕ) (word : ℕ) (table : RingTable) (counter : ℕ) : Type 0 where
  pub firsts : active ≡ map first_of table.rings
  pub low : word ≡ counter % 2 ^ 32

-- the core once the active word of a class has followed its ring
abbrev pub with_active : {M P : Type 0} → State M P → ℕ → State M P
with_active s class = record s { seat = active_set s.seat class (first_of (ring_of s.rings class)) }

-- what holds whenever a call runs: the mapper and the tables are those of the space, the books agree with the seat and
-- the mapper, the words of page 0 follow them, and no number above the mapper's refusals was noted
pub record IsWorking (start : Start) (span : Span) (live : List mapper.Run) (refused : Refusals) (l : Ledger) : Type 0 where
  pub space : IsOneSpace start span l
  pub stands : Stands start live l
  pub followed : AreFollowed l.seat.desk.active l.seat.desk.counter l.rings l.counter
  pub counted : l.seat.desk.refusals ≤ refused.count
  pub leads : l.seat.leads ≡ true
  pub bookless : l.seat.books ≡ []

-- and between two calls: no slot is in motion, no excuse is left, and no meta is in hand
pub record IsResting (start : Start) (span : Span) (live : List mapper.Run) (refused : Refusals) (l : Ledger) : Type 0 where
  pub working : IsWorking start span live refused l
  pub still : l.seat.held ≡ []
  pub answered : l.seat.excuses ≡ []
  pub at_rest : (m : ℕ) → InHand l m → ⊥

-- it holds of a core whose mapper is seen by these
abbrev pub Working : {M P : Type 0} → Start → (M → Span) → (M → List mapper.Run) → (M → Refusals) → State M P → Type 0
Working start span runs refused s = IsWorking start (span s.mapper) (runs s.mapper) (refused s.mapper) (ledger_of s)

abbrev pub Resting : {M P : Type 0} → Start → (M → Span) → (M → List mapper.Run) → (M → Refusals) → State M P → Type 0
Resting start span runs refused s = IsResting start (span s.mapper) (runs s.mapper) (refused s.mapper) (ledger_of s)
