-- What stands whenever a call of the core runs, and between two calls.
use Rattle.std.specs.Prelude.{◌≡◌, ◌⊎◌, ℕ, List}
use Rattle.ng_mapper.specs.Mapping.{Span}
use Rattle.ng_mapper.specs.Runs as mapper
use Rattle.ng_lists.specs.Rings.{RingTable}
use Rattle.ng_shelf.specs.Parents.{ParentTable}
use Rattle.ng_shelf.specs.Stock.{Stock, free_of}
use Rattle.ng_view.specs.Layouts.{IsAreaAt}
use Rattle.ng_view.specs.declared.view.Start.{Start}
use Rattle.ng_view.specs.declared.view.View.{View}
use Rattle.ng_ledger.specs.Carriers.{AreCarried, AreNested}
use Rattle.ng_ledger.specs.Groups.{AreGroups}
use Rattle.ng_ledger.specs.Metas.{AreFree, AreOfAreas, IsBlankMeta, IsInHand}
use Rattle.ng_ledger.specs.Rings.{AreRinged}
use Rattle.ng_ledger.specs.Runs.{AreFounded, AreMapped, AreServed}
use Rattle.ng_ledger.specs.Usage.{AreUsed}

-- what the owner of the lock keeps: the view of its seat, the rings, the free metas, the table of carrying slots, the
-- slots in live groups by class, and the counter of runs mapped for groups
pub record Ledger : Type 0 where
  pub seat : View
  pub rings : RingTable
  pub stock : Stock
  pub parents : ParentTable
  pub usage : List ℕ
  pub counter : ℕ

-- the bounds of the mapper, and the pages of the tables, are the start's
pub record IsOneSpace (start : Start) (span : Span) (l : Ledger) : Type 0 where
  pub lower : span.lower ≡ start.lower
  pub upper : span.upper ≡ start.upper
  pub size : span.size ≡ start.pages
  pub rings : l.rings.pages ≡ start.pages
  pub stock : l.stock.pages ≡ start.pages
  pub parents : l.parents.pages ≡ start.pages

-- the books agree with what the seat knows, and with the mapper's live runs
pub record Stands (start : Start) (live : List mapper.Run) (l : Ledger) : Type 0 where
  pub groups : AreGroups start.pages l.seat.desk.groups
  pub ringed : AreRinged l.seat.desk.groups l.seat.desk.listed l.seat.desk.zero_avail l.rings
  pub free : AreFree start.pages l.seat.desk.layout l.seat.desk.groups l.seat.desk.cells (free_of l.stock)
  pub of_areas : AreOfAreas l.seat.desk.layout l.seat.desk.groups
  pub area : (l.stock.area ≡ 0) ⊎ IsAreaAt l.seat.desk.layout.runs l.stock.area
  pub mapped : AreMapped l.seat.desk.layout.runs live
  pub served : AreServed l.seat.desk.layout.runs l.seat.desk.groups
  pub founded : AreFounded l.seat.desk.layout.runs l.seat.desk.groups
  pub used : AreUsed l.seat.desk.groups l.usage
  pub nested : AreNested l.seat.desk.groups l.seat.desk.layout.nests
  pub carried : AreCarried l.seat.desk.layout.nests l.parents

-- a call has the meta in hand
abbrev pub InHand : Ledger → ℕ → Type 0
InHand l m = IsInHand l.seat.desk.layout l.seat.desk.groups (free_of l.stock) m

-- the metas in hand are the same after a call as before, and are still known to be 0 where they were
pub record KeepsHand (before after : Ledger) : Type 0 where
  pub none_more : (m : ℕ) → InHand after m → InHand before m
  pub none_less : (m : ℕ) → InHand before m → InHand after m
  pub blank : (m : ℕ) → InHand before m → IsBlankMeta before.seat.desk.cells m → IsBlankMeta after.seat.desk.cells m
