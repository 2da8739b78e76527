-- How a core begins, and what it hands back.
use Rattle.std.specs.Prelude.{◌≡◌, ℕ, ◌+◌, ◌≤◌, max, true, List, [], replicate, sum_by}
use Rattle.ng_mapper.specs.Mapping.{Span}
use Rattle.ng_mapper.specs.Runs as mapper
use Rattle.ng_mapper.specs.declared.refusals.Refusals.{Refusals}
use Rattle.ng_shelf.specs.Parents.{ParentTable}
use Rattle.ng_shelf.specs.Stock.{Stock, free_of}
use Rattle.ng_lists.specs.Rings.{RingTable}
use Rattle.ng_ledger.specs.Runs.{AreMapped, areas_in, pages_of}
use Rattle.ng_space.specs.Callers.{opened}
use Rattle.ng_space.specs.Names.{Facts}
use Rattle.ng_terms.specs.Accounts.{pages_for}
use Rattle.ng_view.specs.declared.view.Start.{Start}
use Rattle.ng_view.specs.declared.view.View.{View}

-- the seat is one that a space was opened with, for some number of hands
pub record IsFreshSeat (start : Start) (v : View) : Type 0 where
  pub hands : ℕ
  pub view : v ≡ opened start hands

-- the mapper is that of the start: no run is live, and it refused so many calls
pub record IsFreshMapper (start : Start) (span : Span) (live : List mapper.Run) (refused : Refusals) : Type 0 where
  pub lower : span.lower ≡ start.lower
  pub upper : span.upper ≡ start.upper
  pub size : span.size ≡ start.pages
  pub none : live ≡ []
  pub count : refused.count ≡ start.refusals

-- the tables of a core, before a group is built
pub record Empty : Type 0 where
  pub rings : RingTable
  pub stock : Stock
  pub parents : ParentTable

-- they are empty, and for a space of so many pages
pub record AreEmpty (pages : ℕ) (tables : Empty) : Type 0 where
  pub rings : tables.rings.rings ≡ replicate 48 []
  pub stock : free_of tables.stock ≡ []
  pub area : tables.stock.area ≡ 0
  pub ring_pages : tables.rings.pages ≡ pages
  pub stock_pages : tables.stock.pages ≡ pages
  pub parent_pages : tables.parents.pages ≡ pages

-- no refused map call asked for more pages than one had before the heap began, than a group of slots has, or than a block of
-- the largest size that is asked for needs
abbrev pub IsMostBounded : Facts → Refusals → Type 0
IsMostBounded facts refused = refused.most ≤ max facts.most (max 512 (pages_for facts.start.cap))

-- what a core hands back: the mapper has the heap's bounds, and refused no call for more pages than were asked; the noted runs
-- are its live ones, which are a page for each area and the pages of each live group with pages, and no number above its
-- refusals was noted; and the seat leads and has no slot in motion, no excuse and no book
pub record IsHandedBack (facts : Facts) (v : View) (span : Span) (live : List mapper.Run) (refused : Refusals) : Type 0 where
  pub lower : span.lower ≡ facts.start.lower
  pub upper : span.upper ≡ facts.start.upper
  pub size : span.size ≡ facts.start.pages
  pub most : IsMostBounded facts refused
  pub mapped : AreMapped v.desk.layout.runs live
  pub pages : sum_by (λ (run : mapper.Run). run.1) live ≡ areas_in v.desk.layout.runs + pages_of v.desk.groups
  pub counted : v.desk.refusals ≤ refused.count
  pub leads : v.leads ≡ true
  pub still : v.held ≡ []
  pub answered : v.excuses ≡ []
  pub bookless : v.books ≡ []
