-- The metas that come of the heap's stock.
use Rattle.std.specs.Prelude.{◌≡◌, ◌≢◌, ◌⊎◌, ℕ, ◌+◌, true, List, [], ◌∷◌, ◌++◌, Some, Contains, drop, slice_get}
use Rattle.ng_mapper.specs.Runs as mapper
use Rattle.ng_shelf.specs.Stock.{Stock, free_of, metas_of}
use Rattle.ng_view.specs.Layouts.{IsAreaAt}
use Rattle.ng_view.specs.declared.view.Run.{Run}
use Rattle.ng_view.specs.declared.view.Start.{Start}
use Rattle.ng_view.specs.declared.view.View.{View}
use Rattle.ng_view.specs.Notes.{IsNewRun}
use Rattle.ng_build.specs.Areas.{with_runs}
use Rattle.ng_build.specs.Cells.{KeepsOutside, OnlyCells}
use Rattle.ng_ledger.specs.Metas.{AreFree, AreOfAreas, IsBlankMeta, IsFreeMeta, IsInHand}
use Rattle.ng_ledger.specs.Runs.{AreServed}
use Rattle.ng_supply.specs.Runs.{IsInSpace}

-- the metas of the stock are free for the lock's seat, its area is a noted one, and each run and each live group has its
-- place
pub record IsHeapStock (start : Start) (v : View) (s : Stock) : Type 0 where
  pub pages : s.pages ≡ start.pages
  pub free : AreFree start.pages v.desk.layout v.desk.groups v.desk.cells (free_of s)
  pub area : (s.area ≡ 0) ⊎ IsAreaAt v.desk.layout.runs s.area
  pub of_areas : AreOfAreas v.desk.layout v.desk.groups
  pub served : AreServed v.desk.layout.runs v.desk.groups

-- the page that became an area
abbrev pub area_run : ℕ → Run
area_run a = record { addr = a; pages = 1; area = true }

-- a page was mapped at a and became an area, whose metas the stock has: word 0 alone was read, at each of two notes
pub record AddsArea (start : Start) (v : View) (live : List mapper.Run) (s : Stock) (a : ℕ) (w : View) (live' : List mapper.Run) (s' : Stock) : Type 0 where
  pub space : IsInSpace start a 1
  pub new : IsNewRun start v a 1
  pub mapped : mapper.AddsRun live live' (a, 1)
  pub view : OnlyCells (with_runs v (area_run a ∷ v.desk.layout.runs)) w
  pub kept : KeepsOutside v w a (a + 4096)
  pub reads : (first : ℕ) × (second : ℕ) × (w.readings ≡ v.readings ++ (0, first) ∷ (0, second) ∷ [])
  pub stock : s' ≡ record s { unused = metas_of a; area = a }

-- the next meta of the stock was taken, which then has it no more
pub record IsNext (s : Stock) (m : ℕ) (s' : Stock) : Type 0 where
  pub first : slice_get (free_of s) 0 ≡ Some m
  pub rest : free_of s' ≡ drop 1 (free_of s)
  pub gone : ¬ Contains (free_of s') m
  pub area : s'.area ≡ s.area
  pub pages : s'.pages ≡ s.pages

-- the stock had a meta, and nothing but it was taken
pub record TakesNext (v : View) (live : List mapper.Run) (s : Stock) (m : ℕ) (w : View) (live' : List mapper.Run) (s' : Stock) : Type 0 where
  pub next : IsNext s m s'
  pub seat : w ≡ v
  pub runs : live' ≡ live

-- the stock was empty: a page was mapped and became an area, of whose metas the first was taken
pub record TakesOfArea (start : Start) (v : View) (live : List mapper.Run) (s : Stock) (m : ℕ) (w : View) (live' : List mapper.Run) (s' : Stock) : Type 0 where
  pub none : free_of s ≡ []
  pub area : ℕ
  pub with_metas : Stock
  pub adds : AddsArea start v live s area w live' with_metas
  pub next : IsNext with_metas m s'

-- the meta is in hand besides those that were, and of these what was known to be 0 still is
pub record ComesInHand (v : View) (s : Stock) (m : ℕ) (w : View) (s' : Stock) : Type 0 where
  pub taken : IsInHand w.desk.layout w.desk.groups (free_of s') m
  pub none_more : (n : ℕ) → IsInHand w.desk.layout w.desk.groups (free_of s') n → n ≢ m → IsInHand v.desk.layout v.desk.groups (free_of s) n
  pub none_less : (n : ℕ) → IsInHand v.desk.layout v.desk.groups (free_of s) n → IsInHand w.desk.layout w.desk.groups (free_of s') n
  pub blank : (n : ℕ) → IsInHand v.desk.layout v.desk.groups (free_of s) n → IsBlankMeta v.desk.cells n → IsBlankMeta w.desk.cells n

-- a free meta was taken: of the view only runs, what is known of cells, and readings changed
pub record FindsMeta (start : Start) (v : View) (live : List mapper.Run) (s : Stock) (m : ℕ) (w : View) (live' : List mapper.Run) (s' : Stock) : Type 0 where
  pub view : OnlyCells (with_runs v w.desk.layout.runs) w
  pub source : TakesNext v live s m w live' s' ⊎ TakesOfArea start v live s m w live' s'
  pub free : IsFreeMeta start.pages w.desk.layout w.desk.groups w.desk.cells m
  pub hand : ComesInHand v s m w s'
