-- The part Words: the words of a space are a lawful image of its runs, groups and blocks.
use Rattle.std.specs.Prelude.{◌≡◌, ◌⊎◌, ℕ, ◌+◌, ◌*◌, ◌/◌, ◌%◌, ◌<◌, ◌≤◌, eqb, true, List, length, slice_index}
use Rattle.ng_view.specs.Lists.{Among, Each, total_by, count_of}
use Rattle.ng_view.specs.Cells.{cell, tag, group_at}
use Rattle.ng_view.specs.Views.{desk_of}
use Rattle.ng_view.specs.Layouts.{Inside, IsOutside, IsRun, InArea, IsLaid, IsCarried, IsArea, IsFirstPage, InRange}
use Rattle.ng_view.specs.Blocks.{IsSet}
use Rattle.ng_view.specs.declared.view.Held.{Held}
use Rattle.ng_view.specs.declared.view.Nest.{Nest}
use Rattle.ng_view.specs.declared.view.Run.{Run}
use Rattle.ng_view.specs.declared.view.Layout.{Layout}
use Rattle.ng_view.specs.declared.view.View.{View}
use Rattle.ng_view.specs.declared.view.Start.{Start}

-- the word k is the avail word of an area's meta
pub record IsAvailWord (d : Layout) (k : ℕ) : Type 0 where
  pub meta : ℕ
  pub whole : meta % 4 ≡ 0
  pub in_area : InArea d meta
  pub place : k ≡ meta / 4 + 6

-- the words by themselves, with the runs that are noted and the slots that carry groups
pub record IsLawful (key : Start) (ws : List ℕ) (d : Layout) : Type 0 where
  -- the start is in range, and the words are those of its pages
  pub range : InRange key
  pub long : length ws ≡ 1024 * key.pages
  -- the upper half of every word is 0, but in the avail words of metas
  pub upper : (k : ℕ) → (slice_index ws k < 4294967296) ⊎ IsAvailWord d k
  -- runs are whole pages between the bounds, and disjoint; none is noted twice
  pub in_space : (r : Run) → Among r d.runs → IsRun key r
  pub apart : (r s : Run) (a : ℕ) → Among r d.runs → Among s d.runs → Inside r a → Inside s a → r ≡ s
  pub once : (a : ℕ) → total_by (λ (r : Run). count_of (eqb r.addr a)) d.runs ≤ 1
  -- an avail word with a tag is that of a live group
  pub groups : (m : ℕ) → m % 4 ≡ 0 → 0 < tag ws m → IsLaid ws d (group_at ws m)
  -- each slot that carries has one live group at its start, and no other slot has that group
  pub carried : (n : Nest) → Among n d.nests → IsCarried ws n
  pub single : (m : ℕ) → total_by (λ (n : Nest). count_of (eqb n.child m)) d.nests ≤ 1
  -- each run that is noted as an area is one
  pub areas : (r : Run) → Among r d.runs → r.area ≡ true → IsArea key ws d r
  -- page 0 has the words of classes and the counter, and a cell of another page in no run is 0
  pub first : IsFirstPage key ws
  pub outside : (a : ℕ) → a % 4 ≡ 0 → 4096 ≤ a → IsOutside d a → cell ws a ≡ 0

pub record Words (key : Start) (ws : List ℕ) (vs : List View) : Type 0 where
  pub lawful : IsLawful key ws (desk_of vs).layout
  -- each live block lies in its slot, and its header carries the slot's index and the block's offset;
  -- the header's cells
  -- are known ones, so that they are the words' by the part Knowledge
  pub blocks : Each vs (λ u. (h : Held) → Among h u.held → IsSet h h.block)
