-- What a name says of its heap.
use Rattle.std.specs.Prelude.{ℕ, []}
use Rattle.atomic_table.specs.Seated.{TableId}
use Rattle.ng_view.specs.declared.view.Start.{Start}

-- which table has the heap's cells, what the heap started with, how many hands it has, and the most pages that any
-- refused map call of its mapper had asked for when the heap was opened
pub record Facts : Type 0 where
  pub table : TableId
  pub start : Start
  pub hands : ℕ
  pub most : ℕ

-- the table of no heap
abbrev pub no_table : TableId
no_table = record {
  words = 0;
  slots = 0;
  views_name = 0;
  atom = 0;
  block = 0;
  offset = 0;
  slot_names = [];
}

-- the start of no heap
abbrev pub no_start : Start
no_start = record { pages = 0; lower = 0; upper = 0; secret = 0; refusals = 0; cap = 0 }

-- the facts of no heap
abbrev pub no_facts : Facts
no_facts = record { table = no_table; start = no_start; hands = 0; most = 0 }
