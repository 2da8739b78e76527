use Rattle.std.specs.Prelude.{length}
use Rattle.ng_group_tests.proofs.cell_tests.an_active_index_is_raised.Given as goal

-- the heap that was just made
abbrev pub ghosts-raise_once : goal.ghosts-raise_once
ghosts-raise_once g a = record { facts = record { table = a.blank.table; start = a.blank.start; hands = length a.blank.rooms; most = 0 } }
