use Rattle.std.specs.Prelude.{length}
use Rattle.ng_heap_tests.proofs.area_tests.a_second_area_is_linked.Given as goal

-- the heap that was just made
abbrev pub ghosts-fill_an_area : goal.ghosts-fill_an_area
ghosts-fill_an_area g a = record { facts = record { table = a.blank.table; start = a.blank.start; hands = length a.blank.rooms; most = 0 } }
