use Rattle.std.specs.Prelude.{length}
use Rattle.ng_heap_tests.proofs.tests.damaged_blocks_come_back.Given as goal

-- the heap that was just made
abbrev pub ghosts-free_damaged : goal.ghosts-free_damaged
ghosts-free_damaged g a = record { facts = record { table = a.blank.table; start = a.blank.start; hands = length a.blank.rooms; most = 0 } }
