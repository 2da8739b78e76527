use Rattle.std.specs.Prelude.{length}
use Rattle.ng_heap_tests.proofs.tests.slots_are_freed_first_and_at_once.Given as goal

-- the heap that was just made
abbrev pub ghosts-free_three : goal.ghosts-free_three
ghosts-free_three g a = record { facts = record { table = a.blank.table; start = a.blank.start; hands = length a.blank.rooms; most = 0 } }
