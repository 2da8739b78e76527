use Rattle.std.specs.Prelude.{length}
use Rattle.ng_heap_tests.proofs.content_tests.a_dirty_slot_is_cleared.Given as goal

-- the heap that was just made
abbrev pub ghosts-clear_dirty : goal.ghosts-clear_dirty
ghosts-clear_dirty g a = record { facts = record { table = a.blank.table; start = a.blank.start; hands = length a.blank.rooms; most = 0 } }
