use Rattle.std.specs.Prelude.{length}
use Rattle.ng_group_tests.proofs.cell_tests.carrying_slots_have_their_headers.Given as goal

-- the heap that was just made
abbrev pub ghosts-nest_twice : goal.ghosts-nest_twice
ghosts-nest_twice g a = record { facts = record { table = a.blank.table; start = a.blank.start; hands = length a.blank.rooms; most = 0 } }
