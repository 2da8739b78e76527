use Rattle.std.specs.Prelude.{length}
use Rattle.ng_group_tests.proofs.slot_tests.four_slots_come_and_go.Given as goal

-- the heap that was just made
abbrev pub ghosts-serve_four : goal.ghosts-serve_four
ghosts-serve_four g a = record { facts = record { table = a.blank.table; start = a.blank.start; hands = length a.blank.rooms; most = 0 } }
