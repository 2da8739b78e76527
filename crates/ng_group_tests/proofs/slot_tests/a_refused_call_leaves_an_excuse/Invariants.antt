use Rattle.std.specs.Prelude.{length}
use Rattle.ng_group_tests.proofs.slot_tests.a_refused_call_leaves_an_excuse.Given as goal

-- the heap that was just made
abbrev pub ghosts-refuse_one : goal.ghosts-refuse_one
ghosts-refuse_one g a = record { facts = record { table = a.blank.table; start = a.blank.start; hands = length a.blank.rooms; most = 0 } }
