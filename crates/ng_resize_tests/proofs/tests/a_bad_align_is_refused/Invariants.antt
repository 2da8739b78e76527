use Rattle.std.specs.Prelude.{length}
use Rattle.ng_resize_tests.proofs.tests.a_bad_align_is_refused.Given as goal

-- the heap that was just made
abbrev pub ghosts-align : goal.ghosts-align
ghosts-align g a = record { facts = record { table = a.blank.table; start = a.blank.start; hands = length a.blank.rooms; most = 0 } }
