use Rattle.std.specs.Prelude.{length}
use Rattle.ng_resize_tests.proofs.tests.blocks_stay_where_the_rule_has_them_stay.Given as goal

-- the heap that was just made
abbrev pub ghosts-stay : goal.ghosts-stay
ghosts-stay g a = record { facts = record { table = a.blank.table; start = a.blank.start; hands = length a.blank.rooms; most = 0 } }
