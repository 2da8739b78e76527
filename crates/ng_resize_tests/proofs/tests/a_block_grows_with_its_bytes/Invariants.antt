use Rattle.std.specs.Prelude.{length}
use Rattle.ng_resize_tests.proofs.tests.a_block_grows_with_its_bytes.Given as goal

-- the heap that was just made
abbrev pub ghosts-grow : goal.ghosts-grow
ghosts-grow g a = record { facts = record { table = a.blank.table; start = a.blank.start; hands = length a.blank.rooms; most = 0 } }
