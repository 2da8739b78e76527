use Rattle.std.specs.Prelude.{length}
use Rattle.ng_heap_tests.proofs.tests.large_blocks_have_runs_of_their_own.Given as goal

-- the heap that was just made
abbrev pub ghosts-give_large : goal.ghosts-give_large
ghosts-give_large g a = record { facts = record { table = a.blank.table; start = a.blank.start; hands = length a.blank.rooms; most = 0 } }
