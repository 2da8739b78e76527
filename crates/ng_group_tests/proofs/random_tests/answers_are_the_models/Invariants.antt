use Rattle.std.specs.Prelude.{length}
use Rattle.ng_group_tests.proofs.random_tests.answers_are_the_models.Given as goal

-- the heap that was just made
abbrev pub ghosts-run : goal.ghosts-run
ghosts-run g a = record { facts = record { table = a.blank.table; start = a.blank.start; hands = length a.blank.rooms; most = 0 } }
